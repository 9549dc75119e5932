-- The words of the schema language.
use Rattle.std.specs.Prelude.{ℕ, Bool, true, false, List, [], ◌∷◌, Option, Some, None, codes, if◌then◌else◌}
use Rattle.dg_table.specs.Words.{named_in}
use Rattle.dg_text.specs.Tokens.{Tok, is_name, is_at}
use Rattle.dg_values.specs.declared.kind.Kind.{Kind}
use Rattle.dg_values.specs.declared.kind.Kind.TheVariants as kinds
use Rattle.dg_values.specs.declared.kind.Tokenizer.{Tokenizer}
use Rattle.dg_values.specs.declared.kind.Tokenizer.TheVariants as tokenizers
use Rattle.dg_schema.specs.declared.words.Directive.{Directive}
use Rattle.dg_schema.specs.declared.words.Directive.TheVariants as directives

-- the words of kinds
abbrev pub kind_words : List (List ℕ × Kind)
kind_words =
    (codes "default", kinds.Default) ∷ (codes "int", kinds.Int) ∷ (codes "string", kinds.Text) ∷ (codes "bool", kinds.Bool)
    ∷ (codes "dateTime", kinds.Time) ∷ (codes "uid", kinds.Uid) ∷ (codes "datetime", kinds.Time) ∷ []

-- the words of tokenizers
abbrev pub tokenizer_words : List (List ℕ × Tokenizer)
tokenizer_words =
    (codes "exact", tokenizers.Exact) ∷ (codes "hash", tokenizers.Hash) ∷ (codes "term", tokenizers.Term)
    ∷ (codes "trigram", tokenizers.Trigram) ∷ (codes "int", tokenizers.Int) ∷ (codes "bool", tokenizers.Bool)
    ∷ (codes "year", tokenizers.Year) ∷ (codes "month", tokenizers.Month) ∷ (codes "day", tokenizers.Day)
    ∷ (codes "hour", tokenizers.Hour) ∷ []

-- the words of directives, with their @
abbrev pub directive_words : List (List ℕ × Directive)
directive_words =
    (codes "@index", directives.Index) ∷ (codes "@reverse", directives.Reverse) ∷ (codes "@count", directives.Count)
    ∷ (codes "@upsert", directives.Upsert) ∷ []

-- the kind that a word names
abbrev pub kind_of_word : List ℕ → Option Kind
kind_of_word = named_in kind_words

-- the tokenizer that a word names
abbrev pub tokenizer_of_word : List ℕ → Option Tokenizer
tokenizer_of_word = named_in tokenizer_words

-- the directive that a word with its @ names
abbrev pub directive_of_word : List ℕ → Option Directive
directive_of_word = named_in directive_words

-- the place of a kind among the kinds
abbrev pub kind_place : Kind → ℕ
kind_place kinds.Default = 0
kind_place kinds.Int = 1
kind_place kinds.Text = 2
kind_place kinds.Bool = 3
kind_place kinds.Time = 4
kind_place kinds.Uid = 5

-- a Name that is a scalar
abbrev pub kind_meant : Tok → Option Kind
kind_meant token = if is_name token then kind_of_word token.text else None

-- a Name that is a tokenizer
abbrev pub tokenizer_meant : Tok → Option Tokenizer
tokenizer_meant token = if is_name token then tokenizer_of_word token.text else None

-- an At that is a directive
abbrev pub directive_meant : Tok → Option Directive
directive_meant token = if is_at token then directive_of_word token.text else None

-- the tokenizer is one of the kind's
abbrev pub fits_kind : Kind → Tokenizer → Bool
fits_kind kinds.Text t = of_text t where
  of_text : Tokenizer → Bool
  of_text tokenizers.Exact = true
  of_text tokenizers.Hash = true
  of_text tokenizers.Term = true
  of_text tokenizers.Trigram = true
  of_text _ = false
fits_kind kinds.Int t = of_int t where
  of_int : Tokenizer → Bool
  of_int tokenizers.Int = true
  of_int _ = false
fits_kind kinds.Bool t = of_bool t where
  of_bool : Tokenizer → Bool
  of_bool tokenizers.Bool = true
  of_bool _ = false
fits_kind kinds.Time t = of_time t where
  of_time : Tokenizer → Bool
  of_time tokenizers.Year = true
  of_time tokenizers.Month = true
  of_time tokenizers.Day = true
  of_time tokenizers.Hour = true
  of_time _ = false
fits_kind _ t = false

-- the tokenizer that @index stands for without a list
abbrev pub default_token : Kind → Option Tokenizer
default_token kinds.Int = Some tokenizers.Int
default_token kinds.Bool = Some tokenizers.Bool
default_token kinds.Time = Some tokenizers.Year
default_token _ = None

-- the kind of nodes
abbrev pub is_uid : Kind → Bool
is_uid kinds.Uid = true
is_uid _ = false

-- What definitions print as.
use Rattle.std.specs.Prelude.{ℕ, Bool, true, false, List, [], ◌∷◌, ◌++◌, codes, flat_map}
use Rattle.std.specs.declared.cmp.Ordering.{Ordering}
use Rattle.dg_values.specs.Order.{text_cmp}
use Rattle.dg_values.specs.Ascending.{ascending}
use Rattle.dg_values.specs.declared.kind.Kind.{Kind}
use Rattle.dg_values.specs.declared.kind.Kind.TheVariants as kinds
use Rattle.dg_values.specs.declared.kind.Tokenizer.{Tokenizer}
use Rattle.dg_values.specs.declared.kind.Tokenizer.TheVariants as tokenizers
use Rattle.dg_schema.specs.declared.definition.PredDef.{PredDef}

-- the word of a kind
abbrev pub kind_word : Kind → List ℕ
kind_word kinds.Default = codes "default"
kind_word kinds.Int = codes "int"
kind_word kinds.Text = codes "string"
kind_word kinds.Bool = codes "bool"
kind_word kinds.Time = codes "dateTime"
kind_word kinds.Uid = codes "uid"

-- the word of a tokenizer
abbrev pub tokenizer_word : Tokenizer → List ℕ
tokenizer_word tokenizers.Exact = codes "exact"
tokenizer_word tokenizers.Hash = codes "hash"
tokenizer_word tokenizers.Term = codes "term"
tokenizer_word tokenizers.Trigram = codes "trigram"
tokenizer_word tokenizers.Int = codes "int"
tokenizer_word tokenizers.Bool = codes "bool"
tokenizer_word tokenizers.Year = codes "year"
tokenizer_word tokenizers.Month = codes "month"
tokenizer_word tokenizers.Day = codes "day"
tokenizer_word tokenizers.Hour = codes "hour"

-- a type: a scalar, or a list of it
abbrev pub type_text : Kind → Bool → List ℕ
type_text kind false = kind_word kind
type_text kind true = codes "[" ++ (kind_word kind ++ codes "]")

-- one tokenizer more
abbrev pub next_text : Tokenizer → List ℕ
next_text tokenizer = codes ", " ++ tokenizer_word tokenizer

-- ` @index(..)` with `, ` between the tokenizers, and nothing where there are none
abbrev pub index_text : List Tokenizer → List ℕ
index_text [] = []
index_text (first ∷ more) = codes " @index(" ++ (tokenizer_word first ++ (flat_map next_text more ++ codes ")"))

-- the text where it holds
abbrev pub where_so : Bool → List ℕ → List ℕ
where_so true text = text
where_so false text = []

-- the line of a definition
abbrev pub definition_text : PredDef → List ℕ
definition_text d =
    d.name ++ (codes ": " ++ (type_text d.kind d.list ++ (index_text d.tokens ++ (where_so d.reverse (codes " @reverse")
    ++ (where_so d.count (codes " @count") ++ (where_so d.upsert (codes " @upsert") ++ codes " .\n"))))))

-- definitions by their names
abbrev pub name_cmp : PredDef → PredDef → Ordering
name_cmp a b = text_cmp a.name b.name

-- the definitions in ascending order of their names
abbrev pub by_name : List PredDef → List PredDef
by_name schema = ascending name_cmp schema

-- the line of each definition, in ascending order of their names
abbrev pub schema_text : List PredDef → List ℕ
schema_text schema = flat_map definition_text (by_name schema)

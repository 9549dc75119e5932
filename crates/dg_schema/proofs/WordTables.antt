-- Where the words that are printed stand in their tables.
use Rattle.std.proofs.Common.{refl, arith}
use Rattle.std.specs.List.{Contains}
use Rattle.dg_table.specs.Words.{placed}
use Rattle.dg_values.specs.Order.{tokenizer_rank}
use Rattle.dg_values.specs.declared.kind.Kind.{Kind}
use Rattle.dg_values.specs.declared.kind.Kind.TheVariants as kinds
use Rattle.dg_values.specs.declared.kind.Tokenizer.{Tokenizer}
use Rattle.dg_values.specs.declared.kind.Tokenizer.TheVariants as tokenizers
use Rattle.dg_schema.specs.Texts.{kind_word, tokenizer_word}
use Rattle.dg_schema.specs.Words.{kind_words, tokenizer_words, kind_place}

-- the word that a kind is printed by stands at the place of the kind
pub kind_there : (kind : Kind) → Contains (placed 0 kind_words) (kind_word kind, kind_place kind)
kind_there kinds.Default = (0, omega arith, refl)
kind_there kinds.Int = (1, omega arith, refl)
kind_there kinds.Text = (2, omega arith, refl)
kind_there kinds.Bool = (3, omega arith, refl)
kind_there kinds.Time = (4, omega arith, refl)
kind_there kinds.Uid = (5, omega arith, refl)

-- the word of a tokenizer stands at its place
pub tokenizer_there : (tokenizer : Tokenizer) → Contains (placed 0 tokenizer_words) (tokenizer_word tokenizer, tokenizer_rank tokenizer)
tokenizer_there tokenizers.Exact = (0, omega arith, refl)
tokenizer_there tokenizers.Hash = (1, omega arith, refl)
tokenizer_there tokenizers.Term = (2, omega arith, refl)
tokenizer_there tokenizers.Trigram = (3, omega arith, refl)
tokenizer_there tokenizers.Int = (4, omega arith, refl)
tokenizer_there tokenizers.Bool = (5, omega arith, refl)
tokenizer_there tokenizers.Year = (6, omega arith, refl)
tokenizer_there tokenizers.Month = (7, omega arith, refl)
tokenizer_there tokenizers.Day = (8, omega arith, refl)
tokenizer_there tokenizers.Hour = (9, omega arith, refl)

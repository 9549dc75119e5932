-- The kinds that predicates are declared with, and the values of a kind.
use Rattle.std.specs.Prelude.{ℕ, List, Bool, true, false, Option, Some, None, option_map}
use Rattle.dg_values.specs.declared.kind.Kind.{Kind}
use Rattle.dg_values.specs.declared.kind.Kind.TheVariants as kinds
use Rattle.dg_values.specs.declared.kind.Tokenizer.{Tokenizer}
use Rattle.dg_values.specs.declared.kind.Tokenizer.TheVariants as tokenizers
use Rattle.dg_values.specs.declared.value.Value.{Value}
use Rattle.dg_values.specs.declared.value.Posting.TheVariants as postings
use Rattle.dg_schema.specs.declared.definition.PredDef.{PredDef}
use Rattle.dg_schema.specs.Definitions.{definition_of}
use Rattle.dg_graph.specs.Graphs.{is_of_kind}

-- a value is of this kind; where there is no kind, none is
abbrev pub is_of_known_kind : Option Kind → Value → Bool
is_of_known_kind None v = false
is_of_known_kind (Some kind) v = is_of_kind kind (postings.Val v)

-- the kind of a predicate, where it is declared
abbrev pub declared_kind : List PredDef → List ℕ → Option Kind
declared_kind schema p = option_map (λ d. d.kind) (definition_of schema p)

-- an index by this tokenizer lists each value of this kind under itself, and keeps them in order
abbrev pub keeps : Tokenizer → Option Kind → Bool
keeps tokenizers.Exact (Some kinds.Text) = true
keeps tokenizers.Exact (Some kinds.Default) = true
keeps tokenizers.Int (Some kinds.Int) = true
keeps tokenizers.Bool (Some kinds.Bool) = true
keeps tokenizer kind = false

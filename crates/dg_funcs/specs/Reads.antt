-- How many lists a function reads at a root, where the schema's indexes tell that.
use Rattle.std.specs.Prelude.{ℕ, Bool, false, ◌&&◌, List, [], ◌∷◌, Option, Some, None, if◌then◌else◌, length}
use Rattle.std.specs.List.{list_any, list_all}
use Rattle.dg_values.specs.Order.{tokenizer_cmp, value_cmp, text_cmp}
use Rattle.dg_values.specs.Ascending.{has, ascending}
use Rattle.dg_values.specs.declared.kind.Tokenizer.{Tokenizer}
use Rattle.dg_values.specs.declared.kind.Tokenizer.TheVariants as tokenizers
use Rattle.dg_values.specs.declared.value.Value.{Value}
use Rattle.dg_schema.specs.declared.definition.PredDef.{PredDef}
use Rattle.dg_schema.specs.Definitions.{definition_of}
use Rattle.dg_tokens.specs.Terms.{terms_of}
use Rattle.dg_graph.specs.Lookups.{is_so_by, is_indexed_by}
use Rattle.dg_parse.specs.declared.query.CmpOp.{CmpOp}
use Rattle.dg_parse.specs.declared.query.CmpOp.TheVariants as ops
use Rattle.dg_check.specs.declared.parts.Of.{Of}
use Rattle.dg_check.specs.declared.parts.Of.TheVariants as part
use Rattle.dg_check.specs.declared.parts.Func.{Func}
use Rattle.dg_check.specs.declared.parts.Func.TheVariants as funcs
use Rattle.dg_funcs.specs.Equal.{is_filed}

-- the tokenizers by which a value can be its own token
abbrev pub of_whole_values : List Tokenizer
of_whole_values = tokenizers.Exact ∷ tokenizers.Hash ∷ tokenizers.Int ∷ tokenizers.Bool ∷ []

-- this tokenizer is among those of a predicate, and each value is its own token by it
abbrev pub is_whole : List Tokenizer → List Value → Tokenizer → Bool
is_whole tokens values tokenizer = has tokenizer_cmp tokens tokenizer && list_all (is_filed tokenizer) values

-- the predicate has an exact, hash, int or bool index by which each value is its own token
abbrev pub has_whole_index : List PredDef → List ℕ → List Value → Bool
has_whole_index schema p values = is_so_by (λ d. list_any (is_whole d.tokens values) of_whole_values) (definition_of schema p)

-- for `eq` by such an index a list for each distinct value
abbrev pub reads_of_values : List PredDef → List ℕ → List Value → CmpOp → Option ℕ
reads_of_values schema p values ops.Eq = if has_whole_index schema p values then Some (length (ascending value_cmp values)) else None
reads_of_values schema p values op = None

-- of a predicate's values
abbrev pub reads_of_part : List PredDef → CmpOp → List Value → Of → Option ℕ
reads_of_part schema op values (part.Pred p) = reads_of_values schema p values op
reads_of_part schema op values of = None

-- for `anyofterms` by an index of terms a list for each distinct term
abbrev pub reads_of_terms : List PredDef → List ℕ → List ℕ → Option ℕ
reads_of_terms schema p text = if is_indexed_by schema p tokenizers.Term then Some (length (ascending text_cmp (terms_of text))) else None

-- how many lists are read for a function: none for `uid`; told of `eq` by an index of whole values and of `anyofterms` by one of terms
abbrev pub lists_read : List PredDef → Func → Option ℕ
lists_read schema (funcs.Uid names) = Some 0
lists_read schema (funcs.Cmp op of kind values) = reads_of_part schema op values of
lists_read schema (funcs.Terms false p text) = reads_of_terms schema p text
lists_read schema f = None

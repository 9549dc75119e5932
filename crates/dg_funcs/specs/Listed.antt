-- The nodes that an index lists under each of some values.
use Rattle.std.specs.Prelude.{ℕ, ◌==◌, List, [], ◌∷◌, Bool, filter, map, flat_map, length}
use Rattle.std.specs.List.{list_all}
use Rattle.std.specs.Ordering.{nat_cmp}
use Rattle.dg_values.specs.Order.{text_cmp}
use Rattle.dg_values.specs.Ascending.{ascending, has}
use Rattle.dg_values.specs.declared.kind.Tokenizer.{Tokenizer}
use Rattle.dg_values.specs.declared.kind.Tokenizer.TheVariants as tokenizers
use Rattle.dg_values.specs.declared.value.Value.{Value}
use Rattle.dg_values.specs.declared.value.Value.TheVariants.{Text}
use Rattle.dg_graph.specs.declared.change.Triple.{Triple}
use Rattle.dg_graph.specs.Lookups.{subjects_where, has_token}
use Rattle.dg_funcs.specs.Tests.{value_terms}
use Rattle.dg_funcs.specs.Equal.{token}

-- the nodes that an index lists under a value
abbrev pub under : List Triple → List ℕ → Tokenizer → Value → List ℕ
under graph p tokenizer v = subjects_where (has_token (token tokenizer v)) graph p

-- it lists a node under a value
abbrev pub is_under : List Triple → List ℕ → Tokenizer → ℕ → Value → Bool
is_under graph p tokenizer n v = has nat_cmp (under graph p tokenizer v) n

-- the nodes that it lists under each of some values; none where there is no value
abbrev pub under_all : List Triple → List ℕ → Tokenizer → List Value → List ℕ
under_all graph p tokenizer [] = []
under_all graph p tokenizer (v ∷ vs) = filter (λ n. list_all (is_under graph p tokenizer n) vs) (under graph p tokenizer v)

-- the value is no text, or one without a term
abbrev pub lacks_terms : Value → Bool
lacks_terms v = length (ascending text_cmp (value_terms v)) == 0

-- the nodes that an index of terms lists under each term of a value
abbrev pub under_terms : List Triple → List ℕ → Value → List ℕ
under_terms graph p v = under_all graph p tokenizers.Term (map (λ t. Text t) (ascending text_cmp (value_terms v)))

-- those of any of some values
abbrev pub under_any_terms : List Triple → List ℕ → List Value → List ℕ
under_any_terms graph p values = ascending nat_cmp (flat_map (under_terms graph p) values)

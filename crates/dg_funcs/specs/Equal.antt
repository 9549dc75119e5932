-- `eq` by the values of nodes, and by an index.
use Rattle.std.specs.Prelude.{ℕ, List, Bool, true, false, filter, flat_map}
use Rattle.std.specs.List.{list_any}
use Rattle.std.specs.Ordering.{nat_cmp}
use Rattle.dg_values.specs.Ascending.{ascending}
use Rattle.dg_values.specs.declared.kind.Tokenizer.{Tokenizer}
use Rattle.dg_values.specs.declared.kind.Tokenizer.TheVariants as tokenizers
use Rattle.dg_values.specs.declared.value.Value.{Value}
use Rattle.dg_values.specs.declared.value.Value.TheVariants.{Int, Text, Bool as Truth}
use Rattle.dg_tokens.specs.declared.tokens.IndexToken.{IndexToken}
use Rattle.dg_graph.specs.declared.change.Triple.{Triple}
use Rattle.dg_graph.specs.Lookups.{subjects_where, holders, has_token}
use Rattle.dg_parse.specs.declared.query.CmpOp.TheVariants as ops
use Rattle.dg_funcs.specs.Truth.{values_at, stands_to_any}

-- a value under a tokenizer
abbrev pub token : Tokenizer → Value → IndexToken
token tokenizer v = record { tokenizer = tokenizer; value = v }

-- a value of this kind is its own token
abbrev pub is_filed : Tokenizer → Value → Bool
is_filed tokenizers.Exact (Text t) = true
is_filed tokenizers.Hash (Text t) = true
is_filed tokenizers.Int (Int n) = true
is_filed tokenizers.Bool (Truth b) = true
is_filed tokenizer v = false

-- the nodes that have a value equal to one of these
abbrev pub equal_nodes : List Triple → List ℕ → List Value → List ℕ
equal_nodes graph p values = filter (λ n. list_any (stands_to_any ops.Eq values) (values_at graph p n)) (holders graph p)

-- the nodes that an index lists under these values
abbrev pub filed_nodes : List Triple → List ℕ → Tokenizer → List Value → List ℕ
filed_nodes graph p tokenizer values = ascending nat_cmp (flat_map (λ v. subjects_where (has_token (token tokenizer v)) graph p) values)

-- The order of index tokens.
use Rattle.std.specs.declared.cmp.Ordering.{Ordering}
use Rattle.std.specs.Ordering.{ordering_then}
use Rattle.dg_values.specs.Order.{value_cmp, tokenizer_cmp}
use Rattle.dg_tokens.specs.declared.tokens.IndexToken.{IndexToken}

-- tokens by tokenizer, and then by value; this project's own
abbrev pub index_token_cmp : IndexToken → IndexToken → Ordering
index_token_cmp a b = ordering_then (tokenizer_cmp a.tokenizer b.tokenizer) (value_cmp a.value b.value)

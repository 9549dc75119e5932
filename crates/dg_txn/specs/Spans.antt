-- Which keys of a predicate a question goes over.
use Rattle.std.specs.Prelude.{◌≡◌, ℕ, true, nat_le, Option, Some, None, if◌then◌else◌}
use Rattle.std.specs.declared.cmp.Ordering.{Ordering}
use Rattle.std.specs.declared.cmp.Ordering.TheVariants.{Less, Equal, Greater}
use Rattle.std.specs.Ordering.{nat_cmp, ordering_then, is_le}
use Rattle.dg_values.specs.Order.{text_cmp, value_cmp, tokenizer_cmp}
use Rattle.dg_values.specs.declared.value.Value.{Value}
use Rattle.dg_keys.specs.declared.key.Key.{Key}
use Rattle.dg_keys.specs.declared.key.Key.TheVariants.{Index, Count, RCount}
use Rattle.dg_keys.specs.Keys.{key_cmp, pred_of, kind_rank}
use Rattle.dg_txn.specs.declared.span.Over.{Over}
use Rattle.dg_txn.specs.declared.span.Over.TheVariants.{Subjects, Tokens, Objects, Pointers}
use Rattle.dg_txn.specs.declared.span.Span.{Span}

-- a value that is at the lower end or above it: past the upper end, or not
abbrev pub below_end : Option Value → Value → Ordering
below_end None v = Equal
below_end (Some high) v = if is_le (value_cmp v high) then Equal else Greater

-- where a value lies: before the ends, between them, or past them
abbrev pub value_place : Option Value → Option Value → Value → Ordering
value_place None high v = below_end high v
value_place (Some low) high v = if is_le (value_cmp low v) then below_end high v else Less

-- a number that is at the lower end or above it: past the upper end, or not
abbrev pub number_end : Option ℕ → ℕ → Ordering
number_end None n = Equal
number_end (Some high) n = if nat_le n high then Equal else Greater

-- where a number lies
abbrev pub number_place : ℕ → Option ℕ → ℕ → Ordering
number_place low high n = if nat_le low n then number_end high n else Less

-- where a key of the predicate and the kind lies
abbrev pub field_place : Over → Key → Ordering
field_place (Tokens tokenizer low high) (Index p t) = ordering_then (tokenizer_cmp t.tokenizer tokenizer) (value_place low high t.value)
field_place (Objects low high) (Count p n) = number_place low high n
field_place (Pointers low high) (RCount p n) = number_place low high n
field_place over key = Equal

-- the kind of the keys
abbrev pub rank_over : Over → ℕ
rank_over Subjects = 1
rank_over (Tokens tokenizer low high) = 2
rank_over (Objects low high) = 4
rank_over (Pointers low high) = 5

-- where a key lies: before the span, in it, or past it
abbrev pub place : Span → Key → Ordering
place span key = ordering_then (text_cmp (pred_of key) span.pred) (ordering_then (nat_cmp (kind_rank key) (rank_over span.over)) (field_place span.over key))

-- no key of the span lies below this one
abbrev pub IsStart : Span → Key → Type 0
IsStart span start = (key : Key) → place span key ≡ Equal → is_le (key_cmp start key) ≡ true

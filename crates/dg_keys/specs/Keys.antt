-- The order of keys, and the parts of a record.
use Rattle.std.specs.Prelude.{ℕ, List, filter, flat_map}
use Rattle.std.specs.List.{AllByRecursion}
use Rattle.std.specs.declared.cmp.Ordering.{Ordering}
use Rattle.std.specs.Ordering.{nat_cmp, ordering_then, is_eq}
use Rattle.dg_values.specs.Order.{text_cmp}
use Rattle.dg_values.specs.Ascending.{Ascends}
use Rattle.dg_delta.specs.declared.op.Op.{Op}
use Rattle.dg_delta.specs.Ops.{AreOps}
use Rattle.dg_tokens.specs.Orders.{index_token_cmp}
use Rattle.dg_keys.specs.declared.key.Key.{Key}
use Rattle.dg_keys.specs.declared.key.Key.TheVariants.{Data, Index, Reverse, Count, RCount}
use Rattle.dg_keys.specs.declared.record.Part.{Part}

-- the predicate of a key
abbrev pub pred_of : Key → List ℕ
pred_of (Data p s) = p
pred_of (Index p t) = p
pred_of (Reverse p o) = p
pred_of (Count p n) = p
pred_of (RCount p n) = p

-- the place of a key's kind among the kinds
abbrev pub kind_rank : Key → ℕ
kind_rank (Data p s) = 1
kind_rank (Index p t) = 2
kind_rank (Reverse p o) = 3
kind_rank (Count p n) = 4
kind_rank (RCount p n) = 5

-- keys of one kind by their node, number or token
abbrev pub field_cmp : Key → Key → Ordering
field_cmp (Data p a) (Data q b) = nat_cmp a b
field_cmp (Index p a) (Index q b) = index_token_cmp a b
field_cmp (Reverse p a) (Reverse q b) = nat_cmp a b
field_cmp (Count p a) (Count q b) = nat_cmp a b
field_cmp (RCount p a) (RCount q b) = nat_cmp a b
field_cmp a b = nat_cmp (kind_rank a) (kind_rank b)

-- by predicate, kind, and then node, number or token
abbrev pub key_cmp : Key → Key → Ordering
key_cmp a b = ordering_then (text_cmp (pred_of a) (pred_of b)) (ordering_then (nat_cmp (kind_rank a) (kind_rank b)) (field_cmp a b))

-- parts by their keys
abbrev pub part_cmp : Part → Part → Ordering
part_cmp a b = key_cmp a.key b.key

-- the operations on the list of a key
abbrev pub ops_at : List Part → Key → List Op
ops_at parts key = flat_map (λ part. part.ops) (filter (λ part. is_eq (key_cmp part.key key)) parts)

-- parts ascending by key, each with one or more operations ascending by posting
pub record AreParts (parts : List Part) : Type 0 where
  pub ascend : Ascends part_cmp parts
  pub each : AllByRecursion (λ part. AreOps part.ops) parts

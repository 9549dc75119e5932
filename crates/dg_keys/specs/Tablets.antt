-- The order of tablets.
use Rattle.std.specs.declared.cmp.Ordering.{Ordering}
use Rattle.std.specs.Ordering.{nat_cmp, ordering_then}
use Rattle.dg_values.specs.Order.{text_cmp}
use Rattle.dg_keys.specs.declared.record.Tablet.{Tablet}

-- by predicate, and then by group
abbrev pub tablet_cmp : Tablet → Tablet → Ordering
tablet_cmp a b = ordering_then (text_cmp a.pred b.pred) (nat_cmp a.group b.group)

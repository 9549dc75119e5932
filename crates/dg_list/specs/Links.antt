-- What the top of a posting list says.
use Rattle.std.specs.Prelude.{◌≡◌, ◌≤◌, ℕ, Bool, true, List, []}
use Rattle.std.specs.Arc.{arc_value}
use Rattle.dg_delta.specs.Ops.{after_ops}
use Rattle.dg_delta.specs.declared.op.Op.{Op}
use Rattle.dg_list.specs.Lists.{Layered, IsSound, with_layer, newest_ts, reading}
use Rattle.dg_list.specs.declared.plist.Link.{Link}
use Rattle.dg_list.specs.declared.plist.Link.TheVariants.{Rolled, Over}

-- the list that begins with this link
abbrev pub list_of : Link → Layered
list_of (Rolled ts base) = record { base_ts = ts; base = arc_value base; layers = [] }
list_of (Over layer older alone) = with_layer (arc_value older) (arc_value layer)

-- whether nothing below it counts: a base, or a layer that stands alone
abbrev pub is_lowest : Link → Bool
is_lowest (Rolled ts base) = true
is_lowest (Over layer older alone) = alone

-- operations after which nothing is left of what a list is from its newest timestamp on
abbrev pub Replace : List Op → Layered → Type 0
Replace ops list = (ts : ℕ) → newest_ts list ≤ ts → after_ops (reading list ts) ops ≡ after_ops [] ops

-- a layer that is said to stand alone replaces what is below it
abbrev pub IsTrueOfLink : Link → Type 0
IsTrueOfLink (Rolled ts base) = Unit {0}
IsTrueOfLink (Over layer older alone) = alone ≡ true → Replace (arc_value layer).ops (arc_value older)

-- what holds of the top of every list
pub record IsTop (link : Link) : Type 0 where
  pub sound : IsSound (list_of link)
  pub alone : IsTrueOfLink link

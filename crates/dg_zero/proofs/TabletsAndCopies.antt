-- Tablets, their owners and copies in legal histories.
use Rattle.std.proofs.Common.{◌≡◌, subst, ◌≤◌, List, [], ◌∷◌, true}
use Rattle.std.specs.Prelude.{Option, Some, IfSome}
use Rattle.std.specs.List.{AllByRecursion, list_any}
use Rattle.dg_sets.proofs.Sets.{all_with}
use Rattle.dg_zero.specs.declared.tablets.Place.{Place}
use Rattle.dg_zero.specs.Counters.{line}
use Rattle.dg_zero.specs.Places.{Copy, copies, is_place_of, place_of, tablets}
use Rattle.dg_zero.specs.TabletLaws.{HasCopy, IsOfTablet, TabletsAreDeclared, OwnersHaveCopies, CopiesAreApart, CopiesAreOfTablets}
use Rattle.dg_zero.proofs.DeclaredTablets.{tablets_named}
use Rattle.dg_zero.proofs.LowMarks.{marks_low}
use Rattle.dg_zero.proofs.StandingCopies.{Stands, found_once, in_place}

pub tablets_are_declared : TabletsAreDeclared
tablets_are_declared n h l = record { named = tablets_named n h l; once = (in_place n h l).once }

pub owners_have_copies : OwnersHaveCopies
owners_have_copies n h l =
    let a = in_place n h l in
    all_with (λ (t : Place). place_of (tablets h) t.pred ≡ Some t) (λ (t : Place). HasCopy (copies h) t.pred t.group) (tablets h) (λ t found. (subst (λ (o : Option Place). IfSome o (Stands (copies h) t.pred)) found (a.each t.pred)).own) (found_once (tablets h) a.once)

pub copies_are_apart : CopiesAreApart
copies_are_apart n h l = (in_place n h l).apart

pub copies_are_of_tablets : CopiesAreOfTablets
copies_are_of_tablets n h l = each (copies h) (in_place n h l).theirs (marks_low n h l)
  where
    each : (cs : List Copy) → AllByRecursion (λ (c : Copy). list_any (is_place_of c.pred) (tablets h) ≡ true) cs → AllByRecursion (λ (c : Copy). c.mark ≤ line h) cs → AllByRecursion (IsOfTablet h) cs
    each [] a b = tt
    each (c ∷ cs) a b = (record { there = a.0; low = b.0 }, each cs a.1 b.1)

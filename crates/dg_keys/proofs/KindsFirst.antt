-- Two keys of one predicate are in order by their kinds, and then by their last fields.
use Rattle.std.proofs.Common.{◌≡◌, refl}
use Rattle.std.specs.Ordering.{nat_cmp, ordering_then}
use Rattle.dg_keys.specs.declared.key.Key.{Key}
use Rattle.dg_keys.specs.declared.key.Key.TheVariants.{Data, Index, Reverse, Count, RCount}
use Rattle.dg_keys.specs.Keys.{kind_rank, field_cmp}

pub kinds_first : (a b : Key) → ordering_then (nat_cmp (kind_rank a) (kind_rank b)) (field_cmp a b) ≡ field_cmp a b
kinds_first (Data p a) (Data q b) = refl
kinds_first (Data p a) (Index q b) = refl
kinds_first (Data p a) (Reverse q b) = refl
kinds_first (Data p a) (Count q b) = refl
kinds_first (Data p a) (RCount q b) = refl
kinds_first (Index p a) (Data q b) = refl
kinds_first (Index p a) (Index q b) = refl
kinds_first (Index p a) (Reverse q b) = refl
kinds_first (Index p a) (Count q b) = refl
kinds_first (Index p a) (RCount q b) = refl
kinds_first (Reverse p a) (Data q b) = refl
kinds_first (Reverse p a) (Index q b) = refl
kinds_first (Reverse p a) (Reverse q b) = refl
kinds_first (Reverse p a) (Count q b) = refl
kinds_first (Reverse p a) (RCount q b) = refl
kinds_first (Count p a) (Data q b) = refl
kinds_first (Count p a) (Index q b) = refl
kinds_first (Count p a) (Reverse q b) = refl
kinds_first (Count p a) (Count q b) = refl
kinds_first (Count p a) (RCount q b) = refl
kinds_first (RCount p a) (Data q b) = refl
kinds_first (RCount p a) (Index q b) = refl
kinds_first (RCount p a) (Reverse q b) = refl
kinds_first (RCount p a) (Count q b) = refl
kinds_first (RCount p a) (RCount q b) = refl

-- Numbers that ascend.
use Rattle.std.proofs.Common.{◌≡◌, ℕ, zero, suc, ◌<◌, List, ◌∷◌}
use Rattle.std.specs.Ordering.{nat_cmp}
use Rattle.std.specs.declared.cmp.Ordering.{Ordering}
use Rattle.std.specs.declared.cmp.Ordering.TheVariants.{Less}
use Rattle.std.specs.Cmp.{ranks}
use Rattle.std.proofs.Common.{subst}
use Rattle.std.specs.Ordering.{MatchOrdering}
use Rattle.dg_values.specs.Ascending.{Ascends}
use Rattle.dg_base.specs.Cursors.{Follow}

pub less : (x y : ℕ) → nat_cmp x y ≡ Less → x < y
less x y e = subst (λ (r : Ordering). MatchOrdering r (x < y) (x ≡ y) (y < x)) e (ranks x y)

-- what ascends behind a number follows it, whatever room there is
pub follow : (room x : ℕ) (xs : List ℕ) → Ascends nat_cmp (x ∷ xs) → Follow x room xs
follow zero x xs a = a.1
follow (suc room) x xs a = a

pub following : (last room : ℕ) (xs : List ℕ) → Follow last room xs → Ascends nat_cmp xs
following last zero xs f = f
following last (suc room) xs f = f.1

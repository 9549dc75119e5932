-- What holds of both outcomes of a call holds of what it leaves.
use Rattle.std.proofs.Common.{◌≡◌, subst, sym}
use Rattle.std.specs.Prelude.{Result, Ok, Err, OnOk, OnErr}

pub either_way : {T E X : Type 0} (P : X → Type 0) (r : Result T E) (new a b : X) → OnOk r (new ≡ a) → OnErr r (new ≡ b) → P a → P b → P new
either_way P (Ok v) new a b e f p q = subst P (sym e) p
either_way P (Err x) new a b e f p q = subst P (sym f) q

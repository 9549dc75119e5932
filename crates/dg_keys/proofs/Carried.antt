-- A reader that hands on what another one refused.
use Rattle.std.proofs.Common.{◌≡◌, ℕ, List, Err}
use Rattle.dg_keys.specs.declared.key_fault.KeyFault.{KeyFault}
use Rattle.dg_keys.specs.declared.key_fault.KeyFault.TheVariants.{OutOfMemory, NoKey}
use Rattle.dg_keys.specs.KeyReading.{Finds, Reads}

module _ {X Y : Type 0} (H : X → Type 0) (spell : X → List ℕ) (rest : List ℕ) (G : Y → Type 0) (say : Y → List ℕ) (bytes : List ℕ) where
  -- what has the bytes has a part with the rest
  abbrev Down : Type 0
  Down = (y : Y) → G y → say y ≡ bytes → (x : X) × H x × (spell x ≡ rest)

  -- what has the rest is a part of what has the bytes
  abbrev Up : Type 0
  Up = (x : X) → H x → spell x ≡ rest → (y : Y) × G y × (say y ≡ bytes)

  pub none_found : Down → (e : KeyFault) → Finds H spell rest (Err e) → Finds G say bytes (Err e)
  none_found down NoKey h = λ y g s. let x = down y g s in h x.0 x.1 x.2
  none_found down OutOfMemory h = h

  pub none_read : Down → (e : KeyFault) → Finds H spell rest (Err e) → Reads G say bytes (Err e)
  none_read down NoKey h = λ y g s. let x = down y g s in h x.0 x.1 x.2
  none_read down OutOfMemory h = absurd h

  pub none_carried : Down → Up → (e : KeyFault) → Reads H spell rest (Err e) → Reads G say bytes (Err e)
  none_carried down up NoKey h = λ y g s. let x = down y g s in h x.0 x.1 x.2
  none_carried down up OutOfMemory h = up h.0 h.1 h.2

-- What readers of bytes answer.
use Rattle.std.specs.Prelude.{◌≡◌, ◌≢◌, ℕ, List, Result, Ok, Err}
use Rattle.dg_keys.specs.declared.key_fault.KeyFault.{KeyFault}
use Rattle.dg_keys.specs.declared.key_fault.KeyFault.TheVariants.{OutOfMemory, NoKey}

-- the one that has the bytes, or that none has them
abbrev pub Finds : {X : Type 0} → (X → Type 0) → (X → List ℕ) → List ℕ → Result X KeyFault → Type 0
Finds Holds spell bytes (Ok x) = Holds x × (spell x ≡ bytes)
Finds {X} Holds spell bytes (Err NoKey) = (x : X) → Holds x → spell x ≢ bytes
Finds Holds spell bytes (Err OutOfMemory) = ⊥

-- the one that has the bytes, that none has them, or that memory is wanting for one that has them
abbrev pub Reads : {X : Type 0} → (X → Type 0) → (X → List ℕ) → List ℕ → Result X KeyFault → Type 0
Reads Holds spell bytes (Ok x) = Holds x × (spell x ≡ bytes)
Reads {X} Holds spell bytes (Err NoKey) = (x : X) → Holds x → spell x ≢ bytes
Reads {X} Holds spell bytes (Err OutOfMemory) = (x : X) × Holds x × (spell x ≡ bytes)

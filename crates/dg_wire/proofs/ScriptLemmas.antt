-- A generated script has requests only.
use Rattle.std.proofs.Common.{◌≡◌, ℕ, zero, suc, ◌+◌, ◌-◌, ◌*◌, ◌/◌, ◌%◌, ◌<◌, ◌≤◌, min, Bool, true, false, cond, ◌==◌, List, [], ◌∷◌, ◌++◌, length, refl, ap, length-append, arith}
use Rattle.std.specs.Prelude.{codes}
use Rattle.std.specs.List.{join_with_byte}
use Rattle.std.specs.Fmt.{decimal, digits, digits_onto, digit_glyph}
use Rattle.std.proofs.lemmas.Fmt.{length-decimal-le}
use Rattle.std.proofs.lemmas.Nat.{mod_below}
use Rattle.dg_wire.specs.Frames.{AreRequests}
use Rattle.dg_wire.specs.Draws.{drawn}
use Rattle.dg_wire.specs.Generator.{node_text, node_behind, nodes_behind, joint, batch_len, batch_body, batches, batch_count, ending, generated}
use Rattle.dg_wire.proofs.NodeLemmas.{node_next}

-- as many digits as steps
onto_short : (k n : ℕ) (acc : List ℕ) → length (digits_onto k 16 false n acc) ≤ length acc + k
onto_short zero n acc = omega arith
onto_short (suc k) n acc = by (n / 16 == 0) refl (onto_short k (n / 16) (digit_glyph false (n % 16) ∷ acc))
  where
    g : ℕ
    g = digit_glyph false (n % 16)

    by : (v : Bool) → (n / 16 == 0) ≡ v → length (digits_onto k 16 false (n / 16) (g ∷ acc)) ≤ length (g ∷ acc) + k → length (cond (n / 16 == 0) (g ∷ acc) (digits_onto k 16 false (n / 16) (g ∷ acc))) ≤ length acc + suc k
    by true e ih = rw e (omega arith)
    by false e ih = rw e (omega (arith, ih))

hex_short : (n : ℕ) → length (digits 16 false n) ≤ 64
unfolding digits
hex_short n = onto_short 64 n []

-- no node has many bytes
text_short : (node name age friend : ℕ) → name < 1000 → age < 1000 → length (node_text node name age friend) ≤ 400
text_short node name age friend n a = by (digits 16 false node) (decimal name) (decimal age) (digits 16 false friend) (hex_short node) (length-decimal-le 3 name (omega arith) (omega arith) (omega arith)) (length-decimal-le 3 age (omega arith) (omega arith) (omega arith)) (hex_short friend)
  where
    by : (h n a f : List ℕ) → length h ≤ 64 → length n ≤ 3 → length a ≤ 3 → length f ≤ 64 → length ((codes "<0x" ++ (h ++ (codes "> <name> \"n" ++ (n ++ codes "\" .")))) ++ (10 ∷ ((codes "<0x" ++ (h ++ (codes "> <age> \"" ++ (a ++ codes "\" .")))) ++ (10 ∷ (codes "<0x" ++ (h ++ (codes "> <friend> <0x" ++ (f ++ codes "> .")))))))) ≤ 400
    by h n a f hh hn ha hf =
        let first : List ℕ = codes "> <name> \"n" ++ (n ++ codes "\" .") in
        let second : List ℕ = codes "> <age> \"" ++ (a ++ codes "\" .") in
        let third : List ℕ = codes "> <friend> <0x" ++ (f ++ codes "> .") in
        omega (
          arith,
          hh,
          hn,
          ha,
          hf,
          length-append n (codes "\" ."),
          length-append a (codes "\" ."),
          length-append f (codes "> ."),
          length-append h first,
          length-append h second,
          length-append h third,
          length-append (codes "<0x" ++ (h ++ second)) (10 ∷ (codes "<0x" ++ (h ++ third))),
          length-append (codes "<0x" ++ (h ++ first)) (10 ∷ ((codes "<0x" ++ (h ++ second)) ++ (10 ∷ (codes "<0x" ++ (h ++ third))))),
        )

node_short : (seed size done : ℕ) → length (node_behind seed size done) ≤ 400
node_short seed size done =
    let name : drawn seed (3 * done) 1000 < 1000 = mod_below _ 1000 (omega arith) in
    let age : drawn seed (3 * done + 1) 100 < 100 = mod_below _ 100 (omega arith) in
    text_short (done + 1) (drawn seed (3 * done) 1000) (drawn seed (3 * done + 1) 100) (drawn seed (3 * done + 2) size + 1) name (omega (arith, age))

joint_short : (n : ℕ) → length (joint n) ≤ 1
joint_short zero = omega arith
joint_short (suc n) = omega arith

nodes_short : (seed size done n : ℕ) → length (join_with_byte 10 (nodes_behind seed size done n)) ≤ 401 * n
nodes_short seed size done zero = omega arith
nodes_short seed size done (suc n) =
    let j = joint_short n in
    let here = node_short seed size (done + n) in
    let before = nodes_short seed size done n in
    omega (
      arith,
      ap length (node_next seed size done n),
      length-append (join_with_byte 10 (nodes_behind seed size done n)) (joint n ++ node_behind seed size (done + n)),
      length-append (joint n) (node_behind seed size (done + n)),
      j,
      here,
      before,
    )

pub few_short : (seed size done n : ℕ) → n ≤ 100 → length (join_with_byte 10 (nodes_behind seed size done n)) ≤ 1048576
few_short seed size done n few = omega (arith, nodes_short seed size done n, few)

min_low : (n : ℕ) → min 100 n ≤ 100
min_low n = omega arith

body_short : (seed size done : ℕ) → length (batch_body seed size done) ≤ 1048576
body_short seed size done = few_short seed size done (batch_len size done) (min_low (size - done))

session : (1 ≤ 1) × (1 ≤ 16)
session = (omega arith, omega arith)

end_valid : AreRequests ending
end_valid = (session, ((session, omega arith), (session, tt)))

rest_valid : (seed size done n : ℕ) → AreRequests (batches seed size done n ++ ending)
rest_valid seed size done zero = end_valid
rest_valid seed size done (suc n) = (session, ((session, body_short seed size done), (session, (refl, rest_valid seed size (done + batch_len size done) n))))

pub generated_valid : (seed size : ℕ) → AreRequests (generated seed size)
generated_valid seed size = (omega arith, rest_valid seed size 0 (batch_count size))

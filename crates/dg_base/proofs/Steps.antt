-- One number read.
use Rattle.std.proofs.Common.{◌≡◌, ℕ, zero, suc, ◌+◌, ◌-◌, ◌^◌, ◌<◌, ◌≤◌, true, List, ◌∷◌, ◌++◌, length, take, drop, refl, ap, sym, ◌∙◌, arith}
use Rattle.std.specs.Int.{w64, to_be_bytes, from_be_bytes}
use Rattle.std.proofs.lemmas.List.{drop-drop, length-drop, length-append}
use Rattle.std.proofs.lemmas.Nat.{from_be_bytes-to_be_bytes_8}
use Rattle.dg_base.specs.Packed.{groups, packed_after}
use Rattle.dg_base.specs.Unpacked.{read_groups, has_groups}
use Rattle.dg_base.specs.Cursors.{Follow}
use Rattle.dg_base.proofs.Numbers.{less}
use Rattle.dg_base.proofs.Groups.{read-groups, has-groups}

-- ---- a number that begins a block

module _ (bs : List ℕ) (at last x : ℕ) (xs : List ℕ) (left : drop at bs ≡ packed_after last 0 (x ∷ xs)) where
  pub head_within : at + 9 ≤ length bs
  head_within = omega (arith, ap length left, length-drop at bs, length-append (to_be_bytes w64 x) (packed_after x 127 xs))

  pub head_first : x < 2 ^ 64 → from_be_bytes w64 (take 8 (drop (at + 1) bs)) ≡ x
  head_first fits = ap (λ ys. from_be_bytes w64 (take 8 ys)) (sym (drop-drop 1 at bs) ∙ ap (λ ys. drop 1 ys) left) ∙ from_be_bytes-to_be_bytes_8 x fits

  pub head_rest : drop (at + 9) bs ≡ packed_after x 127 xs
  head_rest = sym (drop-drop 9 at bs) ∙ ap (λ ys. drop 9 ys) left

-- ---- a number that goes on in a block

pub packed_after-on : (last room x : ℕ) (xs : List ℕ) → 0 < room → packed_after last room (x ∷ xs) ≡ groups 9 (x - last) ++ packed_after x (room - 1) xs
packed_after-on last zero x xs h = absurd (omega arith)
packed_after-on last (suc room) x xs h = let back : suc room - 1 ≡ room = omega arith in rw back refl

pub follow_on : (last room x : ℕ) (xs : List ℕ) → 0 < room → Follow last room (x ∷ xs) → last < x
follow_on last zero x xs h f = absurd (omega arith)
follow_on last (suc room) x xs h f = less last x f.0.0

module _ (bs : List ℕ) (at last room x : ℕ) (xs : List ℕ) (some : 0 < room) (left : drop at bs ≡ packed_after last room (x ∷ xs)) where
  abbrev rest : List ℕ
  rest = packed_after x (room - 1) xs

  is_on : drop at bs ≡ groups 9 (x - last) ++ rest
  is_on = left ∙ packed_after-on last room x xs some

  pub on_has : has_groups 9 (drop at bs) ≡ true
  on_has = rw is_on (has-groups 9 (x - last) rest)

  pub on_number : (read_groups 9 (drop at bs)).0 ≡ x - last
  on_number = ap (λ (ys : List ℕ). (read_groups 9 ys).0) is_on ∙ ap (λ (p : ℕ × List ℕ). p.0) (read-groups 9 (x - last) rest)

  pub on_rest : (read_groups 9 (drop at bs)).1 ≡ packed_after x (room - 1) xs
  on_rest = ap (λ (ys : List ℕ). (read_groups 9 ys).1) is_on ∙ ap (λ (p : ℕ × List ℕ). p.1) (read-groups 9 (x - last) rest)

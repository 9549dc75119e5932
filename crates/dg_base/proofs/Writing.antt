-- The first and the last step of packing.
use Rattle.std.proofs.Common.{◌≡◌, ℕ, ◌<◌, ◌^◌, List, [], length, refl, ap, sym, subst, ◌∙◌}
use Rattle.std.specs.Ordering.{nat_cmp}
use Rattle.std.specs.List.{AllByRecursion}
use Rattle.std.proofs.lemmas.List.{append-nil}
use Rattle.dg_values.specs.Ascending.{Ascends}
use Rattle.dg_base.specs.declared.packing.Start.{Start}
use Rattle.dg_base.specs.declared.packing.Packing.{Packing}
use Rattle.dg_base.specs.Packed.{packed}
use Rattle.dg_base.specs.Unpacked.{unpacked}
use Rattle.dg_base.specs.Starts.{starts_of, IsHeld}
use Rattle.dg_base.specs.Cursors.{IsPackedBut}
use Rattle.dg_base.proofs.Unpacking.{unpacked-packed}

pub begun : (packing : Packing) (xs : List ℕ) → packing.bytes.items ≡ [] → packing.starts.items ≡ [] → packing.last ≡ 0 → packing.room ≡ 0 → Ascends nat_cmp xs → IsPackedBut packing xs xs
begun packing xs bytes starts last room a = record {
  bytes = rw (bytes, last, room) refl;
  starts = rw (starts, bytes, last, room) refl;
  follow = rw room a;
}

pub bytes_done : (packing : Packing) (xs : List ℕ) → IsPackedBut packing xs [] → packing.bytes.items ≡ packed xs
bytes_done packing xs p = sym (append-nil packing.bytes.items) ∙ p.bytes

pub starts_done : (packing : Packing) (xs : List ℕ) → IsPackedBut packing xs [] → packing.starts.items ≡ starts_of xs
starts_done packing xs p = sym (append-nil packing.starts.items) ∙ p.starts

pub held : (bytes : List ℕ) (starts : List Start) (count : ℕ) (xs : List ℕ) → bytes ≡ packed xs → starts ≡ starts_of xs → count ≡ length xs
    → Ascends nat_cmp xs → AllByRecursion (λ x. x < 2 ^ 64) xs → IsHeld bytes starts count
held bytes starts count xs packs begin counts a fit =
    let back : xs ≡ unpacked bytes = sym (ap unpacked packs ∙ unpacked-packed xs a fit) in
    record {
      packs = packs ∙ ap packed back;
      begin = begin ∙ ap starts_of back;
      counts = counts ∙ ap (λ (ys : List ℕ). length ys) back;
      ascend = subst (λ (ys : List ℕ). Ascends nat_cmp ys) back a;
      fit = subst (λ (ys : List ℕ). AllByRecursion (λ x. x < 2 ^ 64) ys) back fit;
    }

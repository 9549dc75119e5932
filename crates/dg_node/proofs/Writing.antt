-- Frames that are written one after another.
use Rattle.std.proofs.Common.{◌≡◌, ℕ, List, [], ◌∷◌, ◌++◌, ◌∙◌, ap, sym, subst, append_assoc}
use Rattle.std.specs.declared.option.Option.{Option}
use Rattle.std.specs.Io.KnownBytes.{Appends}
use Rattle.std.proofs.KnownBytes.{Appends-nil}
use Rattle.std.proofs.lemmas.List.{append-nil}
use Rattle.dg_io.specs.Pieces.{AppendsPart}
use Rattle.dg_io.proofs.PieceLemmas.{Appends-then, Appends-then_part}
use Rattle.dg_wire.specs.declared.request.Request.{Request}
use Rattle.dg_wire.specs.Frames.{frame, frames}

-- so far a front of the frames was written, and these are left
pub record Writing (all : List ℕ) (held_old held_new : Option (List ℕ)) (left : List Request) : Type 0 where
  pub text : List ℕ
  pub wrote : Appends held_old held_new text
  pub whole : all ≡ text ++ frames left

-- nothing is written yet
pub writing_first : (all : List ℕ) (held : Option (List ℕ)) (left : List Request) → all ≡ frames left → Writing all held held left
writing_first all held left e = record { text = []; wrote = Appends-nil held; whole = e }

-- one more frame was written
pub writing_on : (all : List ℕ) (a b c : Option (List ℕ)) (left rest : List Request) (r : Request) → Writing all a b left → left ≡ r ∷ rest → Appends b c (frame r) → Writing all a c rest
writing_on all a b c left rest r so_far is wrote = record {
  text = so_far.text ++ frame r;
  wrote = Appends-then a b c so_far.text (frame r) so_far.wrote wrote;
  whole = so_far.whole ∙ ap (λ (l : List Request). so_far.text ++ frames l) is ∙ sym (append_assoc so_far.text (frame r) (frames rest));
}

-- all is written
pub writing_done : (all : List ℕ) (a b : Option (List ℕ)) (left : List Request) → Writing all a b left → left ≡ [] → Appends a b all
writing_done all a b left so_far is = subst (Appends a b) (sym (so_far.whole ∙ ap (λ (l : List Request). so_far.text ++ frames l) is ∙ append-nil so_far.text)) so_far.wrote

-- it ends between two frames
pub writing_cut : (all : List ℕ) (a b : Option (List ℕ)) (left : List Request) → Writing all a b left → AppendsPart a b all
writing_cut all a b left so_far = (so_far.text, so_far.wrote, (frames left, so_far.whole))

-- it ends within a frame
pub writing_cut_within : (all : List ℕ) (a b c : Option (List ℕ)) (left rest : List Request) (r : Request) → Writing all a b left → left ≡ r ∷ rest → AppendsPart b c (frame r) → AppendsPart a c all
writing_cut_within all a b c left rest r so_far is part =
    let whole = Appends-then_part a b c so_far.text (frame r) so_far.wrote part in
    let front = whole.0 in
    let behind = whole.2.0 in
    (front, whole.1, (behind ++ frames rest, so_far.whole ∙ ap (λ (l : List Request). so_far.text ++ frames l) is ∙ sym (append_assoc so_far.text (frame r) (frames rest)) ∙ ap (λ (l : List ℕ). l ++ frames rest) whole.2.1 ∙ append_assoc front behind (frames rest)))

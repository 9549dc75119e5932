use Rattle.std.proofs.Common.{◌≡◌, ℕ, ◌-◌, ◌<◌, ◌≤◌, true, eqb, List, [], ◌∷◌, ◌++◌, length, take, drop, Option, Some, None, ap, sym, ◌∙◌, append_assoc, length-append, arith}
use Rattle.std.specs.Prelude.{replicate}
use Rattle.std.specs.List.{slice_split}
use Rattle.std.proofs.Math.ListN.{length-replicate}
use Rattle.std.proofs.Math.Seq.{take-length, take-append_seam}
use Rattle.std.proofs.lemmas.List.{append-nil, take-append-drop, take-append-le}
use Rattle.dg_wire.specs.declared.request.Request.{Request}
use Rattle.dg_wire.specs.declared.head.Opened.{Opened}
use Rattle.dg_wire.specs.declared.head.Head.TheVariants.{Open}
use Rattle.dg_wire.specs.Replies.{ended}
use Rattle.dg_wire.specs.Frames.{line, frame, request_body}
use Rattle.dg_wire.specs.Heads.{Heads, with_body}
use Rattle.dg_wire.specs.Exact.{NoFrame, NoWhole, IsCutFrame}
use Rattle.dg_wire.specs.Cuts.{IsFront, BeginsLine}
use Rattle.dg_wire.proofs.LineLemmas.{no_feed}
use Rattle.dg_wire.proofs.FrameLemmas.{frame_is}
use Rattle.dg_wire.proofs.ExactLemmas.{behind_line, frame_parts, feed_in}

-- a line with no line feed is no longer than the line of a frame that it begins
within_front : (bytes more rest : List ℕ) (r : Request) → no_feed bytes ≡ true → bytes ++ more ≡ frame r ++ rest → length (line r) < length bytes → ⊥
within_front bytes more rest r none e longer =
    feed_in (length bytes) bytes more (line r) (behind_line (request_body r) ++ rest) (ap no_feed (take-length bytes) ∙ none) longer longer (e ∙ frame_parts r rest)

-- the shorter of two fronts is one of the longer
shorter : (a b x y : List ℕ) → length a ≤ length b → a ++ x ≡ b ++ y → IsFront a b
shorter a b x y le e =
    let front : a ≡ take (length a) b = sym (take-append_seam a x) ∙ ap (take (length a)) e ∙ take-append-le (length a) b y le in
    (drop (length a) b, ap (λ (l : List ℕ). l ++ drop (length a) b) front ∙ take-append-drop (length a) b)

-- bytes with no line feed that begin no line begin no frame
pub no_line : (bytes : List ℕ) → no_feed bytes ≡ true → (BeginsLine bytes → ⊥) → NoFrame bytes
no_line bytes none other r ok more rest e =
    let no : length (line r) < length bytes → ⊥ = within_front bytes more rest r none e in
    other (r, ok, shorter bytes (line r) more (10 ∷ (behind_line (request_body r) ++ rest)) (omega arith) (e ∙ frame_parts r rest))

-- and hold no whole one
pub none_whole : (bytes : List ℕ) → no_feed bytes ≡ true → NoWhole bytes
none_whole bytes none r ok rest e =
    within_front bytes [] rest r none (append-nil bytes ∙ e) (omega (arith, ap length (e ∙ frame_parts r rest), length-append (line r) (10 ∷ (behind_line (request_body r) ++ rest))))

-- a front of a line is a frame cut short
pub cut_line : (bytes : List ℕ) → BeginsLine bytes → IsCutFrame bytes
cut_line bytes (r, ok, (rest, is)) =
    record {
      request = r;
      valid = ok;
      more = rest ++ ended (request_body r);
      some = omega (arith, length-append rest (ended (request_body r)), some (request_body r));
      whole = sym (append_assoc bytes rest (ended (request_body r))) ∙ ap (λ (l : List ℕ). l ++ ended (request_body r)) is;
    }
  where
    some : (b : Option (List ℕ)) → 0 < length (ended b)
    some None = omega arith
    some (Some body) = omega arith

-- so is a line with the front of its body
pub cut_body : (bytes front behind : List ℕ) (opened : Opened) (len : ℕ) → bytes ≡ front ++ (10 ∷ behind) → Heads (slice_split (λ b. eqb b 32) front) (Open opened len) → length behind ≤ len → IsCutFrame bytes
cut_body bytes front behind opened len is heads short =
    let fill : List ℕ = replicate (len - length behind) 0 in
    let long : length fill ≡ len - length behind = length-replicate (len - length behind) 0 in
    let with = heads.1 (behind ++ fill) (omega (arith, length-append behind fill)) in
    record {
      request = with_body opened (behind ++ fill);
      valid = with.0;
      more = fill ++ (10 ∷ []);
      some = omega (arith, length-append fill (10 ∷ []));
      whole =
          ap (λ (l : List ℕ). l ++ (fill ++ (10 ∷ []))) is ∙ append_assoc front (10 ∷ behind) (fill ++ (10 ∷ [])) ∙ ap (λ (l : List ℕ). front ++ (10 ∷ l)) (sym (append_assoc behind fill (10 ∷ []))) ∙ sym (frame_is front (with_body opened (behind ++ fill)) (Some (behind ++ fill)) with.2 with.1);
    }

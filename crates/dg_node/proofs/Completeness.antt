-- An input that is frames is answered to its end.
use Rattle.std.proofs.Common.{◌≡◌, inl, inr, ℕ, ◌-◌, ◌<◌, ◌≤◌, List, [], ◌∷◌, ◌++◌, length, take, refl, ap, sym, subst, ◌∙◌, append_assoc, length-append, arith}
use Rattle.std.specs.Prelude.{Some, None}
use Rattle.std.specs.declared.option.Option.{Option}
use Rattle.std.specs.Io.KnownBytes.{Consumes, IsAtEnd, Appends}
use Rattle.std.proofs.lemmas.List.{append-nil, take_all}
use Rattle.dg_wire.specs.declared.request.Request.{Request}
use Rattle.dg_wire.specs.declared.request.Request.TheVariants.{Line}
use Rattle.dg_wire.specs.Frames.{line, request_body, frame, frames, AreRequests}
use Rattle.dg_wire.specs.Replies.{ended}
use Rattle.dg_wire.specs.Exact.{NoFrame, NoWhole}
use Rattle.dg_wire.specs.Reading.{INPUT_LIMIT}
use Rattle.dg_wire.proofs.SpellingLemmas.{frame_unique}
use Rattle.dg_node.specs.declared.status.Status.TheVariants as statuses
use Rattle.dg_node.specs.Script.{Script}
use Rattle.dg_node.specs.Complete.{IsComplete}

-- the requests that were answered begin those of the input
record Begun (answered whole : List Request) (more : List ℕ) : Type 0 where
  rest : List Request
  valid : AreRequests rest
  parts : whole ≡ answered ++ rest
  left : more ≡ frames rest

ended_some : (b : Option (List ℕ)) → 0 < length (ended b)
ended_some None = omega arith
ended_some (Some body) = omega arith

frame_some : (r : Request) → 0 < length (frame r)
frame_some r = omega (arith, ended_some (request_body r), length-append (line r) (ended (request_body r)))

begun : (answered whole : List Request) (more : List ℕ) → AreRequests answered → AreRequests whole → frames answered ++ more ≡ frames whole → Begun answered whole more
begun [] whole more ok too e = record { rest = whole; valid = too; parts = refl; left = e }
begun (a ∷ answered) [] more ok too e = absurd (omega (arith, frame_some a, ap length e, length-append (frame a ++ frames answered) more, length-append (frame a) (frames answered)))
begun (a ∷ answered) (w ∷ whole) more ok too e =
    let same = frame_unique a w (frames answered ++ more) (frames whole) ok.0 too.0 (sym (append_assoc (frame a) (frames answered) more) ∙ e) in
    let later = begun answered whole more ok.1 too.1 same.1 in
    record { rest = later.rest; valid = later.valid; parts = joined w a whole (answered ++ later.rest) (sym same.0) later.parts; left = later.left }
  where
    joined : (x y : Request) (xs ys : List Request) → x ≡ y → xs ≡ ys → x ∷ xs ≡ y ∷ ys
    joined x y xs ys e f = cc

-- what is still to come is known, and with it what stands behind the frames that were answered
record Split (left : Option (List ℕ)) (answered whole : List Request) (rest : List ℕ) : Type 0 where
  more : List ℕ
  known : left ≡ Some more
  all : (frames answered ++ rest) ++ more ≡ frames whole
  begins : Begun answered whole (rest ++ more)

split : (left : Option (List ℕ)) (answered whole : List Request) (rest : List ℕ) → AreRequests answered → AreRequests whole → Consumes (Some (frames whole)) left (frames answered ++ rest) → Split left answered whole rest
split None answered whole rest ok too took = absurd took
split (Some more) answered whole rest ok too took = record {
  more = more;
  known = refl;
  all = sym took;
  begins = begun answered whole (rest ++ more) ok too (sym (append_assoc (frames answered) rest more) ∙ sym took);
}

at_end : (left : Option (List ℕ)) (more : List ℕ) → left ≡ Some more → IsAtEnd left → more ≡ []
at_end left more known end = let P : Option (List ℕ) → Type 0 = IsAtEnd in subst P known end

-- behind frames that stand whole there is always a frame, or nothing
no_frame : (rest more : List ℕ) (requests : List Request) → AreRequests requests → rest ++ more ≡ frames requests → NoFrame rest → ⊥
no_frame rest more [] ok e none =
    let empty : rest ≡ [] = front_empty rest more e in
    none Line tt (frame Line) [] (ap (λ (l : List ℕ). l ++ frame Line) empty ∙ sym (append-nil (frame Line)))
  where
    front_empty : (xs ys : List ℕ) → xs ++ ys ≡ [] → xs ≡ []
    front_empty [] ys e = refl
    front_empty (x ∷ xs) ys e = absurd (omega (arith, ap length e, length-append (x ∷ xs) ys))
no_frame rest more (r ∷ rs) ok e none = none r ok.0 more (frames rs) e

no_whole : (rest more : List ℕ) (requests : List Request) → AreRequests requests → rest ++ more ≡ frames requests → more ≡ [] → 0 < length rest → NoWhole rest → ⊥
no_whole rest more [] ok e none some whole = omega (arith, ap length e, length-append rest more)
no_whole rest more (r ∷ rs) ok e none some whole = whole r ok.0 (frames rs) (sym (append-nil rest) ∙ ap (λ (l : List ℕ). rest ++ l) (sym none) ∙ e)

-- all of the rest lies within the limit
all_within : (answered rest more whole : List ℕ) → (answered ++ rest) ++ more ≡ whole → length whole ≤ INPUT_LIMIT → take (INPUT_LIMIT - length answered) rest ≡ rest
all_within answered rest more whole e short = take_all (INPUT_LIMIT - length answered) rest (omega (arith, ap length e, length-append (answered ++ rest) more, length-append answered rest))

done_all : (rest more : List ℕ) (requests : List Request) → rest ++ more ≡ frames requests → rest ≡ [] → more ≡ [] → requests ≡ []
done_all rest more [] e r m = refl
done_all rest more (q ∷ qs) e r m = absurd (omega (arith, frame_some q, ap length e, ap length r, ap length m, length-append rest more, length-append (frame q) (frames qs)))

pub complete : IsComplete
complete list groups requests left held new statuses.Done ok short a read write words =
    let parts = split left a.requests requests a.rest a.valid ok a.took in
    let none = done_all a.rest parts.more parts.begins.rest parts.begins.left a.ends.1 (at_end left parts.more parts.known a.ends.0) in
    let same : a.requests ≡ requests = sym (parts.begins.parts ∙ ap (λ (l : List Request). a.requests ++ l) none ∙ append-nil a.requests) in
    inl (refl, record { text = a.text; script = subst (λ (l : List Request). Script list groups l a.text) same a.script; wrote = subst (Appends held new) a.part a.wrote })
complete list groups requests left held new statuses.ReadFault ok short a read write words = absurd (read refl)
complete list groups requests left held new statuses.WriteFault ok short a read write words = absurd (write refl)
complete list groups requests left held new statuses.BadWords ok short a read write words = absurd (words refl)
complete list groups requests left held new (statuses.BadFrame offset) ok short a read write words =
    let parts = split left a.requests requests a.rest a.valid ok a.took in
    absurd (elim a.ends.1 [
      | inl none ↦ no_frame a.rest parts.more parts.begins.rest parts.begins.valid parts.begins.left (subst NoFrame (all_within (frames a.requests) a.rest parts.more (frames requests) parts.all short) none)
      | inr ends ↦ no_whole a.rest parts.more parts.begins.rest parts.begins.valid parts.begins.left (at_end left parts.more parts.known ends.ended) ends.some ends.no_whole
    ])
complete list groups requests left held new statuses.TooLong ok short a read write words =
    let parts = split left a.requests requests a.rest a.valid ok a.took in
    absurd (omega (arith, a.ends.long, ap length parts.all, length-append (frames a.requests ++ a.rest) parts.more))
complete list groups requests left held new statuses.OutOfMemory ok short a read write words = inr refl

-- Replies that are counted one after another.
use Rattle.std.proofs.Common.{◌≡◌, ◌≤◌, ◌<◌, ◌+◌, ◌*◌, ◌^◌, ℕ, Bool, true, false, List, [], ◌∷◌, ◌++◌, length, length-append, ◌∙◌, ap, sym, subst, refl, append_assoc, arith}
use Rattle.std.specs.Prelude.{not, filter, Result, Ok, Err, IfOk}
use Rattle.std.proofs.lemmas.List.{append-nil}
use Rattle.std.proofs.lemmas.List.Elements.{filter-append}
use Rattle.dg_check.specs.declared.patterns.Refusal.{Refusal as BadPattern}
use Rattle.dg_check.specs.Patterns.{IsFrontOf}
use Rattle.dg_wire.specs.declared.request.Request.{Request}
use Rattle.dg_wire.specs.declared.reply.Reply.{Reply}
use Rattle.dg_wire.specs.Replies.{reply_text, replies_text}
use Rattle.dg_node.specs.declared.loading.Totals.{Totals}
use Rattle.dg_node.specs.Machine.{Machine, empty}
use Rattle.dg_node.specs.Held.{Held}
use Rattle.dg_node.specs.State.{Leads}
use Rattle.dg_node.specs.Steps.{Step, Steps}
use Rattle.dg_node.specs.Loading.{is_refused, totals_of, with_one, Counts, ComesTo}
use Rattle.dg_node.proofs.Refusing.{steps_grown}
use Rattle.dg_node.proofs.RunLemmas.{replies-push, run_push}

-- so far these of the requests were answered, and the others are left
pub record Counting (list : List BadPattern) (first : Machine) (all left : List Request) (machine : Machine) (totals : Totals) : Type 0 where
  pub answered : List Request
  pub given : List Reply
  pub whole : all ≡ answered ++ left
  pub run : Steps list first answered given machine
  pub totals_are : totals ≡ totals_of given

-- nothing was answered yet
pub counting_first : (list : List BadPattern) (first : Machine) (all left : List Request) (totals : Totals) → all ≡ left → totals ≡ totals_of [] → Counting list first all left first totals
counting_first list first all left totals e t = record { answered = []; given = []; whole = e; run = refl; totals_are = t }

-- one more that is so
pushed_yes : {A : Type 0} (test : A → Bool) (xs : List A) (x : A) → test x ≡ true → length (filter test (xs ++ x ∷ [])) ≡ length (filter test xs) + 1
pushed_yes {A} test xs x is =
    let last : filter test (x ∷ []) ≡ x ∷ [] = rw is refl in
    ap (λ (l : List A). length l) (filter-append test xs (x ∷ [])) ∙ length-append (filter test xs) (filter test (x ∷ [])) ∙ ap (λ (l : List A). length (filter test xs) + length l) last

-- one more that isn't
pushed_no : {A : Type 0} (test : A → Bool) (xs : List A) (x : A) → test x ≡ false → length (filter test (xs ++ x ∷ [])) ≡ length (filter test xs)
pushed_no {A} test xs x is =
    let last : filter test (x ∷ []) ≡ [] = rw is refl in
    ap (λ (l : List A). length l) (filter-append test xs (x ∷ []) ∙ ap (λ (l : List A). filter test xs ++ l) last ∙ append-nil (filter test xs))

abbrev total : ℕ → ℕ → ℕ → ℕ → Totals
total requests ok errors bytes = record { requests = requests; ok = ok; errors = errors; bytes = bytes }

-- two totals with the same parts
same_totals : (requests ok errors bytes requests_too ok_too errors_too bytes_too : ℕ) → requests ≡ requests_too → ok ≡ ok_too → errors ≡ errors_too → bytes ≡ bytes_too → total requests ok errors bytes ≡ total requests_too ok_too errors_too bytes_too
same_totals requests ok errors bytes requests_too ok_too errors_too bytes_too a b c d = λ i. total (a i) (b i) (c i) (d i)

-- the bytes of one reply more
bytes_push : (given : List Reply) (p : Reply) → length (replies_text (given ++ p ∷ [])) ≡ length (replies_text given) + length (reply_text p)
bytes_push given p = ap (λ (l : List ℕ). length l) (replies-push given p) ∙ length-append (replies_text given) (reply_text p)

-- the totals of one reply more
pub totals_push : (given : List Reply) (p : Reply) (b : Bool) → is_refused p ≡ b → totals_of (given ++ p ∷ []) ≡ with_one (totals_of given) b (length (reply_text p))
totals_push given p true is =
    same_totals _ _ _ _ _ _ _ _ (length-append given (p ∷ [])) (pushed_no (λ reply. not (is_refused reply)) given p (ap not is)) (pushed_yes is_refused given p is) (bytes_push given p)
totals_push given p false is =
    same_totals _ _ _ _ _ _ _ _ (length-append given (p ∷ [])) (pushed_yes (λ reply. not (is_refused reply)) given p (ap not is)) (pushed_no is_refused given p is) (bytes_push given p)

-- it goes on so where more patterns were refused in the end
pub counting_grown : (list after : List BadPattern) (first : Machine) (all left : List Request) (machine : Machine) (totals : Totals) → IsFrontOf list after → Counting list first all left machine totals → Counting after first all left machine totals
counting_grown list after first all left machine totals grew counting = record {
  answered = counting.answered;
  given = counting.given;
  whole = counting.whole;
  run = steps_grown list after first counting.answered counting.given machine grew counting.run;
  totals_are = counting.totals_are;
}

-- one more request was answered
pub counting_on : (list : List BadPattern) (first : Machine) (all left rest : List Request) (machine next : Machine) (r : Request) (before after : Totals) → Counting list first all left machine before → left ≡ r ∷ rest → Counts list machine next r before after → Counting list first all rest next after
counting_on list first all left rest machine next r before after counting is counts = record {
  answered = counting.answered ++ r ∷ [];
  given = counting.given ++ counts.reply ∷ [];
  whole = counting.whole ∙ ap (λ (l : List Request). counting.answered ++ l) is ∙ sym (append_assoc counting.answered (r ∷ []) rest);
  run = run_push list first machine next counting.answered r counting.given counts.reply counting.run counts.step;
  totals_are = counts.counted ∙ ap (λ t. with_one t (is_refused counts.reply) (length (reply_text counts.reply))) counting.totals_are ∙ sym (totals_push counting.given counts.reply (is_refused counts.reply) refl);
}

-- all were answered
pub counting_done : (list : List BadPattern) (groups : ℕ) (all left : List Request) (machine : Machine) (totals : Totals) → Counting list (empty groups) all left machine totals → left ≡ [] → ComesTo list groups all totals
counting_done list groups all left machine totals counting is = record {
  given = counting.given;
  after = machine;
  run = subst (λ (l : List Request). Steps list (empty groups) l counting.given machine) (sym (counting.whole ∙ ap (λ (l : List Request). counting.answered ++ l) is ∙ append-nil counting.answered)) counting.run;
  totals_are = counting.totals_are;
}

-- there are as many replies as requests that were answered
as_many : (list : List BadPattern) (old new : Machine) (rs : List Request) (ps : List Reply) → Steps list old rs ps new → length ps ≡ length rs
as_many list old new [] [] s = refl
as_many list old new (r ∷ rs) (p ∷ ps) s = let more : length ps ≡ length rs = as_many list s.0 new rs ps s.2 in omega arith
as_many list old new [] (p ∷ ps) s = absurd s
as_many list old new (r ∷ rs) [] s = absurd s

-- no more replies were counted than there are requests
pub counted_few : (list : List BadPattern) (first : Machine) (all left : List Request) (machine : Machine) (totals : Totals) → Counting list first all left machine totals → totals.requests ≤ length all
counted_few list first all left machine totals counting =
    let lengths : length all ≡ length counting.answered + length left = ap (λ (l : List Request). length l) counting.whole ∙ length-append counting.answered left in
    let replies : length counting.given ≡ length counting.answered = as_many list first machine counting.answered counting.given counting.run in
    let requests : totals.requests ≡ length counting.given = ap (λ (t : Totals). t.requests) counting.totals_are in
    omega arith

-- a request was answered, and its reply is counted unless memory is wanting
pub counts_once : {E : Type 0} (list : List BadPattern) (a b : Held) (r : Request) (p : Reply) (before : Totals) (res : Result Totals E) → Leads a (λ m n. Step list m r p n) b → IfOk res (λ after. after ≡ with_one before (is_refused p) (length (reply_text p))) → IfOk res (λ after. Leads a (λ m n. Counts list m n r before after) b)
counts_once list a b r p before (Ok after) led is = record { leads = record { reply = p; step = led.leads; counted = is } }
counts_once list a b r p before (Err e) led is = tt

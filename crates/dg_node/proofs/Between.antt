-- One session, or one start, between those of others: what is found, dropped and changed by its number.
use Rattle.std.proofs.Common.{◌≡◌, ◌≢◌, ℕ, Bool, true, false, not, List, [], ◌∷◌, ◌++◌, Some, None, refl, ap, subst, sym, ◌∙◌, arith}
use Rattle.std.specs.Prelude.{◌==◌, map, filter, find}
use Rattle.std.specs.List.{AllByRecursion}
use Rattle.std.proofs.lemmas.Grind.{common_steps}
use Rattle.dg_graph.specs.declared.change.Change.{Change}
use Rattle.dg_oracle.specs.Commits as oracle
use Rattle.dg_zero.specs.declared.entry.Entry.{Entry}
use Rattle.dg_zero.specs.Counters.{Started, active, ended, starts_of, line}
use Rattle.dg_zero.specs.Legal.{IsLegal}
use Rattle.dg_zero.proofs.LawsOfHistories.{line_stays_below}
use Rattle.dg_node.specs.Kept.{AreApart}
use Rattle.dg_node.specs.Machine.{Session, changed_if}
use Rattle.dg_node.specs.Sessions.{HaveOthers}
use Rattle.dg_node.proofs.OneAmong.{all_around, apart_ascending}

same_number : (a b : ℕ) → a ≡ b → (a == b) ≡ true
same_number a b e = grind (arith, common_steps)

other_number : (a b : ℕ) → a ≢ b → (a == b) ≡ false
other_number a b ne = by (a == b) refl
  where
    by : (v : Bool) → (a == b) ≡ v → v ≡ false
    by true e = absurd (ne (let is : a ≡ b = grind (arith, common_steps) in is))
    by false e = refl

-- ---- sessions

pub found_between : (sid : ℕ) (front back : List Session) (s : Session) → s.sid ≡ sid → HaveOthers sid front → find (λ (t : Session). t.sid == sid) (front ++ s ∷ back) ≡ Some s
found_between sid [] back s e a = rw (same_number s.sid sid e) refl
found_between sid (f ∷ front) back s e a = rw (other_number f.sid sid a.0) (found_between sid front back s e a.1)

pub none_found : (sid : ℕ) (ss : List Session) → HaveOthers sid ss → find (λ (t : Session). t.sid == sid) ss ≡ None
none_found sid [] a = refl
none_found sid (s ∷ ss) a = rw (other_number s.sid sid a.0) (none_found sid ss a.1)

all_left : (sid : ℕ) (ss : List Session) → HaveOthers sid ss → filter (λ (t : Session). not (t.sid == sid)) ss ≡ ss
all_left sid [] a = refl
all_left sid (s ∷ ss) a = rw (other_number s.sid sid a.0) (ap (λ (l : List Session). s ∷ l) (all_left sid ss a.1))

pub left_between : (sid : ℕ) (front back : List Session) (s : Session) → s.sid ≡ sid → HaveOthers sid front → HaveOthers sid back → filter (λ (t : Session). not (t.sid == sid)) (front ++ s ∷ back) ≡ front ++ back
left_between sid [] back s e a b = rw (same_number s.sid sid e) (all_left sid back b)
left_between sid (f ∷ front) back s e a b = rw (other_number f.sid sid a.0) (ap (λ (l : List Session). f ∷ l) (left_between sid front back s e a.1 b))

all_unchanged : (sid : ℕ) (changes : List Change) (ss : List Session) → HaveOthers sid ss → map (changed_if sid changes) ss ≡ ss
all_unchanged sid changes [] a = refl
all_unchanged sid changes (s ∷ ss) a = rw (other_number s.sid sid a.0) (ap (λ (l : List Session). s ∷ l) (all_unchanged sid changes ss a.1))

pub changed_between : (sid : ℕ) (changes : List Change) (front back : List Session) (s : Session) → s.sid ≡ sid → HaveOthers sid front → HaveOthers sid back → map (changed_if sid changes) (front ++ s ∷ back) ≡ front ++ (record { sid = s.sid; start = s.start; own = s.own ++ changes }) ∷ back
changed_between sid changes [] back s e a b = rw (same_number s.sid sid e) (ap (λ (l : List Session). (record { sid = s.sid; start = s.start; own = s.own ++ changes }) ∷ l) (all_unchanged sid changes back b))
changed_between sid changes (f ∷ front) back s e a b = rw (other_number f.sid sid a.0) (ap (λ (l : List Session). f ∷ l) (changed_between sid changes front back s e a.1 b))

pub both_others : (sid : ℕ) (front back : List Session) → HaveOthers sid front → HaveOthers sid back → HaveOthers sid (front ++ back)
both_others sid [] back a b = b
both_others sid (f ∷ front) back a b = (a.0, both_others sid front back a.1 b)

-- ---- starts

all_stay : (start : ℕ) (ts : List Started) → AllByRecursion (λ (t : Started). t.start ≢ start) ts → ended ts start ≡ ts
all_stay start [] a = refl
all_stay start (t ∷ ts) a = rw (other_number t.start start a.0) (ap (λ (l : List Started). t ∷ l) (all_stay start ts a.1))

ended_among : (front back : List Started) (s : Started) → AreApart (λ (t : Started). t.start) (front ++ s ∷ back) → ended (front ++ s ∷ back) s.start ≡ front ++ back
ended_among [] back s a = rw (same_number s.start s.start refl) (all_stay s.start back a.0)
ended_among (t ∷ front) back s a =
    let r = all_around (λ (u : Started). u.start ≢ t.start) front back s a.0 in
    rw (other_number t.start s.start (λ e. r.1 (sym e))) (ap (λ (l : List Started). t ∷ l) (ended_among front back s a.1))

-- in a legal history no two active starts are one
pub ended_between : (n : ℕ) (h : List Entry) → IsLegal n h → (front back : List Started) (s : Started) → active h ≡ front ++ s ∷ back → ended (active h) s.start ≡ front ++ back
ended_between n h l front back s e =
    let ascend : oracle.Ascends (line h) (starts_of (active h)) = (line_stays_below n h l).starts in
    let apart : AreApart (λ (t : Started). t.start) (active h) = apart_ascending (λ (t : Started). t.start) (line h) (active h) ascend in
    ap (λ (l : List Started). ended l s.start) e ∙ ended_among front back s (subst (λ (l : List Started). AreApart (λ (t : Started). t.start) l) e apart)

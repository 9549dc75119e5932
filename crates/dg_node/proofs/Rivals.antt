-- What holds of every machine that runs lead to: of two commits that touch a guarded value, the later one began at or after the earlier one.
use Rattle.std.proofs.Common.{◌≡◌, ℕ, ◌+◌, ◌<◌, ◌≤◌, inl, inr, Bool, true, false, List, [], ◌∷◌, ◌++◌, None, refl, ap, subst, sym, ◌∙◌, append_assoc, arith}
use Rattle.std.specs.Prelude.{◌⊎◌, ◌&&◌, nat_lt, map}
use Rattle.std.specs.List.{AllByRecursion}
use Rattle.std.proofs.lemmas.Grind.{common_steps}
use Rattle.dg_values.specs.Ascending.{has}
use Rattle.dg_values.specs.Order.{posting_cmp}
use Rattle.dg_values.specs.declared.value.Value.{Value}
use Rattle.dg_values.specs.declared.value.Posting.TheVariants.{Val}
use Rattle.dg_sets.proofs.Sets.{at}
use Rattle.dg_tokens.specs.declared.tokens.IndexToken.{IndexToken}
use Rattle.dg_schema.specs.declared.definition.PredDef.{PredDef}
use Rattle.dg_schema.specs.Definitions.{definition_of}
use Rattle.dg_graph.specs.declared.change.Triple.{Triple}
use Rattle.dg_graph.specs.Graphs.{after_changes}
use Rattle.dg_keys.specs.declared.conflict.ConflictKey.{ConflictKey}
use Rattle.dg_keys.specs.declared.conflict.ConflictKey.TheVariants.{Index}
use Rattle.dg_keys.specs.Conflicts.{conflict_cmp}
use Rattle.dg_keys.specs.KeyOrder.{conflict_order}
use Rattle.dg_oracle.specs.Verdicts.{HasNoClash}
use Rattle.dg_zero.specs.Listings.{touched}
use Rattle.dg_node.specs.Graphs.{Commit, committed_at, graph_at}
use Rattle.dg_node.specs.Machine.{Machine, Session}
use Rattle.dg_node.specs.Schemas.{Alter, schema_at}
use Rattle.dg_node.specs.State.{IsDrawn}
use Rattle.dg_node.specs.Touching.{IsGuarded, Touches, AreRivals}
use Rattle.dg_node.specs.Transactions.{keys_at, keyed, clash_of}
use Rattle.dg_node.proofs.MachineLemmas.{IsSeenAlike, schema_before, graph_beside, graph_before, all_from, drawn_later}
use Rattle.dg_node.proofs.Guarding.{guard_key}
use Rattle.dg_node.proofs.Clearing.{all_clear}

-- the transaction began at a timestamp that was drawn
abbrev pub HasBegun : ℕ → Session → Type 0
HasBegun next session = session.start < next

-- the law, and what keeps it: each start was drawn
pub record IsSettled (m : Machine) : Type 0 where
  pub rivals : (p : List ℕ) (value : Value) (first second : Commit) → AreRivals m p value first second → first.ts ≤ second.start
  pub drawn : AllByRecursion (IsDrawn m.next) m.commits
  pub begun : AllByRecursion (HasBegun m.next) m.sessions

-- ---- lists

-- what holds of all holds of one among them
pub all_mid : {X : Type 0} (P : X → Type 0) (front back : List X) (x : X) → AllByRecursion P (front ++ x ∷ back) → P x
all_mid P [] back x a = a.0
all_mid P (y ∷ front) back x a = all_mid P front back x a.1

all_mapped : {X Y : Type 0} (P : Y → Type 0) (f : X → Y) (front back : List X) (x : X) → AllByRecursion P (map f (front ++ x ∷ back)) → P (f x)
all_mapped P f [] back x a = a.0
all_mapped P f (y ∷ front) back x a = all_mapped P f front back x a.1

pub all_push : {X : Type 0} (P : X → Type 0) (xs : List X) (x : X) → AllByRecursion P xs → P x → AllByRecursion P (xs ++ x ∷ [])
all_push P [] x a p = (p, tt)
all_push P (y ∷ xs) x a p = (a.0, all_push P xs x a.1 p)

-- one more stands last, and this is it
record IsLast {X : Type 0} (xs front : List X) (x y : X) : Type 0 where
  same : x ≡ y
  others : xs ≡ front

-- this stands among those before
record IsEarlier {X : Type 0} (xs front : List X) (y : X) : Type 0 where
  back : List X
  stands : xs ≡ front ++ y ∷ back

pub nil_apart : {X : Type 0} (front back : List X) (y : X) → [] ≡ front ++ y ∷ back → ⊥
nil_apart [] back y e = cc
nil_apart (x ∷ front) back y e = cc

head_same : {X : Type 0} (x y : X) (xs ys : List X) → x ∷ xs ≡ y ∷ ys → x ≡ y
head_same x y xs ys e = cc

tail_same : {X : Type 0} (x y : X) (xs ys : List X) → x ∷ xs ≡ y ∷ ys → xs ≡ ys
tail_same x y xs ys e = cc

last_or : {X : Type 0} (xs front back : List X) (x y : X) → xs ++ x ∷ [] ≡ front ++ y ∷ back → IsLast xs front x y ⊎ IsEarlier xs front y
last_or [] [] back x y e = inl (record { same = head_same x y [] back e; others = refl })
last_or [] (z ∷ front) back x y e = absurd (nil_apart front back y (tail_same x z [] (front ++ y ∷ back) e))
last_or (w ∷ xs) [] back x y e =
    let one = head_same w y (xs ++ x ∷ []) back e in
    inr (record { back = xs; stands = λ i. one i ∷ xs })
last_or (w ∷ xs) (z ∷ front) back x y e =
    by (last_or xs front back x y (tail_same w z (xs ++ x ∷ []) (front ++ y ∷ back) e))
  where
    one : w ≡ z
    one = head_same w z (xs ++ x ∷ []) (front ++ y ∷ back) e

    by : IsLast xs front x y ⊎ IsEarlier xs front y → IsLast (w ∷ xs) (z ∷ front) x y ⊎ IsEarlier (w ∷ xs) (z ∷ front) y
    by (inl l) = let others = l.others in inl (record { same = l.same; others = λ i. one i ∷ others i })
    by (inr b) = let stands = b.stands in inr (record { back = b.back; stands = λ i. one i ∷ stands i })

-- ---- two machines in which the starts of commits see the same

module _ (m n : Machine) (p : List ℕ) (value : Value) (token : IndexToken) where
  guarded_alike : (c : Commit) → IsSeenAlike m n c → IsGuarded (schema_at n.alters c.start) p value token → IsGuarded (schema_at m.alters c.start) p value token
  guarded_alike c s g =
      let back = sym s.schema_is in
      record { def = g.def; declared = ap (λ (ds : List PredDef). definition_of ds p) back ∙ g.declared; upsert = g.upsert; filed = g.filed }

touches_alike : (m n : Machine) (def : PredDef) (p : List ℕ) (value : Value) (c : Commit) → IsSeenAlike m n c → Touches def n p value c → Touches def m p value c
touches_alike m n def p value c s t =
    let seen : graph_at n.alters n.commits c.start t.before ≡ graph_at m.alters m.commits c.start t.before = λ i. after_changes (s.schema_is i) (s.graph_is i) t.before in
    record {
      before = t.before;
      change = t.change;
      after = t.after;
      stands = t.stands;
      pred = t.pred;
      there = subst (λ (graph : List Triple). has posting_cmp (touched def graph t.change) (Val value) ≡ true) seen t.there;
    }

rivals_alike : (m n : Machine) (p : List ℕ) (value : Value) (first second : Commit) (front mid back : List Commit) → m.commits ≡ front ++ first ∷ mid ++ second ∷ back → IsSeenAlike m n first → IsSeenAlike m n second → AreRivals n p value first second → AreRivals m p value first second
unfolding guarded_alike
rivals_alike m n p value first second front mid back stand a b r = record {
  front = front;
  mid = mid;
  back = back;
  stand = stand;
  token = r.token;
  first_guarded = guarded_alike m n p value r.token first a r.first_guarded;
  second_guarded = guarded_alike m n p value r.token second b r.second_guarded;
  first_touches = touches_alike m n r.first_guarded.def p value first a r.first_touches;
  second_touches = touches_alike m n r.second_guarded.def p value second b r.second_touches;
}

-- of two commits, what holds of all holds of each
first_of_two : (P : Commit → Type 0) (cs front mid back : List Commit) (first second : Commit) → cs ≡ front ++ first ∷ mid ++ second ∷ back → AllByRecursion P cs → P first
first_of_two P cs front mid back first second e a =
    let other : cs ≡ front ++ first ∷ (mid ++ second ∷ back) = e ∙ append_assoc front (first ∷ mid) (second ∷ back) in
    all_mid P front (mid ++ second ∷ back) first (subst (AllByRecursion P) other a)

second_of_two : (P : Commit → Type 0) (cs front mid back : List Commit) (first second : Commit) → cs ≡ front ++ first ∷ mid ++ second ∷ back → AllByRecursion P cs → P second
second_of_two P cs front mid back first second e a = all_mid P (front ++ first ∷ mid) back second (subst (AllByRecursion P) e a)

-- ---- a machine with the same alters and commits

pub record Keeps (m n : Machine) : Type 0 where
  pub alters_are : n.alters ≡ m.alters
  pub commits_are : n.commits ≡ m.commits
  pub later : m.next ≤ n.next
  pub begun : AllByRecursion (HasBegun m.next) m.sessions → AllByRecursion (HasBegun n.next) n.sessions

pub keeps_settled : (m n : Machine) → Keeps m n → IsSettled m → IsSettled n
keeps_settled m n k s =
    let alters = k.alters_are in
    let commits = k.commits_are in
    let back = sym commits in
    let alike : (c : Commit) → IsSeenAlike m n c = λ c. record { schema_is = ap (λ (alts : List Alter). schema_at alts c.start) alters; graph_is = λ i. committed_at (alters i) (commits i) c.start } in
    record {
      rivals = λ p value first second r. s.rivals p value first second (rivals_alike m n p value first second r.front r.mid r.back (back ∙ r.stand) (alike first) (alike second) r);
      drawn = subst (AllByRecursion (IsDrawn n.next)) back (drawn_later m.next n.next m.commits k.later s.drawn);
      begun = k.begun s.begun;
    }

-- ---- one more alter

module _ (m : Machine) (a : Alter) (next : ℕ) (late : m.next ≤ a.ts) (up : m.next ≤ next) (s : IsSettled m) where
  abbrev altered : Machine
  altered = record m { next = next; alters = m.alters ++ a ∷ [] }

  seen_alike : (c : Commit) → IsDrawn m.next c → IsSeenAlike m altered c
  seen_alike c d = record {
    schema_is = schema_before m.alters a c.start (omega (arith, late, d.0, d.1));
    graph_is = graph_beside m.alters a m.next c.start m.commits late s.drawn;
  }

  pub alter_settled : IsSettled (record m { next = next; alters = m.alters ++ a ∷ [] })
  alter_settled = record {
    rivals = λ p value first second r.
        let one = first_of_two (IsDrawn m.next) m.commits r.front r.mid r.back first second r.stand s.drawn in
        let two = second_of_two (IsDrawn m.next) m.commits r.front r.mid r.back first second r.stand s.drawn in
        s.rivals p value first second (rivals_alike m altered p value first second r.front r.mid r.back r.stand (seen_alike first one) (seen_alike second two) r);
    drawn = drawn_later m.next next m.commits up s.drawn;
    begun = all_from (HasBegun m.next) (HasBegun next) (λ t b. omega (arith, up, b)) m.sessions s.begun;
  }

-- ---- one more commit

not_both : (x y : Bool) → (x && y) ≡ false → y ≡ true → x ≡ false
not_both true y e h = absurd (cc)
not_both false y e h = refl

module _ (m : Machine) (session : Session) (sessions : List Session) (clear : clash_of m session ≡ None) (s : IsSettled m) (began : session.start < m.next) (kept : AllByRecursion (HasBegun m.next) sessions) where
  abbrev made : Commit
  made = record { start = session.start; ts = m.next; changes = session.own }

  abbrev longer : Machine
  longer = record m { next = m.next + 1; commits = m.commits ++ made ∷ []; sessions = sessions }

  before_alike : (c : Commit) → c.start < m.next → IsSeenAlike m longer c
  before_alike c lt = record { schema_is = refl; graph_is = graph_before m.alters m.commits made c.start lt }

  start_drawn : (c : Commit) → IsDrawn m.next c → c.start < m.next
  start_drawn c d = omega (arith, d.0, d.1)

  -- a commit that shares a key with the transaction lies at its start or below
  apart : (front mid : List Commit) (first : Commit) (key : ConflictKey) → m.commits ≡ front ++ first ∷ mid → has conflict_cmp (keys_at m first.start first.changes) key ≡ true → has conflict_cmp (keys_at m session.start session.own) key ≡ true → first.ts ≤ session.start
  apart front mid first key stand has_first has_made =
      let each = all_clear (map (keyed m) m.commits) session.start (keys_at m session.start session.own) clear in
      let none : HasNoClash conflict_cmp (map (keyed m) m.commits) session.start key
      = at conflict_cmp conflict_order (HasNoClash conflict_cmp (map (keyed m) m.commits) session.start) (keys_at m session.start session.own) key each has_made in
      let among : HasNoClash conflict_cmp (map (keyed m) (front ++ first ∷ mid)) session.start key
      = subst (λ (cs : List Commit). HasNoClash conflict_cmp (map (keyed m) cs) session.start key) stand none in
      let its : (nat_lt session.start first.ts && has conflict_cmp (keys_at m first.start first.changes) key) ≡ false = head_of front mid first key among in
      let low : nat_lt session.start first.ts ≡ false = not_both (nat_lt session.start first.ts) (has conflict_cmp (keys_at m first.start first.changes) key) its has_first in
      grind (arith, common_steps)
    where
      head_of : (front mid : List Commit) (first : Commit) (key : ConflictKey) → HasNoClash conflict_cmp (map (keyed m) (front ++ first ∷ mid)) session.start key → (nat_lt session.start first.ts && has conflict_cmp (keys_at m first.start first.changes) key) ≡ false
      head_of [] mid first key a = a.0
      head_of (c ∷ front) mid first key a = head_of front mid first key a.1

  with_made : (p : List ℕ) (value : Value) (first : Commit) (front mid : List Commit) → m.commits ≡ front ++ first ∷ mid → AreRivals longer p value first made → first.ts ≤ session.start
  with_made p value first front mid stand r =
      let d : IsDrawn m.next first = all_mid (IsDrawn m.next) front mid first (subst (AllByRecursion (IsDrawn m.next)) stand s.drawn) in
      let key : ConflictKey = Index p r.token None in
      let mine = guard_key m p value r.token first r.first_guarded (touches_alike m longer r.first_guarded.def p value first (before_alike first (start_drawn first d)) r.first_touches) in
      let its = guard_key m p value r.token made r.second_guarded (touches_alike m longer r.second_guarded.def p value made (before_alike made began) r.second_touches) in
      apart front mid first key stand mine its

  rivals_after : (p : List ℕ) (value : Value) (first second : Commit) (r : AreRivals longer p value first second) → IsLast m.commits (r.front ++ first ∷ r.mid) made second ⊎ IsEarlier m.commits (r.front ++ first ∷ r.mid) second → first.ts ≤ second.start
  rivals_after p value first second r (inl l) =
      let back = sym l.same in
      let there : first.ts ≤ made.start = with_made p value first r.front r.mid l.others (subst (λ (c : Commit). AreRivals longer p value first c) back r) in
      subst (λ (c : Commit). first.ts ≤ c.start) l.same there
  rivals_after p value first second r (inr e) =
      let stand : m.commits ≡ r.front ++ first ∷ r.mid ++ second ∷ e.back = e.stands in
      let one = first_of_two (IsDrawn m.next) m.commits r.front r.mid e.back first second stand s.drawn in
      let two = second_of_two (IsDrawn m.next) m.commits r.front r.mid e.back first second stand s.drawn in
      s.rivals p value first second (rivals_alike m longer p value first second r.front r.mid e.back stand (before_alike first (start_drawn first one)) (before_alike second (start_drawn second two)) r)

  pub commit_settled : IsSettled (record m { next = m.next + 1; commits = m.commits ++ record { start = session.start; ts = m.next; changes = session.own } ∷ []; sessions = sessions })
  commit_settled = record {
    rivals = λ p value first second r. rivals_after p value first second r (last_or m.commits (r.front ++ first ∷ r.mid) r.back made second r.stand);
    drawn = all_push (IsDrawn (m.next + 1)) m.commits made (drawn_later m.next (m.next + 1) m.commits (omega arith) s.drawn) (began, omega arith);
    begun = all_from (HasBegun m.next) (HasBegun (m.next + 1)) (λ t b. omega (arith, b)) sessions kept;
  }

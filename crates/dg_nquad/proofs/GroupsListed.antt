-- Groups are read exactly where they stand one after the other.
use Rattle.std.proofs.Common.{◌≡◌, ◌↔◌, ℕ, zero, suc, ◌≤◌, ◌<◌, Bool, true, false, List, [], ◌∷◌, ◌++◌, length, length-append, append_assoc, append-nil, refl, sym, ap, subst, ◌∙◌, arith, inl, inr}
use Rattle.std.specs.Prelude.{Option, Some, None, Ok, Err, is_some, flat_map, if◌then◌else◌}
use Rattle.std.proofs.lemmas.Bool.{cases_Bool}
use Rattle.dg_text.specs.Lexing.{lexed}
use Rattle.dg_text.specs.Listed.{AreListed}
use Rattle.dg_text.specs.Marks.{open_curly, close_curly}
use Rattle.dg_text.specs.Reading.{Read, Reader, and_then, meant, next, one_as, repeated, skip, turns}
use Rattle.dg_text.specs.Tokens.{Tok, is_punct, toks_of}
use Rattle.dg_text.specs.declared.token.Token.{Token}
use Rattle.dg_text.proofs.Listing.{listed}
use Rattle.dg_nquad.specs.declared.block.Block.{Block}
use Rattle.dg_nquad.specs.declared.mutation.Statement.{Statement}
use Rattle.dg_nquad.specs.Grammar.{statement, statements, group, groups, begins_statement, begins_group}
use Rattle.dg_nquad.specs.Grouped.{HasGroup, AreGrouped, IsGrouped}
use Rattle.dg_nquad.specs.Whole.{outcome, by_tokens, mutation}
use Rattle.dg_nquad.specs.Words.{group_meant}
use Rattle.dg_nquad.proofs.GroupsBack.{group_is, groups_is}
use Rattle.dg_nquad.proofs.Listed.{adds_one, statements_listed}
use Rattle.dg_nquad.proofs.MutationBack.{body_is}
use Rattle.dg_nquad.proofs.PlainListed.{whole_of}

-- ---- what was read, part by part

-- a part was read, and then what follows
record Follows {A B : Type 0} (read : Read (List Tok) A) (more : A → Reader (List Tok) B) (y : B) (rest : List Tok) : Type 0 where
  pub x : A
  pub left : List Tok
  pub first : read ≡ Ok (x, left)
  pub then_is : more x left ≡ Ok (y, rest)

follows : {A B : Type 0} (read : Read (List Tok) A) (more : A → Reader (List Tok) B) (y : B) (rest : List Tok) → and_then read more ≡ Ok (y, rest) → Follows read more y rest
follows (Ok p) more y rest e = record { x = p.0; left = p.1; first = refl; then_is = e }
follows (Err place) more y rest e = absurd (cc)

abbrev value_or : {A : Type 0} → A → Read (List Tok) A → A
value_or d (Ok x) = x.0
value_or d (Err place) = d

abbrev left_or : {A : Type 0} → List Tok → Read (List Tok) A → List Tok
left_or d (Ok x) = x.1
left_or d (Err place) = d

-- one token with a property, and the rest
record Takes (P : Tok → Type 0) (left rest : List Tok) : Type 0 where
  pub tok : Tok
  pub is : left ≡ tok ∷ rest
  pub has : P tok

skipped : (test : Tok → Bool) (left rest : List Tok) (u : Unit {0}) → skip test left ≡ Ok (u, rest) → Takes (λ t. test t ≡ true) left rest
skipped test [] rest u e = absurd (cc)
skipped test (t ∷ left) rest u e = by (test t) refl e
  where
    by : (b : Bool) → test t ≡ b → ◌≡◌ {A = Read (List Tok) (Unit {0})} (if b then Ok (tt, left) else Err (length (t ∷ left))) (Ok (u, rest)) → Takes (λ t. test t ≡ true) (t ∷ left) rest
    by true h f = record { tok = t; is = ap (λ (l : List Tok). t ∷ l) (ap (left_or left) f); has = h }
    by false h f = absurd (cc)

as_meant : {A : Type 0} (meaning : Tok → Option A) (left rest : List Tok) (x : A) → one_as meaning left ≡ Ok (x, rest) → Takes (λ t. meaning t ≡ Some x) left rest
as_meant meaning [] rest x e = absurd (cc)
as_meant {A = A} meaning (t ∷ left) rest x e = by (meaning t) refl e
  where
    by : (o : Option A) → meaning t ≡ o → meant o (t ∷ left) left ≡ Ok (x, rest) → Takes (λ t. meaning t ≡ Some x) (t ∷ left) rest
    by None h f = absurd (cc)
    by (Some y) h f = record { tok = t; is = ap (λ (l : List Tok). t ∷ l) (ap (left_or left) f); has = h ∙ ap (λ (z : A). Some z) (ap (value_or y) f) }

-- ---- one group

-- what was read of a group, as its statements behind those before
record ReadGroup (upsert : Bool) (before x : List Statement) (left rest : List Tok) : Type 0 where
  pub all : List Statement
  pub is : x ≡ before ++ all
  pub group : HasGroup upsert before all left (λ l. l ≡ rest)

group_inside : (upsert delete : Bool) (before x y : List Statement) (word opening closing : Tok) (left inner rest : List Tok) → left ≡ word ∷ opening ∷ inner → group_meant word ≡ Some delete → is_punct open_curly opening ≡ true
    → statements (record { delete = delete; upsert = upsert }) before inner ≡ Ok (y, closing ∷ rest) → is_punct close_curly closing ≡ true → y ≡ x → ReadGroup upsert before x left rest
group_inside upsert delete before x y word opening closing left inner rest is named opens read closes same =
    let block : Block = record { delete = delete; upsert = upsert } in
    let found = listed begins_statement (statement block) (adds_one block) (length inner) before y (closing ∷ rest) inner (omega arith) read in
    record {
      all = found.all;
      is = sym same ∙ found.is;
      group = record {
        delete = delete;
        word = word;
        opening = opening;
        inner = inner;
        closing = closing;
        rest = rest;
        is = is;
        named = named;
        opens = opens;
        listed = found.are;
        closes = closes;
        more = refl;
      };
    }

group_read : (upsert : Bool) (before x : List Statement) (left rest : List Tok) → group upsert before left ≡ Ok (x, rest) → ReadGroup upsert before x left rest
unfolding group
group_read upsert before x left rest e =
    let a = follows (one_as group_meant left) _ x rest e in
    let word = as_meant group_meant left a.left a.x a.first in
    let b = follows (skip (is_punct open_curly) a.left) _ x rest a.then_is in
    let opening = skipped (is_punct open_curly) a.left b.left b.x b.first in
    let c = follows (statements (record { delete = a.x; upsert = upsert }) before b.left) _ x rest b.then_is in
    let d = follows (skip (is_punct close_curly) c.left) _ x rest c.then_is in
    let closing = skipped (is_punct close_curly) c.left d.left d.x d.first in
    let behind : d.left ≡ rest = ap (left_or d.left) d.then_is in
    let read : statements (record { delete = a.x; upsert = upsert }) before b.left ≡ Ok (c.x, closing.tok ∷ rest) =
    c.first ∙ ap (λ (l : List Tok). Ok (c.x, l)) (closing.is ∙ ap (λ (l : List Tok). closing.tok ∷ l) behind) in
    group_inside upsert a.x before x c.x word.tok opening.tok closing.tok left b.left rest
    (word.is ∙ ap (λ (l : List Tok). word.tok ∷ l) opening.is) word.has opening.has read closing.has (ap (value_or c.x) d.then_is)

-- a group that stands there is read
group_back : (upsert : Bool) (before all : List Statement) (left : List Tok) (More : List Tok → Type 0) → (g : HasGroup upsert before all left More) → group upsert before left ≡ Ok (before ++ all, g.rest)
group_back upsert before all left More g =
    let block : Block = record { delete = g.delete; upsert = upsert } in
    let inside : statements block before g.inner ≡ Ok (before ++ all, g.closing ∷ g.rest) = (statements_listed block before all g.inner (g.closing ∷ g.rest)).1 g.listed in
    ap (group upsert before) g.is ∙ group_is upsert g.delete before (before ++ all) g.word g.opening g.closing g.inner g.rest g.named g.opens inside g.closes

group_begins : (upsert : Bool) (before all : List Statement) (left : List Tok) (More : List Tok → Type 0) → HasGroup upsert before all left More → begins_group left ≡ true
group_begins upsert before all left More g = ap begins_group g.is ∙ ap is_some g.named

-- a list ends within what is left
long : (block : Block) (all before : List Statement) (end left : List Tok) → AreListed begins_statement (statement block) before all end left → length end ≤ length left
long block [] before end left a = omega (arith, ap length a.0)
long block (s ∷ all) before end left a = omega (arith, ap length a.is, length-append a.tokens a.rest, long block all (before ++ s ∷ []) end a.rest a.more)

shorter : (upsert : Bool) (before all : List Statement) (left : List Tok) (More : List Tok → Type 0) → (g : HasGroup upsert before all left More) → length g.rest < length left
shorter upsert before all left More g = omega (arith, ap length g.is, long (record { delete = g.delete; upsert = upsert }) all before (g.closing ∷ g.rest) g.inner g.listed)

-- ---- groups one after the other

-- the statements of all groups
abbrev every : List (List Statement) → List Statement
every gs = flat_map (λ all. all) gs

-- what was read of groups, group by group
record ReadGroups (upsert : Bool) (before x : List Statement) (end left : List Tok) : Type 0 where
  pub groups : List (List Statement)
  pub is : x ≡ before ++ every groups
  pub are : AreGrouped upsert before groups end left

nothing : (upsert : Bool) (before x : List Statement) (end left : List Tok) → begins_group left ≡ false → ◌≡◌ {A = Read (List Tok) (List Statement)} (Ok (before, left)) (Ok (x, end)) → ReadGroups upsert before x end left
nothing upsert before x end left b e =
    let same : before ≡ x = ap (value_or before) e in
    let at_end : left ≡ end = ap (left_or left) e in
    record { groups = []; is = sym same ∙ sym (append-nil before); are = (at_end, subst (λ (l : List Tok). begins_group l ≡ false) at_end b) }

-- a group, and those behind it
joined : (upsert : Bool) (before x y : List Statement) (end left rest : List Tok) → ReadGroup upsert before y left rest → ReadGroups upsert y x end rest → ReadGroups upsert before x end left
joined upsert before x y end left rest g more =
    let behind : AreGrouped upsert (before ++ g.all) more.groups end g.group.rest =
    subst (λ (l : List Tok). AreGrouped upsert (before ++ g.all) more.groups end l) (sym g.group.more) (subst (λ (l : List Statement). AreGrouped upsert l more.groups end rest) g.is more.are) in
    record {
      groups = g.all ∷ more.groups;
      is = more.is ∙ ap (λ (l : List Statement). l ++ every more.groups) g.is ∙ append_assoc before g.all (every more.groups);
      are = record {
        delete = g.group.delete;
        word = g.group.word;
        opening = g.group.opening;
        inner = g.group.inner;
        closing = g.group.closing;
        rest = g.group.rest;
        is = g.group.is;
        named = g.group.named;
        opens = g.group.opens;
        listed = g.group.listed;
        closes = g.group.closes;
        more = behind;
      };
    }

read_shorter : (upsert : Bool) (before x : List Statement) (left rest : List Tok) → ReadGroup upsert before x left rest → length rest < length left
read_shorter upsert before x left rest g = subst (λ (l : List Tok). length l < length left) g.group.more (shorter upsert before g.all left (λ l. l ≡ rest) g.group)

after_turn : (upsert : Bool) (n : ℕ) (before x : List Statement) (end left : List Tok) (r : Read (List Tok) (List Statement))
    → ((y : List Statement) (rest : List Tok) → length rest ≤ n → turns n begins_group (group upsert) y rest ≡ Ok (x, end) → ReadGroups upsert y x end rest)
    → length left ≤ suc n → group upsert before left ≡ r → and_then r (turns n begins_group (group upsert)) ≡ Ok (x, end) → ReadGroups upsert before x end left
after_turn upsert n before x end left (Ok y) again le e h =
    let g = group_read upsert before y.0 left y.1 e in
    joined upsert before x y.0 end left y.1 g (again y.0 y.1 (omega (arith, le, read_shorter upsert before y.0 left y.1 g)) h)
after_turn upsert n before x end left (Err place) again le e h = absurd (cc)

turns_read : (upsert : Bool) (n : ℕ) (before x : List Statement) (end left : List Tok) → length left ≤ n → turns n begins_group (group upsert) before left ≡ Ok (x, end) → ReadGroups upsert before x end left
unfolding turns
turns_read upsert zero before x end [] le h = nothing upsert before x end [] refl h
turns_read upsert zero before x end (t ∷ left) le h = absurd (omega arith)
turns_read upsert (suc n) before x end left le h =
    elim (cases_Bool (begins_group left)) [
      | inl y1 ↦ after_turn upsert n before x end left (group upsert before left) (λ y rest le' h'. turns_read upsert n y x end rest le' h') le refl (rw y1 at h)
      | inr n1 ↦ nothing upsert before x end left n1 (rw n1 at h)
    ]

no_turn : (upsert : Bool) (n : ℕ) (before : List Statement) (left : List Tok) → begins_group left ≡ false → turns n begins_group (group upsert) before left ≡ Ok (before, left)
unfolding turns
no_turn upsert zero before left b = refl
no_turn upsert (suc n) before left b = rw b refl

one_turn : (upsert : Bool) (n : ℕ) (before x : List Statement) (left rest : List Tok) → begins_group left ≡ true → group upsert before left ≡ Ok (x, rest) → turns (suc n) begins_group (group upsert) before left ≡ turns n begins_group (group upsert) x rest
unfolding turns
one_turn upsert n before x left rest b e = rw (b, e) refl

turns_back : (upsert : Bool) (gs : List (List Statement)) (before : List Statement) (n : ℕ) (end left : List Tok) → length left ≤ n → AreGrouped upsert before gs end left → turns n begins_group (group upsert) before left ≡ Ok (before ++ every gs, end)
turns_back upsert [] before n end left le a =
    no_turn upsert n before left (subst (λ (l : List Tok). begins_group l ≡ false) (sym a.0) a.1) ∙ (λ i. Ok (sym (append-nil before) i, a.0 i))
turns_back upsert (all ∷ gs) before zero end left le a = absurd (omega (arith, le, shorter upsert before all left (AreGrouped upsert (before ++ all) gs end) a))
turns_back upsert (all ∷ gs) before (suc n) end left le a =
    let More : List Tok → Type 0 = AreGrouped upsert (before ++ all) gs end in
    one_turn upsert n before (before ++ all) left a.rest (group_begins upsert before all left More a) (group_back upsert before all left More a)
    ∙ turns_back upsert gs (before ++ all) n end a.rest (omega (arith, le, shorter upsert before all left More a)) a.more
    ∙ ap (λ (l : List Statement). Ok (l, end)) (append_assoc before all (every gs))

-- ---- all groups

all_read : (upsert : Bool) (all : List Statement) (left rest : List Tok) → groups upsert left ≡ Ok (all, rest) → IsGrouped upsert all left rest
unfolding groups
all_read upsert all left rest e =
    let a = follows (skip (is_punct open_curly) left) _ all rest e in
    let opening = skipped (is_punct open_curly) left a.left a.x a.first in
    let b = follows (repeated begins_group (group upsert) [] a.left) _ all rest a.then_is in
    let c = follows (skip (is_punct close_curly) b.left) _ all rest b.then_is in
    let closing = skipped (is_punct close_curly) b.left c.left c.x c.first in
    let behind : c.left ≡ rest = ap (left_or c.left) c.then_is in
    let same : b.x ≡ all = ap (value_or b.x) c.then_is in
    let found = turns_read upsert (length a.left) [] b.x b.left a.left (omega arith) b.first in
    let end : b.left ≡ closing.tok ∷ rest = closing.is ∙ ap (λ (l : List Tok). closing.tok ∷ l) behind in
    record {
      groups = found.groups;
      opening = opening.tok;
      inner = a.left;
      closing = closing.tok;
      is = opening.is;
      opens = opening.has;
      are = subst (λ (l : List Tok). AreGrouped upsert [] found.groups l a.left) end found.are;
      closes = closing.has;
      every = sym same ∙ found.is;
    }

all_back : (upsert : Bool) (all : List Statement) (left rest : List Tok) → IsGrouped upsert all left rest → groups upsert left ≡ Ok (all, rest)
all_back upsert all left rest g =
    let inside : repeated begins_group (group upsert) [] g.inner ≡ Ok (all, g.closing ∷ rest) =
    turns_back upsert g.groups [] (length g.inner) (g.closing ∷ rest) g.inner (omega arith) g.are ∙ ap (λ (l : List Statement). Ok (l, g.closing ∷ rest)) (sym g.every) in
    ap (groups upsert) g.is ∙ groups_is upsert all g.opening g.closing g.inner rest g.opens inside g.closes

-- statements are read in groups exactly where these stand so
pub groups_listed : (upsert : Bool) (all : List Statement) (left rest : List Tok) → (groups upsert left ≡ Ok (all, rest)) ↔ IsGrouped upsert all left rest
groups_listed upsert all left rest = (all_read upsert all left rest, all_back upsert all left rest)

-- and so is a whole text that begins with {
pub grouped_listed : (text : List ℕ) (tokens : List Token) (all : List Statement) → lexed text ≡ Ok tokens → next (is_punct open_curly) (toks_of text tokens) ≡ true
    → (mutation text ≡ Ok all) ↔ IsGrouped false all (toks_of text tokens) []
grouped_listed text tokens all e grouped =
    let toks : List Tok = toks_of text tokens in
    let law = groups_listed false all toks [] in
    let is : mutation text ≡ outcome toks (length text) (groups false toks) = ap (by_tokens text) e ∙ ap (outcome toks (length text)) (body_is toks grouped) in (
      λ h. law.0 (whole_of toks (length text) (groups false toks) all (sym is ∙ h)),
      λ g. is ∙ ap (outcome toks (length text)) (law.1 g),
    )

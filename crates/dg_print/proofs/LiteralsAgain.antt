-- Lists of nodes and of literals are read again.
use Rattle.std.proofs.Common.{◌≡◌, ℕ, suc, ◌<◌, Bool, true, false, ◌||◌, List, [], ◌∷◌, length, ap, refl, sym, subst, arith}
use Rattle.std.specs.Prelude.{Option, Some, None, not, if◌then◌else◌, ◌&&◌}
use Rattle.std.specs.Option.{option_map}
use Rattle.dg_text.specs.Cases.{Left, part, repeated}
use Rattle.dg_text.specs.Marks.{comma, open_square, close_square}
use Rattle.dg_text.specs.Reading.{next, one_as}
use Rattle.dg_text.specs.Said.{is_wide, uid_said, uid_meant, quoted_meant}
use Rattle.dg_text.specs.Tokens.{Tok, is_punct, is_uid, is_name}
use Rattle.dg_parse.specs.declared.query.UidArg.{UidArg}
use Rattle.dg_parse.specs.declared.query.UidArg.TheVariants as nodes
use Rattle.dg_parse.specs.Literals.{comma_uid, uids, lit, comma_lit, some_lits, square_lits, lits}
use Rattle.dg_print.specs.Printed.{commas, node_words, lit_words}
use Rattle.dg_text.specs.Quoting.{quoted_word}
use Rattle.dg_text.specs.Spelling.{name_word, uid_word, mark_word}
use Rattle.dg_parse.specs.Words.{node_meant, literal_meant}
use Rattle.dg_text.specs.Written.{IsWord}
use Rattle.dg_print.proofs.Again.{Each, Reads, bind, gives, weaker, either, at_one, at_skip, at_also, at_here, some_took, one_reads, then_reads, as_reader, never}
use Rattle.dg_print.proofs.FixedWords.{sign}
use Rattle.dg_print.proofs.Formed.{IsFormed, IsSpelled}
use Rattle.dg_print.proofs.Lists.{Added, Items, Repeats, at_repeated, repeated_reads}

-- ---- nodes

-- a node or a variable that can be written
abbrev pub IsNode : UidArg → Type 0
IsNode (nodes.Uid n) = IsSpelled uid_meant (uid_word n) n
IsNode (nodes.Var x) = IsWord (name_word x)

node_is : (t : Tok) (u : UidArg) → IsFormed t → node_meant t ≡ Some u → IsNode u
node_is t u form e = by (is_uid t) (uid_said t.text) (is_name t) refl refl refl e
  where
    by : (b : Bool) (o : Option ℕ) (c : Bool) → is_uid t ≡ b → uid_said t.text ≡ o → is_name t ≡ c → (if b then option_map nodes.Uid o else if c then Some (nodes.Var t.text) else None) ≡ Some u → IsNode u
    by true (Some n) c b o n1 e = let same : nodes.Uid n ≡ u = cc in subst IsNode same (form.node n (rw (b, o) refl))
    by true None c b o n1 e = absurd (cc)
    by false o true b o1 n1 e = let same : nodes.Var t.text ≡ u = cc in subst IsNode same (form.name n1)
    by false o false b o1 n1 e = absurd (cc)

at_node : (left : Left) → Each left (part (one_as node_meant) left) (λ u l. IsNode u)
at_node left = weaker (at_one node_meant left) (λ u l k. node_is k.token u k.formed k.means)

node_reads : (u : UidArg) → IsNode u → Reads (part (one_as node_meant)) u (node_words u) never
node_reads (nodes.Uid n) h = one_reads node_meant (uid_word n) (nodes.Uid n) h.word (λ start. ap (option_map nodes.Uid) (h.reads start))
node_reads (nodes.Var x) h = one_reads node_meant (name_word x) (nodes.Var x) h (λ start. refl)

-- a node among others
abbrev IsOneNode : List UidArg → UidArg → Type 0
IsOneNode before u = IsNode u

at_comma_uid : (before : List UidArg) (left : Left) → Each left (comma_uid before left) (λ all l. Added IsOneNode before all)
unfolding comma_uid
at_comma_uid before left =
    bind _ (at_skip (is_punct comma) left)
    (λ _ l. bind _ (at_node l)
    (λ u k. gives _ k (λ h _. record { item = u; is = refl; good = h })))

uids_repeat : Repeats (next (is_punct comma)) comma_uid IsOneNode (λ u. mark_word comma ∷ node_words u) never
unfolding comma_uid
uids_repeat = record {
  reads = λ before u h. record {
    words = (sign 44 refl, (node_reads u h).words);
    again = λ f rest e. rw ((node_reads u h).again (λ n. f (suc n)) rest refl) refl;
  };
  begun = λ before u h f rest. refl;
  clear = λ before u h f rest. refl;
  some = λ before u h. omega arith;
}

-- one node or more
pub record AreNodes (us : List UidArg) : Type 0 where
  pub first : UidArg
  pub more : List UidArg
  pub is : us ≡ first ∷ more
  pub good : IsNode first
  pub each : Items IsOneNode (first ∷ []) more

pub at_uids : (left : Left) → Each left (uids left) (λ us l. AreNodes us)
unfolding uids
at_uids left =
    bind _ (at_node left)
    (λ u l. weaker (at_repeated (next (is_punct comma)) comma_uid IsOneNode at_comma_uid (u ∷ []) l)
    (λ us k a h. record { first = u; more = a.items; is = a.is; good = h; each = a.good }))

-- a comma comes next
abbrev pub is_comma : List Tok → Bool
is_comma l = next (is_punct comma) l || false

all_nodes : (first : UidArg) (more : List UidArg) → IsNode first → Items IsOneNode (first ∷ []) more → Reads uids (first ∷ more) (commas node_words (first ∷ more)) is_comma
unfolding uids
all_nodes first more h each =
    then_reads (λ u. repeated (next (is_punct comma)) comma_uid (u ∷ [])) (node_reads first h)
    (repeated_reads (next (is_punct comma)) comma_uid IsOneNode (λ u. mark_word comma ∷ node_words u) never uids_repeat (first ∷ []) more each)
    (λ f rest e. refl)

pub uids_reads : (us : List UidArg) → AreNodes us → Reads uids us (commas node_words us) is_comma
uids_reads us h = subst (λ (l : List UidArg). Reads uids l (commas node_words l) is_comma) (sym h.is) (all_nodes h.first h.more h.good h.each)

-- ---- literals

-- a text that can be written
abbrev pub IsText : List ℕ → Type 0
IsText x = IsSpelled quoted_meant (quoted_word x) x

pub at_lit : (left : Left) → Each left (lit left) (λ x l. IsText x × (0 < length left.tokens))
unfolding lit
at_lit left = bind _ (at_also (length left.tokens) (next is_wide left.tokens && true) left)
    (λ _ l. weaker (at_one literal_meant l) (λ x k took also. (took.formed.text x, subst (λ (ts : List Tok). 0 < length ts) also.1 (some_took took))))

pub lit_reads : (x : List ℕ) → IsText x → Reads lit x (lit_words x) never
unfolding lit
lit_reads x h = record { words = (h.word, tt); again = λ f rest e. rw (h.reads (f 0)) refl }

-- a literal behind others, where more than one may stand
abbrev IsOneLit : Bool → List (List ℕ) → List ℕ → Type 0
IsOneLit many before x = IsText x × (not many ≡ false)

at_comma_lit : (many : Bool) (before : List (List ℕ)) (left : Left) → Each left (comma_lit many before left) (λ all l. Added (IsOneLit many) before all)
unfolding comma_lit
at_comma_lit many before left =
    bind _ (at_skip (is_punct comma) left)
    (λ _ l. bind _ (at_here l)
    (λ place l2. bind _ (at_lit l2)
    (λ x k. bind _ (at_also place (not many) k)
    (λ _ m. gives _ m (λ also h here _. record { item = x; is = refl; good = (h.0, also.0 (subst (λ (n : ℕ). 0 < n) (sym here) h.1)) })))))

lits_repeat : (many : Bool) → Repeats (next (is_punct comma)) (comma_lit many) (IsOneLit many) (λ x. mark_word comma ∷ lit_words x) never
unfolding comma_lit
lits_repeat many = record {
  reads = λ before x h. record {
    words = (sign 44 refl, (lit_reads x h.0).words);
    again = λ f rest e. rw ((lit_reads x h.0).again (λ n. f (suc n)) rest refl, h.1) refl;
  };
  begun = λ before x h f rest. refl;
  clear = λ before x h f rest. refl;
  some = λ before x h. omega arith;
}

-- one literal or, where more may stand, more
pub record AreLits (many : Bool) (ls : List (List ℕ)) : Type 0 where
  pub first : List ℕ
  pub more : List (List ℕ)
  pub is : ls ≡ first ∷ more
  pub good : IsText first
  pub each : Items (IsOneLit many) (first ∷ []) more

at_some_lits : (many : Bool) (left : Left) → Each left (some_lits many left) (λ ls l. AreLits many ls)
unfolding some_lits
at_some_lits many left =
    bind _ (at_lit left)
    (λ x l. weaker (at_repeated (next (is_punct comma)) (comma_lit many) (IsOneLit many) (at_comma_lit many) (x ∷ []) l)
    (λ ls k a h. record { first = x; more = a.items; is = a.is; good = h.0; each = a.good }))

at_square_lits : (many : Bool) (left : Left) → Each left (square_lits many left) (λ ls l. AreLits many ls)
unfolding square_lits
at_square_lits many left =
    bind _ (at_here left)
    (λ place l0. bind _ (at_skip (is_punct open_square) l0)
    (λ _ l. bind _ (at_also place (not many) l)
    (λ _ k. bind _ (at_some_lits many k)
    (λ ls m. bind _ (at_skip (is_punct close_square) m)
    (λ _ n. gives ls n (λ _ a _ _ _. a))))))

pub at_lits : (many : Bool) (left : Left) → Each left (lits many left) (λ ls l. AreLits many ls)
unfolding lits
at_lits many left = either (next (is_punct open_square) left.tokens) (λ e. at_square_lits many left) (λ e. at_some_lits many left)

all_lits : (many : Bool) (first : List ℕ) (more : List (List ℕ)) → IsText first → Items (IsOneLit many) (first ∷ []) more → Reads (some_lits many) (first ∷ more) (commas lit_words (first ∷ more)) is_comma
unfolding some_lits
all_lits many first more h each =
    then_reads (λ x. repeated (next (is_punct comma)) (comma_lit many) (x ∷ [])) (lit_reads first h)
    (repeated_reads (next (is_punct comma)) (comma_lit many) (IsOneLit many) (λ x. mark_word comma ∷ lit_words x) never (lits_repeat many) (first ∷ []) more each)
    (λ f rest e. refl)

pub lits_reads : (many : Bool) (ls : List (List ℕ)) → AreLits many ls → Reads (lits many) ls (commas lit_words ls) is_comma
unfolding lits
lits_reads many ls h =
    subst (λ (l : List (List ℕ)). Reads (lits many) l (commas lit_words l) is_comma) (sym h.is)
    (as_reader (lits many) (all_lits many h.first h.more h.good h.each) (λ f rest e. refl))

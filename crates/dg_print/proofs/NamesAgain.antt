-- Names, predicates, numbers and variables are read again.
use Rattle.std.proofs.Common.{◌≡◌, ℕ, suc, ◌<◌, Bool, true, false, List, [], ◌∷◌, length, refl, sym, subst}
use Rattle.dg_values.specs.Scanning.{int_of_text}
use Rattle.std.specs.Prelude.{ℤ, pos, Option, Some, None, codes, ◌&&◌, unwrap_or, is_none, if◌then◌else◌}
use Rattle.std.proofs.lemmas.Bool.{false≢true}
use Rattle.dg_text.specs.Cases.{Left, name, also_next}
use Rattle.dg_text.specs.Marks.{open_round, close_round, tilde}
use Rattle.dg_text.specs.Reading.{next}
use Rattle.dg_text.specs.Said.{is_wide, int_meant}
use Rattle.dg_text.specs.Tokens.{Tok, is_name, is_int, is_punct, is_word}
use Rattle.dg_text.specs.Words.{name_meant, is_reserved, is_reserved_name}
use Rattle.dg_parse.specs.declared.query.QEdge.{QEdge}
use Rattle.dg_parse.specs.Names.{int, pred, backwards, edge, in_round_name, val}
use Rattle.dg_print.specs.Printed.{edge_words, val_words, in_round}
use Rattle.dg_text.specs.Spelling.{name_word, int_word}
use Rattle.dg_parse.specs.Words.{number_meant}
use Rattle.dg_text.specs.Written.{IsWord}
use Rattle.dg_print.proofs.Again.{Each, Reads, Took, bind, gives, weaker, either, at_one, at_skip, at_also, some_took, skip_reads, one_reads, passes, then_reads, never}
use Rattle.dg_print.proofs.FixedWords.{fixed, sign}
use Rattle.dg_print.proofs.Formed.{IsSpelled}

-- ---- names

-- what a Name says
pub record SaysName (t : Tok) (x : List ℕ) : Type 0 where
  pub named : is_name t ≡ true
  pub text : t.text ≡ x

pub says_name : (t : Tok) (x : List ℕ) → name_meant t ≡ Some x → SaysName t x
says_name t x e = by (is_name t) refl e
  where
    by : (b : Bool) → is_name t ≡ b → (if b then Some t.text else None) ≡ Some x → SaysName t x
    by true n h = record { named = n; text = cc }
    by false n h = absurd (cc)

pub took_name : {tokens : List Tok} {x : List ℕ} → Took name_meant tokens x → IsWord (name_word x)
took_name {x = x} k =
    let s = says_name k.token x k.means in
    subst (λ (text : List ℕ). IsWord (name_word text)) s.text (k.formed.name s.named)

pub at_name : (left : Left) → Each left (name left) (λ x l. IsWord (name_word x))
at_name left = weaker (at_one name_meant left) (λ x l k. took_name k)

pub name_reads : (x : List ℕ) → IsWord (name_word x) → Reads name x (name_word x ∷ []) never
name_reads x w = one_reads name_meant (name_word x) x w (λ start. refl)

-- ---- predicates

pub record IsPred (p : List ℕ) : Type 0 where
  pub word : IsWord (name_word p)
  pub free : is_reserved p ≡ false

free_name : (named reserved : Bool) → named ≡ true → ((named && reserved) && true) ≡ false → reserved ≡ false
free_name true true n e = e
free_name true false n e = refl
free_name false reserved n e = absurd (false≢true n)

pred_took : (tokens : List Tok) (x : List ℕ) → Took name_meant tokens x → (0 < length tokens → (next is_reserved_name tokens && true) ≡ false) → IsPred x
pred_took tokens x k e =
    let s = says_name k.token x k.means in
    let test : ((is_name k.token && is_reserved k.token.text) && true) ≡ false = subst (λ (l : List Tok). (next is_reserved_name l && true) ≡ false) k.first (e (some_took k)) in
    record { word = took_name k; free = subst (λ (text : List ℕ). is_reserved text ≡ false) s.text (free_name (is_name k.token) (is_reserved k.token.text) s.named test) }

pub at_pred : (left : Left) → Each left (pred left) (λ p l. IsPred p)
unfolding pred
at_pred left = bind _ (at_also (length left.tokens) (next is_reserved_name left.tokens && true) left)
    (λ _ l. weaker (at_one name_meant l) (λ x k took also. pred_took left.tokens x (subst (λ (ts : List Tok). Took name_meant ts x) also.1 took) also.0))

pub pred_reads : (p : List ℕ) → IsPred p → Reads pred p (name_word p ∷ []) never
unfolding pred
pred_reads p h = passes (also_next (next is_reserved_name) true) (λ _. name) (name_reads p h.word) (λ f rest e. rw h.free refl)

-- ---- edges

pub at_edge : (left : Left) → Each left (edge left) (λ e l. IsPred e.pred)
unfolding edge backwards
at_edge left =
    bind {X = λ _ l. Unit {0}} _ (either (next (is_punct tilde) left.tokens)
    (λ e. bind _ (at_skip (is_punct tilde) left) (λ _ l. gives true l (λ p. tt)))
    (λ e. gives false left tt))
    (λ back l. bind _ (at_pred l) (λ p k. gives _ k (λ h _. h)))

edge_again : (back : Bool) (p : List ℕ) → IsPred p → Reads edge (record { back = back; pred = p }) (edge_words (record { back = back; pred = p })) never
unfolding edge backwards
edge_again true p h = record {
  words = (sign 126 refl, (h.word, tt));
  again = λ f rest e. rw ((pred_reads p h).again (λ n. f (suc n)) rest refl) refl;
}
edge_again false p h = record {
  words = (h.word, tt);
  again = λ f rest e. rw ((pred_reads p h).again f rest refl) refl;
}

pub edge_reads : (e : QEdge) → IsPred e.pred → Reads edge e (edge_words e) never
edge_reads e h = edge_again e.back e.pred h

-- ---- variables

pub at_round_name : (left : Left) → Each left (in_round_name left) (λ x l. IsWord (name_word x))
unfolding in_round_name
at_round_name left =
    bind _ (at_skip (is_punct open_round) left)
    (λ _ l. bind _ (at_name l)
    (λ x k. bind _ (at_skip (is_punct close_round) k)
    (λ _ m. gives x m (λ _ w _. w))))

pub round_name_reads : (x : List ℕ) → IsWord (name_word x) → Reads in_round_name x (in_round (name_word x ∷ [])) never
unfolding in_round_name
round_name_reads x w = record { words = (sign 40 refl, (w, (sign 41 refl, tt))); again = λ f rest e. refl }

pub at_val : (left : Left) → Each left (val left) (λ x l. IsWord (name_word x))
unfolding val
at_val left =
    bind _ (at_skip (is_word (codes "val")) left)
    (λ _ l. weaker (at_round_name l) (λ x k w _. w))

pub val_reads : (x : List ℕ) → IsWord (name_word x) → Reads val x (val_words x) never
unfolding val
val_reads x w = then_reads {us = name_word (codes "val") ∷ []} _ (skip_reads (is_word (codes "val")) (name_word (codes "val")) (fixed (codes "val") refl) (λ start. refl)) (round_name_reads x w) (λ f rest e. refl)

-- ---- numbers

-- a number that can be written
abbrev pub IsNumber : ℤ → Type 0
IsNumber z = IsSpelled int_meant (int_word z) z

no_wide : (t : Tok) (z : ℤ) → number_meant t ≡ Some z → (is_wide t && true) ≡ false → int_meant t ≡ Some z
no_wide t z e w = by (is_int t) (int_of_text t.text) refl refl e w
  where
    by : (b : Bool) (o : Option ℤ) → is_int t ≡ b → int_of_text t.text ≡ o → (if b then Some (unwrap_or (if b then o else None) (pos 0)) else None) ≡ Some z
        → ((b && is_none o) && true) ≡ false → int_meant t ≡ Some z
    by true (Some y) b o e w = rw (b, o) e
    by true None b o e w = absurd (false≢true (sym w))
    by false o b e1 e w = absurd (cc)

int_took : (tokens : List Tok) (z : ℤ) → Took number_meant tokens z → (0 < length tokens → (next is_wide tokens && true) ≡ false) → IsNumber z
int_took tokens z k e = k.formed.number z (no_wide k.token z k.means (subst (λ (l : List Tok). (next is_wide l && true) ≡ false) k.first (e (some_took k))))

pub at_int : (left : Left) → Each left (int left) (λ z l. IsNumber z)
unfolding int
at_int left = bind _ (at_also (length left.tokens) (next is_wide left.tokens && true) left)
    (λ _ l. weaker (at_one number_meant l) (λ z k took also. int_took left.tokens z (subst (λ (ts : List Tok). Took number_meant ts z) also.1 took) also.0))

pub int_reads : (z : ℤ) → IsNumber z → Reads int z (int_word z ∷ []) never
unfolding int
int_reads z h = record { words = (h.word, tt); again = λ f rest e. rw (h.reads (f 0)) refl }

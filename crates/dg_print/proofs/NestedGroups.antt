-- What is printed of statements in groups opens no more brackets than what was read.
use Rattle.std.proofs.Common.{◌≡◌, ℕ, zero, suc, ◌≤◌, Bool, true, false, ◌&&◌, List, [], ◌∷◌, ◌++◌, length, flat_map, refl, sym, subst, append-nil}
use Rattle.std.specs.Prelude.{IfOk, Option, Some, None, Ok, Err, not, codes, if◌then◌else◌}
use Rattle.std.specs.List.{AllByRecursion}
use Rattle.dg_text.specs.Cases.{Left, met, part}
use Rattle.dg_text.specs.Marks as marks
use Rattle.dg_text.specs.Quoting.{quoted_word}
use Rattle.dg_text.specs.Reading as plain
use Rattle.dg_text.specs.Reading.{Read, next, one_as, optional, skip, refuse_at, and_then, turns}
use Rattle.dg_text.specs.Said.{quoted_meant, uid_said, blank_name}
use Rattle.dg_text.specs.Spelling.{name_word, mark_word, caret_word, iri_word, blank_word, iri_uid_word}
use Rattle.dg_text.specs.Tokens.{Tok, is_punct, is_word, is_caret, is_quoted, is_iri, is_blank}
use Rattle.dg_text.specs.declared.token.TokenKind.TheVariants as kinds
use Rattle.std.specs.Option.{option_map}
use Rattle.dg_text.specs.Words.{name_meant, predicate_meant}
use Rattle.dg_text.specs.Written.{Word}
use Rattle.dg_values.specs.declared.kind.Kind.{Kind}
use Rattle.dg_nquad.specs.declared.block.Block.{Block}
use Rattle.dg_nquad.specs.declared.mutation.Node.{Node}
use Rattle.dg_nquad.specs.declared.mutation.Node.TheVariants as nodes
use Rattle.dg_nquad.specs.declared.mutation.Object.TheVariants as objects
use Rattle.dg_nquad.specs.declared.mutation.Statement.{Statement}
use Rattle.dg_nquad.specs.Grammar.{variable, uid_variable, node, type_tag, literal, val_variable, all_objects, node_object, object, statement, group, groups, begins_statement, begins_group, is_label}
use Rattle.dg_nquad.specs.Texts.{variable_words, node_words, tag_words, object_words, statement_words, group_name, alone_words, groups_words, type_of_kind}
use Rattle.dg_nquad.specs.Words.{node_meant, kind_meant, group_meant}
use Rattle.dg_print.proofs.NestedParts.{low_name, low_brackets, low_flat_map}
use Rattle.dg_print.proofs.NestedFields.{low_curly}
use Rattle.dg_print.proofs.Nesting.{IsFlat, Low, Nothing, Flat, low_append, Open, Kept, Any, NotPunct, at_skip, at_one, at_sign, at_level, at_open, at_close}

-- ---- readers of tokens alone

-- the same of a reader of tokens alone
record Plain {A : Type 0} (n m : ℕ) (tokens : List Tok) (read : Read (List Tok) A) (X : A → Type 0) : Type 0 where
  pub it : IfOk read (λ p. Open n tokens → Open m p.1 × X p.0)

and_next : {A B : Type 0} {n m k : ℕ} {tokens : List Tok} {read : Read (List Tok) A} {X : A → Type 0} {Z : B → Type 0} (more : A → plain.Reader (List Tok) B)
    → Plain n m tokens read X → ((x : A) (l : List Tok) → Plain m k l (more x l) (λ y. X x → Z y)) → Plain n k tokens (and_then read more) Z
and_next {B = B} {n = n} {m = m} {k = k} {tokens = tokens} {read = Ok p} {X = X} {Z = Z} more e f = record { it = by (more p.0 p.1) (f p.0 p.1).it }
  where
    by : (r : Read (List Tok) B) → IfOk r (λ q. Open m p.1 → Open k q.1 × (X p.0 → Z q.0)) → IfOk r (λ q. Open n tokens → Open k q.1 × Z q.0)
    by (Ok q) g = λ o. let a = e.it o in let b = g a.0 in (b.0, b.1 a.1)
    by (Err place) g = tt
and_next {read = Err place} more e f = record { it = tt }

give : {A : Type 0} {n : ℕ} {Z : A → Type 0} (x : A) (l : List Tok) → Z x → Plain n n l (Ok (x, l)) Z
give x l z = record { it = λ o. (o, z) }

sure : {A : Type 0} {n m : ℕ} {tokens : List Tok} {read : Read (List Tok) A} {X Z : A → Type 0} → Plain n m tokens read X → IfOk read (λ p. X p.0 → Z p.0) → Plain n m tokens read Z
sure {read = Ok p} e f = record { it = λ o. let a = e.it o in (a.0, f a.1) }
sure {read = Err place} e f = record { it = tt }

one_or : {A : Type 0} {n m : ℕ} {tokens : List Tok} {X : A → Type 0} (test : Bool) {a b : Read (List Tok) A} → Plain n m tokens a X → Plain n m tokens b X → Plain n m tokens (if test then a else b) X
one_or true a b = a
one_or false a b = b

-- from a reader of what is left, and to one
down : {A : Type 0} {n m : ℕ} {tokens : List Tok} {X : A → Type 0} (r : Read (List Tok) A) → Kept n m (record { tokens = tokens; refused = 0 }) (met 0 r) X → Plain n m tokens r X
down (Ok p) e = record { it = e.it }
down (Err place) e = record { it = tt }

up : {A : Type 0} {n m : ℕ} {X : A → Type 0} (left : Left) (r : Read (List Tok) A) → Plain n m left.tokens r X → Kept n m left (met left.refused r) X
up left (Ok p) e = record { it = e.it }
up left (Err place) e = record { it = tt }

skipped : {n : ℕ} (is : Tok → Bool) (l : List Tok) → NotPunct is → Plain n n l (skip is l) Any
skipped is l flat = down (skip is l) (at_skip is (record { tokens = l; refused = 0 }) flat)

opened : {n : ℕ} (l : List Tok) → Plain n (suc n) l (skip (is_punct marks.open_round) l) (λ _. suc n ≤ 32)
opened l = down (skip (is_punct marks.open_round) l) (at_open marks.open_round (record { tokens = l; refused = 0 }) (λ t s. (refl, refl)))

closed : {n : ℕ} (l : List Tok) → Plain (suc n) n l (skip (is_punct marks.close_round) l) Any
closed l = down (skip (is_punct marks.close_round) l) (at_close marks.close_round (record { tokens = l; refused = 0 }) (λ t s. (refl, refl)))

opened_curly : {n : ℕ} (l : List Tok) → Plain n (suc n) l (skip (is_punct marks.open_curly) l) (λ _. suc n ≤ 32)
opened_curly l = down (skip (is_punct marks.open_curly) l) (at_open marks.open_curly (record { tokens = l; refused = 0 }) (λ t s. (refl, refl)))

closed_curly : {n : ℕ} (l : List Tok) → Plain (suc n) n l (skip (is_punct marks.close_curly) l) Any
closed_curly l = down (skip (is_punct marks.close_curly) l) (at_close marks.close_curly (record { tokens = l; refused = 0 }) (λ t s. (refl, refl)))

-- one token that means something, of which this holds
one : {A : Type 0} {n : ℕ} (meaning : Tok → Option A) (Q : A → Type 0) (l : List Tok) → ((b : ℕ) (text : List ℕ) (start : ℕ) → meaning (record { kind = kinds.Punct b; text = text; start = start }) ≡ None)
    → ((t : Tok) (x : A) → meaning t ≡ Some x → Q x) → Plain n n l (one_as meaning l) Q
one {A = A} meaning Q l flat q = sure (down (one_as meaning l) (at_one meaning (record { tokens = l; refused = 0 }) flat)) (by l)
  where
    meant_so : (t : Tok) (rest : List Tok) (o : Option A) → meaning t ≡ o → IfOk (plain.meant o (t ∷ rest) rest) (λ p. Any p.0 → Q p.0)
    meant_so t rest None e = tt
    meant_so t rest (Some x) e = λ _. q t x e

    by : (l : List Tok) → IfOk (one_as meaning l) (λ p. Any p.0 → Q p.0)
    by [] = tt
    by (t ∷ rest) = meant_so t rest (meaning t) refl

-- ---- statements

at_variable : {n : ℕ} (w : List ℕ) (allowed : Bool) (l : List Tok) → Plain n n l (variable w allowed l) (λ _. suc n ≤ 32)
unfolding variable
at_variable {n} w allowed l =
    and_next _ (skipped (is_word w) l (λ b t s. refl))
    (λ _ l1. and_next _ (opened l1)
    (λ _ l2. and_next {X = Any} _ (refused l2)
    (λ _ l3. and_next _ (one name_meant Any l3 (λ b t s. refl) (λ _ _ _. tt))
    (λ x l4. and_next _ (closed l4)
    (λ _ l5. give x l5 (λ _ _ _ le _. le))))))
  where
    refused : (k : List Tok) → Plain (suc n) (suc n) k (refuse_at (length l) (not allowed) k) Any
    refused k = one_or (not allowed) (record { it = tt }) (give tt k tt)

low_variable : (n : ℕ) (w x : List ℕ) → suc n ≤ 32 → Low n (variable_words w x)
low_variable n w x le = low_name n w _ (low_brackets n (name_word x ∷ []) le (low_name (suc n) x [] (Nothing (suc n))))

low_one : (n : ℕ) (w : Word) → IsFlat w → Low n (w ∷ [])
low_one n w f = Flat n w [] f (Nothing n)

node_low : (n : ℕ) (delete : Bool) (t : Tok) (x : Node) → node_meant delete t ≡ Some x → Low n (node_words x)
node_low n delete t x e = by (is_iri t) (uid_said t.text) (not delete && is_blank t) (blank_name t.text) e
  where
    by : (a : Bool) (o : Option ℕ) (b : Bool) (p : Option (List ℕ)) → (if a then option_map nodes.Uid o else if b then option_map nodes.Blank p else None) ≡ Some x → Low n (node_words x)
    by true (Some k) b p e = let same : nodes.Uid k ≡ x = cc in subst (λ (y : Node). Low n (node_words y)) same (low_one n (iri_uid_word k) (λ start. (refl, refl)))
    by true None b p e = absurd (cc)
    by false o true (Some y) e = let same : nodes.Blank y ≡ x = cc in subst (λ (z : Node). Low n (node_words z)) same (low_one n (blank_word y) (λ start. (refl, refl)))
    by false o true None e = absurd (cc)
    by false o false p e = absurd (cc)

node_flat : (delete : Bool) (b : ℕ) (text : List ℕ) (start : ℕ) → node_meant delete (record { kind = kinds.Punct b; text = text; start = start }) ≡ None
node_flat true b text start = refl
node_flat false b text start = refl

at_node : {n : ℕ} (block : Block) (l : List Tok) → Plain n n l (node block l) (λ x. Low n (node_words x))
unfolding node uid_variable
at_node {n} block l = one_or (next (is_word (codes "uid")) l)
    (and_next _ (at_variable (codes "uid") block.upsert l) (λ x k. give (nodes.Var x) k (λ le. low_variable n (codes "uid") x le)))
    (one (node_meant block.delete) (λ x. Low n (node_words x)) l (node_flat block.delete) (node_low n block.delete))

low_tag : (n : ℕ) (tag : Option Kind) → Low n (tag_words tag)
low_tag n None = Nothing n
low_tag n (Some kind) = Flat n caret_word (iri_word (type_of_kind kind) ∷ []) (λ start. (refl, refl)) (low_one n (iri_word (type_of_kind kind)) (λ start. (refl, refl)))

at_object : {n : ℕ} (block : Block) (l : List Tok) → Plain n n l (object block l) (λ o. Low n (object_words o))
unfolding object literal type_tag val_variable all_objects node_object
at_object {n} block l = one_or (next is_quoted l)
    (and_next _ (one quoted_meant Any l (λ b t s. refl) (λ _ _ _. tt))
    (λ x k. and_next {X = Any} _ (one_or (next is_caret k)
    (and_next _ (skipped is_caret k (λ b t s. refl)) (λ _ m. and_next _ (one kind_meant Any m (λ b t s. refl) (λ _ _ _. tt)) (λ kind p. give (Some kind) p (λ _ _. tt))))
    (give None k tt))
    (λ tag m. give (objects.Literal x tag) m (λ _ _. Flat n (quoted_word x) (tag_words tag) (λ start. (refl, refl)) (low_tag n tag)))))
    (one_or (next (is_word (codes "val")) l)
    (and_next _ (at_variable (codes "val") block.upsert l) (λ x k. give (objects.Val x) k (λ le. low_variable n (codes "val") x le)))
    (one_or (block.delete && next (is_punct marks.star) l)
    (and_next _ (down (skip (is_punct marks.star) l) (at_sign marks.star (record { tokens = l; refused = 0 }) (λ t s. (refl, refl)))) (λ _ k. give objects.Star k (λ _. low_one n (mark_word marks.star) (λ start. (refl, refl)))))
    (and_next _ (at_node block l) (λ x k. give (objects.Node x) k (λ h. h)))))

-- statements that open no more, where so many may stand open
abbrev LowAll : ℕ → List Statement → Type 0
LowAll n all = AllByRecursion (λ s. Low n (statement_words s) × (n ≤ 32)) all

low_statement : (n : ℕ) (s : Statement) → Low n (node_words s.s) → Low n (object_words s.o) → Low n (statement_words s)
low_statement n s a b =
    low_append n (node_words s.s) (iri_word s.p ∷ (object_words s.o ++ mark_word marks.dot ∷ [])) a
    (Flat n (iri_word s.p) (object_words s.o ++ mark_word marks.dot ∷ []) (λ start. (refl, refl))
    (low_append n (object_words s.o) (mark_word marks.dot ∷ []) b (low_one n (mark_word marks.dot) (λ start. (refl, refl)))))

pushed : (n : ℕ) (before : List Statement) (s : Statement) → LowAll n before → Low n (statement_words s) × (n ≤ 32) → LowAll n (before ++ s ∷ [])
pushed n [] s a p = (p, tt)
pushed n (x ∷ before) s a p = (a.0, pushed n before s a.1 p)

at_statement : {n : ℕ} (block : Block) (before : List Statement) (l : List Tok) → Plain n n l (statement block before l) (λ all. LowAll n before → LowAll n all)
unfolding statement
at_statement {n} block before l =
    and_next _ (at_node block l)
    (λ s l1. and_next _ (one predicate_meant Any l1 (λ b t s. refl) (λ _ _ _. tt))
    (λ p l2. and_next _ (at_object block l2)
    (λ o l3. and_next {X = Any} _ (one_or (next is_label l3) (skipped is_label l3 (λ b t s. refl)) (give tt l3 tt))
    (λ _ l4. and_next _ (down (skip (is_punct marks.dot) l4) (at_level marks.dot (record { tokens = l4; refused = 0 }) (λ t s. (refl, refl))))
    (λ _ l5. give (before ++ record { delete = block.delete; s = s; p = p; o = o } ∷ []) l5
    (λ le _ ho _ hs all. pushed n before (record { delete = block.delete; s = s; p = p; o = o }) all (low_statement n (record { delete = block.delete; s = s; p = p; o = o }) hs ho, le)))))))

at_turns : {A : Type 0} {n : ℕ} (begins : List Tok → Bool) (reader : A → plain.Reader (List Tok) A) (X : A → Type 0) → ((before : A) (l : List Tok) → Plain n n l (reader before l) (λ after. X before → X after))
    → (k : ℕ) (before : A) (l : List Tok) → Plain n n l (turns k begins reader before l) (λ after. X before → X after)
unfolding turns
at_turns begins reader X each zero before l = give before l (λ x. x)
at_turns begins reader X each (suc k) before l =
    one_or (begins l)
    (and_next (turns k begins reader) (each before l) (λ mid m. sure (at_turns begins reader X each k mid m) (later mid (turns k begins reader mid m))))
    (give before l (λ x. x))
  where
    later : (mid : _) (r : Read (List Tok) _) → IfOk r (λ p. (X mid → X p.0) → (X before → X mid) → X before → X p.0)
    later mid (Ok p) = λ more first x. more (first x)
    later mid (Err place) = tt

at_group : {n : ℕ} (upsert : Bool) (before : List Statement) (l : List Tok) → Plain n n l (group upsert before l) (λ all. LowAll (suc n) before → LowAll (suc n) all)
unfolding group
at_group {n} upsert before l =
    and_next _ (one group_meant Any l (λ b t s. refl) (λ _ _ _. tt))
    (λ delete l1. and_next _ (opened_curly l1)
    (λ _ l2. and_next _ (at_turns begins_statement (statement (record { delete = delete; upsert = upsert })) (LowAll (suc n)) (at_statement (record { delete = delete; upsert = upsert })) (length l2) before l2)
    (λ all l3. and_next _ (closed_curly l3)
    (λ _ l4. give all l4 (λ _ h _ _. h)))))

low_alone : (n : ℕ) (s : Statement) → Low (suc n) (statement_words s) × (suc n ≤ 32) → Low n (alone_words s)
low_alone n s h = low_name n (group_name s.delete) _ (low_curly n (statement_words s ++ []) h.1 (subst (λ (ws : List Word). Low (suc n) ws) (sym (append-nil (statement_words s))) h.0))

low_each : (n : ℕ) (all : List Statement) → LowAll (suc n) all → AllByRecursion (λ s. Low n (alone_words s)) all
low_each n [] a = tt
low_each n (s ∷ all) a = (low_alone n s a.0, low_each n all a.1)

pub at_groups : {n : ℕ} (left : Left) → Kept n n left (part (groups true) left) (λ all. Low n (groups_words all))
unfolding groups
at_groups {n} left = up left (groups true left.tokens) (
    and_next _ (opened_curly left.tokens)
    (λ _ l1. and_next _ (at_turns begins_group (group true) (LowAll (suc (suc n))) (at_group true) (length l1) [] l1)
    (λ all l2. and_next _ (closed_curly l2)
    (λ _ l3. give all l3 (λ _ h le. low_curly n (flat_map alone_words all) le (low_flat_map (suc n) alone_words all (low_each (suc n) all (h tt))))))))

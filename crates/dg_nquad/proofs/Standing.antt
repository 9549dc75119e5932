-- What is read of tokens that stand in a text can be written.
use Rattle.std.proofs.Common.{◌≡◌, ℕ, zero, suc, ◌<◌, ◌^◌, ◌==◌, Bool, true, false, ◌&&◌, ◌||◌, not, List, [], ◌∷◌, ◌++◌, Option, Some, None, Ok, Err, length, refl, ap, sym, subst, ◌∙◌}
use Rattle.std.specs.Prelude.{IfOk, IfSome, if◌then◌else◌, codes}
use Rattle.std.specs.Option.{option_map, option_and_then}
use Rattle.std.specs.List.{AllByRecursion}
use Rattle.std.specs.Str.{bytes_eq}
use Rattle.std.proofs.SliceLists.{all_by_recursion_push}
use Rattle.std.proofs.lemmas.Bool.{eqb-true}
use Rattle.dg_values.specs.declared.kind.Kind.TheVariants as kinds
use Rattle.dg_text.specs.Marks as marks
use Rattle.dg_text.specs.Reading.{Read, Reader, and_then, meant, next, one_as, optional, refuse_at, repeated, skip, turns}
use Rattle.dg_text.specs.Said.{after, blank_name, quoted_meant, uid_said}
use Rattle.dg_text.specs.Tokens.{Tok, is_blank, is_caret, is_iri, is_name, is_punct, is_quoted, is_word}
use Rattle.dg_text.specs.Words.{is_whole_name, name_meant, predicate_meant}
use Rattle.dg_text.specs.declared.token.TokenKind.TheVariants as tokens
use Rattle.dg_text.proofs.NodeSpelling.{nodes_are_bounded}
use Rattle.dg_text.specs.Written.{IsWord}
use Rattle.dg_nquad.specs.declared.block.Block.{Block}
use Rattle.dg_nquad.specs.declared.mutation.Node.TheVariants as nodes
use Rattle.dg_nquad.specs.declared.mutation.Statement.{Statement}
use Rattle.dg_nquad.specs.Grammar.{variable, uid_variable, node, type_tag, literal, val_variable, all_objects, node_object, object, statement, statements, group, groups, begins_statement, begins_group, is_label}
use Rattle.dg_nquad.specs.Readable.{VariableStands, NodeStands, IsTyped, ObjectStands, Stands, StandsAlone, IsFormed, AreFormed}
use Rattle.dg_nquad.specs.Words.{node_meant, kind_meant, kind_of_type, type_name, group_meant}

-- ---- what holds of what is read

-- what is read is such, and what is left stands in a text, where something is read
abbrev pub Makes : {A : Type 0} → (A → Type 0) → Read (List Tok) A → Type 0
Makes Q read = IfOk read (λ x. Q x.0 × AreFormed x.1)

-- nothing is said of it
abbrev Any : {A : Type 0} → A → Type 0
Any x = Unit {0}

-- one part, and then what follows it
in_turn : {A B : Type 0} (P : A → Type 0) (Q : B → Type 0) (read : Read (List Tok) A) (more : A → Reader (List Tok) B) → Makes P read → ((x : A) → P x → (left : List Tok) → AreFormed left → Makes Q (more x left)) → Makes Q (and_then read more)
in_turn P Q (Ok x) more p follows = follows x.0 p.0 x.1 p.1
in_turn P Q (Err place) more p follows = tt

-- a | b
one_of : {A : Type 0} (Q : A → Type 0) (test : Bool) (a b : Read (List Tok) A) → (test ≡ true → Makes Q a) → Makes Q b → Makes Q (if test then a else b)
one_of Q true a b h k = h refl
one_of Q false a b h k = k

-- { part }
turned : {A : Type 0} (Q : A → Type 0) (begins : List Tok → Bool) (part : A → Reader (List Tok) A) → ((x : A) → Q x → (left : List Tok) → AreFormed left → Makes Q (part x left)) → (n : ℕ) (before : A) → Q before → (left : List Tok) → AreFormed left → Makes Q (turns n begins part before left)
unfolding turns
turned Q begins part keeps zero before q left f = (q, f)
turned Q begins part keeps (suc n) before q left f =
    one_of Q (begins left) (and_then (part before left) (turns n begins part)) (Ok (before, left))
    (λ _. in_turn Q Q (part before left) (turns n begins part) (keeps before q left f) (turned Q begins part keeps n))
    (q, f)

skip_made : (is : Tok → Bool) (left : List Tok) → AreFormed left → Makes Any (skip is left)
skip_made is [] f = tt
skip_made is (t ∷ rest) f = one_of Any (is t) (Ok (tt, rest)) (Err (length (t ∷ rest))) (λ _. (tt, f.1)) tt

refuse_made : (place : ℕ) (allowed : Bool) (left : List Tok) → AreFormed left → Makes (λ u. allowed ≡ true) (refuse_at place (not allowed) left)
refuse_made place true left f = (refl, f)
refuse_made place false left f = tt

given : {A : Type 0} (Q : A → Type 0) (all rest : List Tok) (o : Option A) → AreFormed rest → IfSome o Q → Makes Q (meant o all rest)
given Q all rest None f h = tt
given Q all rest (Some x) f h = (h, f)

one_made : {A : Type 0} (Q : A → Type 0) (meaning : Tok → Option A) → ((t : Tok) → IsFormed t → IfSome (meaning t) Q) → (left : List Tok) → AreFormed left → Makes Q (one_as meaning left)
one_made Q meaning h [] f = tt
one_made Q meaning h (t ∷ rest) f = given Q (t ∷ rest) rest (meaning t) f.1 (h t f.0)

any_some : {A : Type 0} (o : Option A) → IfSome o Any
any_some None = tt
any_some (Some x) = tt

any_made : {A : Type 0} (meaning : Tok → Option A) (left : List Tok) → AreFormed left → Makes Any (one_as meaning left)
any_made meaning left f = one_made Any meaning (λ t g. any_some (meaning t)) left f

-- ---- single tokens

some_of : {A : Type 0} (P : A → Type 0) (test : Bool) (a b : Option A) → (test ≡ true → IfSome a P) → IfSome b P → IfSome (if test then a else b) P
some_of P true a b h k = h refl
some_of P false a b h k = k

mapped : {A B : Type 0} (P : A → Type 0) (Q : B → Type 0) (f : A → B) (o : Option A) → ((x : A) → P x → Q (f x)) → IfSome o P → IfSome (option_map f o) Q
mapped P Q f None h k = tt
mapped P Q f (Some x) h k = h x k

-- what holds where it is some
where_some : {A : Type 0} (P : A → Type 0) (o : Option A) → ((x : A) → o ≡ Some x → P x) → IfSome o P
where_some P None h = tt
where_some P (Some x) h = h x refl

and_front : (a b : Bool) → (a && b) ≡ true → a ≡ true
and_front true b e = refl
and_front false b e = absurd (cc)

and_back : (a b : Bool) → (a && b) ≡ true → b ≡ true
and_back true b e = e
and_back false b e = absurd (cc)

not_true : (a : Bool) → not a ≡ true → a ≡ false
not_true true e = absurd (cc)
not_true false e = refl

-- the front byte and what stands behind it
behind_byte : (byte : ℕ) (text rest : List ℕ) → after byte text ≡ Some rest → text ≡ byte ∷ rest
behind_byte byte [] rest e = absurd (cc)
behind_byte byte (b ∷ more) rest e = by (b == byte) refl e
  where
    by : (v : Bool) → (b == byte) ≡ v → ◌≡◌ {A = Option (List ℕ)} (if v then Some more else None) (Some rest) → b ∷ more ≡ byte ∷ rest
    by true same f =
        let tail : more ≡ rest = cc in
        let head : b ≡ byte = eqb-true b byte same in
        λ i. head i ∷ tail i
    by false same f = absurd (cc)

-- a Blank is its name behind _:
blank_is : (text name : List ℕ) → blank_name text ≡ Some name → text ≡ 95 ∷ 58 ∷ name
blank_is text name e = by (after 95 text) refl e
  where
    by : (o : Option (List ℕ)) → after 95 text ≡ o → option_and_then (after 58) o ≡ Some name → text ≡ 95 ∷ 58 ∷ name
    by None f g = absurd (cc)
    by (Some more) f g = behind_byte 95 text more f ∙ ap (λ (l : List ℕ). 95 ∷ l) (behind_byte 58 more name g)

node_stands : (block : Block) (t : Tok) → IsFormed t → IfSome (node_meant block.delete t) (NodeStands block)
node_stands block t f =
    some_of (NodeStands block) (is_iri t) (option_map nodes.Uid (uid_said t.text)) (if not block.delete && is_blank t then option_map nodes.Blank (blank_name t.text) else None)
    (λ _. mapped (λ n. (0 < n) × (n < 2 ^ 64)) (NodeStands block) nodes.Uid (uid_said t.text) (λ n q. q) (where_some (λ n. (0 < n) × (n < 2 ^ 64)) (uid_said t.text) (nodes_are_bounded t.text)))
    (some_of (NodeStands block) (not block.delete && is_blank t) (option_map nodes.Blank (blank_name t.text)) None
    (λ e. mapped (λ (name : List ℕ). t.text ≡ 95 ∷ 58 ∷ name) (NodeStands block) nodes.Blank (blank_name t.text)
    (λ name is. (not_true block.delete (and_front (not block.delete) (is_blank t) e), subst (λ (text : List ℕ). IsWord (tokens.Blank, text)) is (f.blank (and_back (not block.delete) (is_blank t) e))))
    (where_some (λ (name : List ℕ). t.text ≡ 95 ∷ 58 ∷ name) (blank_name t.text) (blank_is t.text)))
    tt)

name_whole : (t : Tok) → IsFormed t → IfSome (name_meant t) (λ name. is_whole_name name ≡ true)
name_whole t f = some_of (λ name. is_whole_name name ≡ true) (is_name t) (Some t.text) None (λ e. f.name e) tt

predicate_whole : (t : Tok) → IsFormed t → IfSome (predicate_meant t) (λ name. is_whole_name name ≡ true)
predicate_whole t f = some_of (λ name. is_whole_name name ≡ true) (is_name t || (is_iri t && is_whole_name t.text)) (Some t.text) None (λ e. by (is_name t) refl e) tt
  where
    by : (v : Bool) → is_name t ≡ v → (v || (is_iri t && is_whole_name t.text)) ≡ true → is_whole_name t.text ≡ true
    by true n e = f.name n
    by false n e = and_back (is_iri t) (is_whole_name t.text) e

typed : (name : List ℕ) → IfSome (kind_of_type name) IsTyped
typed name =
    some_of IsTyped (bytes_eq name (codes "string")) (Some kinds.Text) _ (λ _. refl)
    (some_of IsTyped (bytes_eq name (codes "int") || bytes_eq name (codes "integer")) (Some kinds.Int) _ (λ _. refl)
    (some_of IsTyped (bytes_eq name (codes "boolean")) (Some kinds.Bool) _ (λ _. refl)
    (some_of IsTyped (bytes_eq name (codes "dateTime") || bytes_eq name (codes "date")) (Some kinds.Time) None (λ _. refl) tt)))

kind_typed : (t : Tok) → IsFormed t → IfSome (kind_meant t) IsTyped
kind_typed t f = some_of IsTyped (is_iri t) (option_and_then kind_of_type (type_name t.text)) None (λ _. by (type_name t.text)) tt
  where
    by : (o : Option (List ℕ)) → IfSome (option_and_then kind_of_type o) IsTyped
    by None = tt
    by (Some name) = typed name

-- ---- nodes

variable_made : (word : List ℕ) (block : Block) (left : List Tok) → AreFormed left → Makes (VariableStands block) (variable word block.upsert left)
unfolding variable
variable_made word block left f =
    in_turn Any (VariableStands block) (skip (is_word word) left) _ (skip_made (is_word word) left f)
    (λ _ _ l1 f1. in_turn Any (VariableStands block) (skip (is_punct marks.open_round) l1) _ (skip_made (is_punct marks.open_round) l1 f1)
    (λ _ _ l2 f2. in_turn (λ u. block.upsert ≡ true) (VariableStands block) (refuse_at (length left) (not block.upsert) l2) _ (refuse_made (length left) block.upsert l2 f2)
    (λ _ allowed l3 f3. in_turn (λ name. is_whole_name name ≡ true) (VariableStands block) (one_as name_meant l3) _ (one_made (λ name. is_whole_name name ≡ true) name_meant name_whole l3 f3)
    (λ name whole l4 f4. in_turn Any (VariableStands block) (skip (is_punct marks.close_round) l4) _ (skip_made (is_punct marks.close_round) l4 f4)
    (λ _ _ l5 f5. ((allowed, whole), f5))))))

uid_variable_made : (block : Block) (left : List Tok) → AreFormed left → Makes (NodeStands block) (uid_variable block left)
unfolding uid_variable
uid_variable_made block left f = in_turn (VariableStands block) (NodeStands block) (variable (codes "uid") block.upsert left) _ (variable_made (codes "uid") block left f) (λ name q rest g. (q, g))

node_made : (block : Block) (left : List Tok) → AreFormed left → Makes (NodeStands block) (node block left)
unfolding node
node_made block left f =
    one_of (NodeStands block) (next (is_word (codes "uid")) left) (uid_variable block left) (one_as (node_meant block.delete) left)
    (λ _. uid_variable_made block left f)
    (one_made (NodeStands block) (node_meant block.delete) (node_stands block) left f)

-- ---- objects

tag_made : (left : List Tok) → AreFormed left → Makes (λ tag. IfSome tag IsTyped) (type_tag left)
unfolding type_tag
tag_made left f =
    in_turn Any (λ tag. IfSome tag IsTyped) (skip is_caret left) _ (skip_made is_caret left f)
    (λ _ _ l1 f1. in_turn IsTyped (λ tag. IfSome tag IsTyped) (one_as kind_meant l1) _ (one_made IsTyped kind_meant kind_typed l1 f1) (λ kind q rest g. (q, g)))

literal_made : (block : Block) (left : List Tok) → AreFormed left → Makes (ObjectStands block) (literal left)
unfolding literal
literal_made block left f =
    in_turn Any (ObjectStands block) (one_as quoted_meant left) _ (any_made quoted_meant left f)
    (λ text _ l1 f1. in_turn (λ tag. IfSome tag IsTyped) (ObjectStands block) (optional (next is_caret) type_tag None l1) _
    (one_of (λ tag. IfSome tag IsTyped) (next is_caret l1) (type_tag l1) (Ok (None, l1)) (λ _. tag_made l1 f1) (tt, f1))
    (λ tag q rest g. (q, g)))

val_variable_made : (block : Block) (left : List Tok) → AreFormed left → Makes (ObjectStands block) (val_variable block left)
unfolding val_variable
val_variable_made block left f = in_turn (VariableStands block) (ObjectStands block) (variable (codes "val") block.upsert left) _ (variable_made (codes "val") block left f) (λ name q rest g. (q, g))

star_made : (block : Block) (left : List Tok) → AreFormed left → block.delete ≡ true → Makes (ObjectStands block) (all_objects left)
unfolding all_objects
star_made block left f e = in_turn Any (ObjectStands block) (skip (is_punct marks.star) left) _ (skip_made (is_punct marks.star) left f) (λ _ _ rest g. (e, g))

node_object_made : (block : Block) (left : List Tok) → AreFormed left → Makes (ObjectStands block) (node_object block left)
unfolding node_object
node_object_made block left f = in_turn (NodeStands block) (ObjectStands block) (node block left) _ (node_made block left f) (λ n q rest g. (q, g))

object_made : (block : Block) (left : List Tok) → AreFormed left → Makes (ObjectStands block) (object block left)
unfolding object
object_made block left f =
    one_of (ObjectStands block) (next is_quoted left) (literal left) _ (λ _. literal_made block left f)
    (one_of (ObjectStands block) (next (is_word (codes "val")) left) (val_variable block left) _ (λ _. val_variable_made block left f)
    (one_of (ObjectStands block) (block.delete && next (is_punct marks.star) left) (all_objects left) (node_object block left)
    (λ e. star_made block left f (and_front block.delete (next (is_punct marks.star) left) e)) (node_object_made block left f)))

-- ---- statements

-- what is added to the statements before
pub record AddsStanding (block : Block) (before all : List Statement) : Type 0 where
  pub s : Statement
  pub stands : Stands block s
  pub is : all ≡ before ++ s ∷ []

statement_adds : (block : Block) (before : List Statement) (left : List Tok) → AreFormed left → Makes (AddsStanding block before) (statement block before left)
unfolding statement
statement_adds block before left f =
    let Q : List Statement → Type 0 = AddsStanding block before in
    in_turn (NodeStands block) Q (node block left) _ (node_made block left f)
    (λ s subject l1 f1. in_turn (λ name. is_whole_name name ≡ true) Q (one_as predicate_meant l1) _ (one_made (λ name. is_whole_name name ≡ true) predicate_meant predicate_whole l1 f1)
    (λ p predicate l2 f2. in_turn (ObjectStands block) Q (object block l2) _ (object_made block l2 f2)
    (λ o object_stands l3 f3. in_turn Any Q (optional (next is_label) (skip is_label) tt l3) _ (one_of Any (next is_label l3) (skip is_label l3) (Ok (tt, l3)) (λ _. skip_made is_label l3 f3) (tt, f3))
    (λ _ _ l4 f4. in_turn Any Q (skip (is_punct marks.dot) l4) _ (skip_made (is_punct marks.dot) l4 f4)
    (λ _ _ l5 f5. (
      record {
        s = record { delete = block.delete; s = s; p = p; o = o };
        stands = record { direction = refl; subject = subject; predicate = predicate; object = object_stands };
        is = refl;
      },
      f5,
    ))))))

last_same : (before : List Statement) (a b : Statement) → before ++ a ∷ [] ≡ before ++ b ∷ [] → a ≡ b
last_same [] a b e = cc
last_same (x ∷ before) a b e = let rest : before ++ a ∷ [] ≡ before ++ b ∷ [] = cc in last_same before a b rest

-- a statement that is read can stand in its block
pub read_stands : (block : Block) (before : List Statement) (s : Statement) (ts rest : List Tok) → AreFormed ts → statement block before ts ≡ Ok (before ++ s ∷ [], rest) → Stands block s × AreFormed rest
read_stands block before s ts rest f e =
    let made = subst (λ (read : Read (List Tok) (List Statement)). Makes (AddsStanding block before) read) e (statement_adds block before ts f) in
    (subst (Stands block) (last_same before made.0.s s (sym made.0.is)) made.0.stands, made.1)

-- ---- groups

-- statements that can stand in groups of their own
abbrev pub AllStand : Bool → List Statement → Type 0
AllStand upsert all = AllByRecursion (StandsAlone upsert) all

-- in its block, and so in a group of its own
alone : (block : Block) (s : Statement) → Stands block s → StandsAlone block.upsert s
alone block s q = subst (λ (delete : Bool). Stands (record { delete = delete; upsert = block.upsert }) s) (sym q.direction) q

keeps_standing : (block : Block) (before : List Statement) → AllStand block.upsert before → (left : List Tok) → AreFormed left → Makes (AllStand block.upsert) (statement block before left)
keeps_standing block before all left f = by (statement block before left) (statement_adds block before left f)
  where
    by : (read : Read (List Tok) (List Statement)) → Makes (AddsStanding block before) read → Makes (AllStand block.upsert) read
    by (Ok x) made = (subst (AllStand block.upsert) (sym made.0.is) (all_by_recursion_push (StandsAlone block.upsert) before made.0.s all (alone block made.0.s made.0.stands)), made.1)
    by (Err place) made = tt

statements_made : (block : Block) (before : List Statement) → AllStand block.upsert before → (left : List Tok) → AreFormed left → Makes (AllStand block.upsert) (statements block before left)
statements_made block before all left f = turned (AllStand block.upsert) begins_statement (statement block) (keeps_standing block) (length left) before all left f

group_made : (upsert : Bool) (before : List Statement) → AllStand upsert before → (left : List Tok) → AreFormed left → Makes (AllStand upsert) (group upsert before left)
unfolding group
group_made upsert before all left f =
    let Q : List Statement → Type 0 = AllStand upsert in
    in_turn Any Q (one_as group_meant left) _ (any_made group_meant left f)
    (λ delete _ l1 f1. in_turn Any Q (skip (is_punct marks.open_curly) l1) _ (skip_made (is_punct marks.open_curly) l1 f1)
    (λ _ _ l2 f2. in_turn Q Q (statements (record { delete = delete; upsert = upsert }) before l2) _ (statements_made (record { delete = delete; upsert = upsert }) before all l2 f2)
    (λ more stand l3 f3. in_turn Any Q (skip (is_punct marks.close_curly) l3) _ (skip_made (is_punct marks.close_curly) l3 f3)
    (λ _ _ l4 f4. (stand, f4)))))

pub groups_made : (upsert : Bool) (left : List Tok) → AreFormed left → Makes (AllStand upsert) (groups upsert left)
unfolding groups
groups_made upsert left f =
    let Q : List Statement → Type 0 = AllStand upsert in
    in_turn Any Q (skip (is_punct marks.open_curly) left) _ (skip_made (is_punct marks.open_curly) left f)
    (λ _ _ l1 f1. in_turn Q Q (repeated begins_group (group upsert) [] l1) _ (turned Q begins_group (group upsert) (group_made upsert) (length l1) [] tt l1 f1)
    (λ more stand l2 f2. in_turn Any Q (skip (is_punct marks.close_curly) l2) _ (skip_made (is_punct marks.close_curly) l2 f2)
    (λ _ _ l3 f3. (stand, f3))))

pub statements_stand : (block : Block) (left : List Tok) → AreFormed left → Makes (AllStand block.upsert) (statements block [] left)
statements_stand block left f = statements_made block [] tt left f

-- statements that are read in groups can stand there
pub read_stand_alone : (upsert : Bool) (all : List Statement) (ts rest : List Tok) → AreFormed ts → groups upsert ts ≡ Ok (all, rest) → AllStand upsert all × AreFormed rest
read_stand_alone upsert all ts rest f e = subst (λ (read : Read (List Tok) (List Statement)). Makes (AllStand upsert) read) e (groups_made upsert ts f)

-- Without an upsert block no statement has a variable.
use Rattle.std.proofs.Common.{◌≡◌, ℕ, zero, suc, ◌==◌, ◌&&◌, not, Bool, true, false, List, [], ◌∷◌, length, subst}
use Rattle.std.specs.Prelude.{Option, Some, None, Result, Ok, Err, IfOk, IfSome, if◌then◌else◌, codes}
use Rattle.std.specs.Option.{option_map}
use Rattle.std.specs.List.{AllByRecursion}
use Rattle.std.proofs.SliceLists.{all_by_recursion_push}
use Rattle.dg_text.specs.Reading.{Read, and_then, choose, give, here, next, one_as, optional, refuse_at, repeated, skip, turns}
use Rattle.dg_text.specs.Reading as reading
use Rattle.dg_text.specs.Tokens.{Tok, is_iri, is_punct, is_word, toks_of, is_blank, is_caret, is_quoted}
use Rattle.dg_text.specs.Lexing.{lexed}
use Rattle.dg_text.specs.declared.token.Token.{Token}
use Rattle.dg_nquad.specs.declared.block.Block.{Block}
use Rattle.dg_nquad.specs.declared.fault.NquadFault.{NquadFault}
use Rattle.dg_nquad.specs.declared.fault.NquadFault.TheVariants as faults
use Rattle.dg_nquad.specs.declared.mutation.Mutation.{Mutation}
use Rattle.dg_nquad.specs.declared.mutation.Node.TheVariants as nodes
use Rattle.dg_nquad.specs.declared.mutation.Object.TheVariants as objects
use Rattle.dg_nquad.specs.declared.mutation.Statement.{Statement}
use Rattle.dg_text.specs.Marks as marks
use Rattle.dg_nquad.specs.Grammar.{variable, uid_variable, node, type_tag, literal, val_variable, all_objects, node_object, object, statement, statements, group, groups, body, begins_statement, begins_group, is_label, plain_set}
use Rattle.dg_nquad.specs.Plain.{IsNamed, IsNoVariable, HasNoVariable}
use Rattle.dg_text.specs.Places.{offset_of}
use Rattle.dg_nquad.specs.Whole.{outcome, by_tokens, mutation, Reads}
use Rattle.dg_text.specs.Words.{predicate_meant}
use Rattle.dg_text.specs.Said.{quoted_meant, uid_said, blank_name}
use Rattle.dg_nquad.specs.Words.{node_meant, group_meant}

-- ---- what holds of what is read

-- what is read is such, where something is
abbrev IfRead : {S A : Type 0} → (A → Type 0) → Read S A → Type 0
IfRead P read = IfOk read (λ x. P x.0)

-- where no variable may stand, none is read
abbrev Never : {A : Type 0} → A → Type 0
Never x = ⊥

-- nothing is said of it
abbrev Any : {A : Type 0} → A → Type 0
Any x = Unit {0}

any : {S A : Type 0} (read : Read S A) → IfRead Any read
any (Ok x) = tt
any (Err place) = tt

none : {S A : Type 0} (P : A → Type 0) (read : Read S A) → IfRead Never read → IfRead P read
none P (Ok x) h = absurd h
none P (Err place) h = tt

-- one part, and then what follows it
in_turn : {S A B : Type 0} (P : A → Type 0) (Q : B → Type 0) (read : Read S A) (more : A → reading.Reader S B) → IfRead P read → ((x : A) → P x → (left : S) → IfRead Q (more x left)) → IfRead Q (and_then read more)
in_turn P Q (Ok x) more p follows = follows x.0 p x.1
in_turn P Q (Err place) more p follows = tt

-- a | b
one_of : {S A : Type 0} (P : A → Type 0) (test : Bool) (a b : Read S A) → IfRead P a → IfRead P b → IfRead P (if test then a else b)
one_of P true a b h k = h
one_of P false a b h k = k

-- { part }
turned : {S A : Type 0} (P : A → Type 0) (begins : S → Bool) (part : A → reading.Reader S A) → ((x : A) → P x → (left : S) → IfRead P (part x left)) → (n : ℕ) (before : A) → P before → (left : S) → IfRead P (turns n begins part before left)
unfolding turns
turned P begins part keeps zero before p left = p
turned P begins part keeps (suc n) before p left =
    one_of P (begins left) (and_then (part before left) (turns n begins part)) (Ok (before, left))
    (in_turn P P (part before left) (turns n begins part) (keeps before p left) (turned P begins part keeps n))
    p

-- a token that means something
given : {A : Type 0} (P : A → Type 0) (all rest : List Tok) (o : Option A) → IfSome o P → IfRead P (reading.meant o all rest)
given P all rest None h = tt
given P all rest (Some x) h = h

as_meant : {A : Type 0} (P : A → Type 0) (meaning : Tok → Option A) → ((t : Tok) → IfSome (meaning t) P) → (left : List Tok) → IfRead P (one_as meaning left)
as_meant P meaning h [] = tt
as_meant P meaning h (t ∷ rest) = given P (t ∷ rest) rest (meaning t) (h t)

-- ---- nodes

some_of : {A : Type 0} (P : A → Type 0) (test : Bool) (a b : Option A) → IfSome a P → IfSome b P → IfSome (if test then a else b) P
some_of P true a b h k = h
some_of P false a b h k = k

made : {A B : Type 0} (P : B → Type 0) (f : A → B) (o : Option A) → ((x : A) → P (f x)) → IfSome (option_map f o) P
made P f None h = tt
made P f (Some x) h = h x

token_named : (delete : Bool) (t : Tok) → IfSome (node_meant delete t) IsNamed
token_named delete t =
    some_of IsNamed (is_iri t) (option_map nodes.Uid (uid_said t.text)) (if not delete && is_blank t then option_map nodes.Blank (blank_name t.text) else None)
    (made IsNamed nodes.Uid (uid_said t.text) (λ uid. tt))
    (some_of IsNamed (not delete && is_blank t) (option_map nodes.Blank (blank_name t.text)) None (made IsNamed nodes.Blank (blank_name t.text) (λ name. tt)) tt)

-- its word and bracket are read, and then it is refused
no_variable : (word : List ℕ) (left : List Tok) → IfRead Never (variable word false left)
unfolding variable
no_variable word left =
    in_turn Any Never (skip (is_word word) left) _ (any (skip (is_word word) left))
    (λ _ _ after. in_turn Any Never (skip (is_punct marks.open_round) after) _ (any (skip (is_punct marks.open_round) after)) (λ _ _ _. tt))

no_uid_variable : (delete : Bool) (left : List Tok) → IfRead Never (uid_variable (record { delete = delete; upsert = false }) left)
unfolding uid_variable
no_uid_variable delete left = in_turn Never Never (variable (codes "uid") false left) (λ name. give (nodes.Var name)) (no_variable (codes "uid") left) (λ name h. absurd h)

node_named : (delete : Bool) (left : List Tok) → IfRead IsNamed (node (record { delete = delete; upsert = false }) left)
unfolding node
node_named delete left =
    one_of IsNamed (next (is_word (codes "uid")) left) (uid_variable (record { delete = delete; upsert = false }) left) (one_as (node_meant delete) left)
    (none IsNamed (uid_variable (record { delete = delete; upsert = false }) left) (no_uid_variable delete left))
    (as_meant IsNamed (node_meant delete) (token_named delete) left)

-- ---- objects

literal_named : (left : List Tok) → IfRead IsNoVariable (literal left)
unfolding literal
literal_named left =
    in_turn Any IsNoVariable (one_as quoted_meant left) _ (any (one_as quoted_meant left))
    (λ text _ after. in_turn Any IsNoVariable (optional (next is_caret) type_tag None after) _ (any (optional (next is_caret) type_tag None after)) (λ _ _ _. tt))

no_val_variable : (delete : Bool) (left : List Tok) → IfRead Never (val_variable (record { delete = delete; upsert = false }) left)
unfolding val_variable
no_val_variable delete left = in_turn Never Never (variable (codes "val") false left) (λ name. give (objects.Val name)) (no_variable (codes "val") left) (λ name h. absurd h)

star_named : (left : List Tok) → IfRead IsNoVariable (all_objects left)
unfolding all_objects
star_named left = in_turn Any IsNoVariable (skip (is_punct marks.star) left) _ (any (skip (is_punct marks.star) left)) (λ _ _ _. tt)

node_object_named : (delete : Bool) (left : List Tok) → IfRead IsNoVariable (node_object (record { delete = delete; upsert = false }) left)
unfolding node_object
node_object_named delete left = in_turn IsNamed IsNoVariable (node (record { delete = delete; upsert = false }) left) (λ n. give (objects.Node n)) (node_named delete left) (λ n h _. h)

object_named : (delete : Bool) (left : List Tok) → IfRead IsNoVariable (object (record { delete = delete; upsert = false }) left)
unfolding object
object_named delete left =
    let block : Block = record { delete = delete; upsert = false } in
    one_of IsNoVariable (next is_quoted left) (literal left) _
    (literal_named left)
    (one_of IsNoVariable (next (is_word (codes "val")) left) (val_variable block left) _
    (none IsNoVariable (val_variable block left) (no_val_variable delete left))
    (one_of IsNoVariable (delete && next (is_punct marks.star) left) (all_objects left) (node_object block left) (star_named left) (node_object_named delete left)))

-- ---- statements

abbrev NoneHasVariable : List Statement → Type 0
NoneHasVariable all = AllByRecursion HasNoVariable all

statement_named : (delete : Bool) (before : List Statement) → NoneHasVariable before → (left : List Tok) → IfRead NoneHasVariable (statement (record { delete = delete; upsert = false }) before left)
unfolding statement
statement_named delete before all left =
    let block : Block = record { delete = delete; upsert = false } in
    in_turn IsNamed NoneHasVariable (node block left) _ (node_named delete left)
    (λ s named l1. in_turn Any NoneHasVariable (one_as predicate_meant l1) _ (any (one_as predicate_meant l1))
    (λ p _ l2. in_turn IsNoVariable NoneHasVariable (object block l2) _ (object_named delete l2)
    (λ o object_is l3. in_turn Any NoneHasVariable (optional (next is_label) (skip is_label) tt l3) _ (any (optional (next is_label) (skip is_label) tt l3))
    (λ _ _ l4. in_turn Any NoneHasVariable (skip (is_punct marks.dot) l4) _ (any (skip (is_punct marks.dot) l4))
    (λ _ _ l5. all_by_recursion_push HasNoVariable before (record { delete = delete; s = s; p = p; o = o }) all (named, object_is))))))

statements_named : (delete : Bool) (before : List Statement) → NoneHasVariable before → (left : List Tok) → IfRead NoneHasVariable (statements (record { delete = delete; upsert = false }) before left)
statements_named delete before all left =
    let block : Block = record { delete = delete; upsert = false } in
    turned NoneHasVariable begins_statement (statement block) (statement_named delete) (length left) before all left

group_named : (before : List Statement) → NoneHasVariable before → (left : List Tok) → IfRead NoneHasVariable (group false before left)
unfolding group
group_named before all left =
    in_turn Any NoneHasVariable (one_as group_meant left) _ (any (one_as group_meant left))
    (λ delete _ l1. in_turn Any NoneHasVariable (skip (is_punct marks.open_curly) l1) _ (any (skip (is_punct marks.open_curly) l1))
    (λ _ _ l2. in_turn NoneHasVariable NoneHasVariable (statements (record { delete = delete; upsert = false }) before l2) _ (statements_named delete before all l2)
    (λ more named l3. in_turn Any NoneHasVariable (skip (is_punct marks.close_curly) l3) _ (any (skip (is_punct marks.close_curly) l3))
    (λ _ _ _. named))))

groups_named : (left : List Tok) → IfRead NoneHasVariable (groups false left)
unfolding groups
groups_named left =
    in_turn Any NoneHasVariable (skip (is_punct marks.open_curly) left) _ (any (skip (is_punct marks.open_curly) left))
    (λ _ _ l1. in_turn NoneHasVariable NoneHasVariable (repeated begins_group (group false) [] l1) _ (turned NoneHasVariable begins_group (group false) group_named (length l1) [] tt l1)
    (λ more named l2. in_turn Any NoneHasVariable (skip (is_punct marks.close_curly) l2) _ (any (skip (is_punct marks.close_curly) l2))
    (λ _ _ _. named)))

body_named : (left : List Tok) → IfRead NoneHasVariable (body left)
unfolding body
body_named left =
    one_of NoneHasVariable (next (is_punct marks.open_curly) left) (groups false left) (statements plain_set [] left)
    (groups_named left)
    (statements_named false [] tt left)

-- ---- texts

ok_of : {A E : Type 0} (P : A → Type 0) (test : Bool) (x : A) (e : E) → P x → IfOk (if test then Ok x else Err e) P
ok_of P true x e h = h
ok_of P false x e h = tt

outcome_named : (tokens : List Tok) (end : ℕ) (read : Read (List Tok) (List Statement)) → IfRead NoneHasVariable read → IfOk (outcome tokens end read) NoneHasVariable
outcome_named tokens end (Ok x) h = ok_of NoneHasVariable (length x.1 == 0) x.0 (faults.BadSyntax (offset_of tokens end (length x.1))) h
outcome_named tokens end (Err place) h = tt

by_tokens_named : (text : List ℕ) (lex : Result (List Token) ℕ) → IfOk (by_tokens text lex) NoneHasVariable
by_tokens_named text (Ok tokens) = outcome_named (toks_of text tokens) (length text) (body (toks_of text tokens)) (body_named (toks_of text tokens))
by_tokens_named text (Err offset) = tt

-- the statements of a text have no variable
pub none_has_variable : (text : List ℕ) (all : List Statement) → mutation text ≡ Ok all → NoneHasVariable all
none_has_variable text all e = subst (λ (read : Result (List Statement) NquadFault). IfOk read NoneHasVariable) e (by_tokens_named text (lexed text))

-- nor have those that were read
pub read_has_none : (result : Result Mutation NquadFault) (text : List ℕ) → Reads result (mutation text) → IfOk result (λ m. NoneHasVariable m.statements)
read_has_none (Ok m) text e = none_has_variable text m.statements e
read_has_none (Err fault) text e = tt

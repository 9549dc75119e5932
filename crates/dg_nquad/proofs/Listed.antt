-- Statements stand one after the other: each takes tokens, and leaves those behind it.
use Rattle.std.proofs.Common.{◌≡◌, ◌↔◌, ℕ, Bool, true, false, ◌&&◌, List, ◌++◌, length, refl, subst}
use Rattle.std.specs.Prelude.{codes, not, Option, None, Ok}
use Rattle.dg_text.specs.Reading.{Read, next, one_as, optional, skip, refuse_at}
use Rattle.dg_text.specs.Tokens.{Tok, is_punct, is_word, is_caret, is_quoted}
use Rattle.dg_text.specs.Marks as marks
use Rattle.dg_text.specs.Words.{name_meant, predicate_meant}
use Rattle.dg_text.specs.Said.{quoted_meant}
use Rattle.dg_text.specs.Listed.{AreListed}
use Rattle.dg_text.proofs.Leaving.{Ends, Leaves, AllOf, all_left, step, past, one_of, skip_leaves, one_leaves}
use Rattle.dg_text.proofs.Listing.{Adds, AddsOne, lists}
use Rattle.dg_values.specs.declared.kind.Kind.{Kind}
use Rattle.dg_nquad.specs.declared.block.Block.{Block}
use Rattle.dg_nquad.specs.declared.mutation.Node.{Node}
use Rattle.dg_nquad.specs.declared.mutation.Object.{Object}
use Rattle.dg_nquad.specs.declared.mutation.Statement.{Statement}
use Rattle.dg_nquad.specs.Grammar.{variable, uid_variable, node, type_tag, literal, val_variable, all_objects, node_object, object, statement, statements, begins_statement, is_label}
use Rattle.dg_nquad.specs.Words.{node_meant, kind_meant}

-- the end of what is left
abbrev End : (A : Type 0) → List Tok → A → List Tok → Type 0
End A left x rest = Ends left rest

refuse_leaves : (place : ℕ) (test : Bool) (left : List Tok) → Leaves left (refuse_at place test left)
refuse_leaves place true left = tt
refuse_leaves place false left = all_left left

variable_leaves : (word : List ℕ) (allowed : Bool) (left : List Tok) → Leaves left (variable word allowed left)
unfolding variable
variable_leaves word allowed left =
    step (End (List ℕ) left) left left (skip (is_word word) left) _ (all_left left) (skip_leaves (is_word word) left)
    (λ _ l1 e1. step (End (List ℕ) left) left l1 (skip (is_punct marks.open_round) l1) _ e1 (skip_leaves (is_punct marks.open_round) l1)
    (λ _ l2 e2. step (End (List ℕ) left) left l2 (refuse_at (length left) (not allowed) l2) _ e2 (refuse_leaves (length left) (not allowed) l2)
    (λ _ l3 e3. step (End (List ℕ) left) left l3 (one_as name_meant l3) _ e3 (one_leaves name_meant l3)
    (λ _ l4 e4. step (End (List ℕ) left) left l4 (skip (is_punct marks.close_round) l4) _ e4 (skip_leaves (is_punct marks.close_round) l4)
    (λ _ l5 e5. e5)))))

uid_variable_leaves : (block : Block) (left : List Tok) → Leaves left (uid_variable block left)
unfolding uid_variable
uid_variable_leaves block left = step (End Node left) left left (variable (codes "uid") block.upsert left) _ (all_left left) (variable_leaves (codes "uid") block.upsert left) (λ _ l e. e)

node_leaves : (block : Block) (left : List Tok) → Leaves left (node block left)
unfolding node
node_leaves block left =
    one_of (End Node left) (next (is_word (codes "uid")) left) (uid_variable block left) (one_as (node_meant block.delete) left)
    (uid_variable_leaves block left) (one_leaves (node_meant block.delete) left)

tag_leaves : (left : List Tok) → Leaves left (type_tag left)
unfolding type_tag
tag_leaves left =
    step (End (Option Kind) left) left left (skip is_caret left) _ (all_left left) (skip_leaves is_caret left)
    (λ _ l1 e1. step (End (Option Kind) left) left l1 (one_as kind_meant l1) _ e1 (one_leaves kind_meant l1) (λ _ l2 e2. e2))

literal_leaves : (left : List Tok) → Leaves left (literal left)
unfolding literal
literal_leaves left =
    step (End Object left) left left (one_as quoted_meant left) _ (all_left left) (one_leaves quoted_meant left)
    (λ _ l1 e1. step (End Object left) left l1 (optional (next is_caret) type_tag None l1) _ e1
    (one_of (End (Option Kind) l1) (next is_caret l1) (type_tag l1) (Ok (None, l1)) (tag_leaves l1) (all_left l1))
    (λ _ l2 e2. e2))

val_variable_leaves : (block : Block) (left : List Tok) → Leaves left (val_variable block left)
unfolding val_variable
val_variable_leaves block left = step (End Object left) left left (variable (codes "val") block.upsert left) _ (all_left left) (variable_leaves (codes "val") block.upsert left) (λ _ l e. e)

star_leaves : (left : List Tok) → Leaves left (all_objects left)
unfolding all_objects
star_leaves left = step (End Object left) left left (skip (is_punct marks.star) left) _ (all_left left) (skip_leaves (is_punct marks.star) left) (λ _ l e. e)

node_object_leaves : (block : Block) (left : List Tok) → Leaves left (node_object block left)
unfolding node_object
node_object_leaves block left = step (End Object left) left left (node block left) _ (all_left left) (node_leaves block left) (λ _ l e. e)

object_leaves : (block : Block) (left : List Tok) → Leaves left (object block left)
unfolding object
object_leaves block left =
    one_of (End Object left) (next is_quoted left) (literal left) _
    (literal_leaves left)
    (one_of (End Object left) (next (is_word (codes "val")) left) (val_variable block left) _
    (val_variable_leaves block left)
    (one_of (End Object left) (block.delete && next (is_punct marks.star) left) (all_objects left) (node_object block left) (star_leaves left) (node_object_leaves block left)))

statement_adds : (block : Block) (before : List Statement) (left : List Tok) → AllOf (λ x rest. Adds before x left rest) (statement block before left)
unfolding statement
statement_adds block before left =
    let Q : List Statement → List Tok → Type 0 = λ x rest. Adds before x left rest in
    step Q left left (node block left) _ (all_left left) (node_leaves block left)
    (λ s l1 e1. step Q left l1 (one_as predicate_meant l1) _ e1 (one_leaves predicate_meant l1)
    (λ p l2 e2. step Q left l2 (object block l2) _ e2 (object_leaves block l2)
    (λ o l3 e3. step Q left l3 (optional (next is_label) (skip is_label) tt l3) _ e3
    (one_of (End (Unit {0}) l3) (next is_label l3) (skip is_label l3) (Ok (tt, l3)) (skip_leaves is_label l3) (all_left l3))
    (λ _ l4 e4. past Q left l4 (is_punct marks.dot) _ e4
    (λ rest shorter. record { member = record { delete = block.delete; s = s; p = p; o = o }; is = refl; shorter = shorter })))))

pub adds_one : (block : Block) → AddsOne begins_statement (statement block)
adds_one block = record {
  one = λ before x left rest e. subst (λ (read : Read (List Tok) (List Statement)). AllOf (λ x rest. Adds before x left rest) read) e (statement_adds block before left);
  none = refl;
}

-- statements are read exactly where they are listed so
pub statements_listed : (block : Block) (before all : List Statement) (left end : List Tok) → (statements block before left ≡ Ok (before ++ all, end)) ↔ AreListed begins_statement (statement block) before all end left
statements_listed block before all left end = lists begins_statement (statement block) (adds_one block) before all end left

-- Statements stand one after the other: each takes tokens, and leaves those behind it.
use Rattle.std.proofs.Common.{◌≡◌, ◌↔◌, not, Bool, true, false, List, [], ◌∷◌, ◌++◌, length, refl, subst}
use Rattle.std.specs.Prelude.{Ok, Err}
use Rattle.dg_values.specs.declared.kind.Tokenizer.{Tokenizer}
use Rattle.dg_text.specs.Reading.{Read, and_then, next, one_as, optional, skip, repeated, refuse_at}
use Rattle.dg_text.specs.Tokens.{Tok, is_at, is_punct}
use Rattle.dg_text.specs.Marks.{colon, comma, dot, open_round, close_round, open_square, close_square}
use Rattle.dg_text.specs.Words.{predicate_meant}
use Rattle.dg_text.specs.Listed.{AreListed}
use Rattle.dg_text.proofs.Leaving.{Ends, Shorter, Leaves, AllOf, all_left, step, last, past, one_of, skip_leaves, one_leaves, turns_leave}
use Rattle.dg_text.proofs.Listing.{Adds, AddsOne, lists}
use Rattle.dg_schema.specs.declared.definition.PredDef.{PredDef}
use Rattle.dg_schema.specs.declared.statement.Shape.{Shape}
use Rattle.dg_schema.specs.declared.statement.Marks.{Marks}
use Rattle.dg_schema.specs.declared.statement.Statement.{Statement}
use Rattle.dg_schema.specs.declared.words.Directive.{Directive}
use Rattle.dg_schema.specs.declared.words.Directive.TheVariants as directives
use Rattle.dg_schema.specs.Words.{kind_meant, tokenizer_meant, directive_meant}
use Rattle.dg_schema.specs.Grammar.{scalar, list_type, type_of, comma_tokenizer, tokenizers, index, after_word, directive, unmarked, stated, is_allowed, define, statement, begins_statement}

-- the end of what is left
abbrev End : (A : Type 0) → List Tok → A → List Tok → Type 0
End A left x rest = Ends left rest

scalar_leaves : (list : Bool) (left : List Tok) → Leaves left (scalar list left)
scalar_leaves list left = step (End Shape left) left left (one_as kind_meant left) _ (all_left left) (one_leaves kind_meant left) (λ _ l e. e)

list_leaves : (left : List Tok) → Leaves left (list_type left)
unfolding list_type
list_leaves left =
    step (End Shape left) left left (skip (is_punct open_square) left) _ (all_left left) (skip_leaves (is_punct open_square) left)
    (λ _ l1 e1. step (End Shape left) left l1 (scalar true l1) _ e1 (scalar_leaves true l1)
    (λ _ l2 e2. step (End Shape left) left l2 (skip (is_punct close_square) l2) _ e2 (skip_leaves (is_punct close_square) l2)
    (λ _ l3 e3. e3)))

type_leaves : (left : List Tok) → Leaves left (type_of left)
unfolding type_of
type_leaves left = one_of (End Shape left) (next (is_punct open_square) left) (list_type left) (scalar false left) (list_leaves left) (scalar_leaves false left)

comma_leaves : (before : List Tokenizer) (left : List Tok) → Leaves left (comma_tokenizer before left)
unfolding comma_tokenizer
comma_leaves before left =
    step (End (List Tokenizer) left) left left (skip (is_punct comma) left) _ (all_left left) (skip_leaves (is_punct comma) left)
    (λ _ l1 e1. step (End (List Tokenizer) left) left l1 (one_as tokenizer_meant l1) _ e1 (one_leaves tokenizer_meant l1) (λ _ l2 e2. e2))

tokenizers_leave : (left : List Tok) → Leaves left (tokenizers left)
unfolding tokenizers
tokenizers_leave left =
    step (End (List Tokenizer) left) left left (skip (is_punct open_round) left) _ (all_left left) (skip_leaves (is_punct open_round) left)
    (λ _ l1 e1. step (End (List Tokenizer) left) left l1 (one_as tokenizer_meant l1) _ e1 (one_leaves tokenizer_meant l1)
    (λ first l2 e2. step (End (List Tokenizer) left) left l2 (repeated (next (is_punct comma)) comma_tokenizer (first ∷ []) l2) _ e2
    (turns_leave (next (is_punct comma)) comma_tokenizer comma_leaves (length l2) (first ∷ []) l2)
    (λ _ l3 e3. step (End (List Tokenizer) left) left l3 (skip (is_punct close_round) l3) _ e3 (skip_leaves (is_punct close_round) l3)
    (λ _ l4 e4. e4))))

index_leaves : (marks : Marks) (left : List Tok) → Leaves left (index marks left)
unfolding index
index_leaves marks left =
    step (End Marks left) left left (optional (next (is_punct open_round)) tokenizers [] left) _ (all_left left)
    (one_of (End (List Tokenizer) left) (next (is_punct open_round) left) (tokenizers left) (Ok ([], left)) (tokenizers_leave left) (all_left left))
    (λ _ l e. e)

word_leaves : (marks : Marks) (word : Directive) (left : List Tok) → Leaves left (after_word marks word left)
word_leaves marks directives.Index left = index_leaves marks left
word_leaves marks directives.Reverse left = all_left left
word_leaves marks directives.Count left = all_left left
word_leaves marks directives.Upsert left = all_left left

directive_leaves : (marks : Marks) (left : List Tok) → Leaves left (directive marks left)
unfolding directive
directive_leaves marks left =
    step (End Marks left) left left (one_as directive_meant left) _ (all_left left) (one_leaves directive_meant left)
    (λ word l e. last left l (after_word marks word l) e (word_leaves marks word l))

-- a statement up to its point takes tokens
stated_shorter : (left : List Tok) → AllOf (λ s rest. Shorter left rest) (stated left)
unfolding stated
stated_shorter left =
    let Q : Statement → List Tok → Type 0 = λ s rest. Shorter left rest in
    step Q left left (one_as predicate_meant left) _ (all_left left) (one_leaves predicate_meant left)
    (λ name l1 e1. step Q left l1 (skip (is_punct colon) l1) _ e1 (skip_leaves (is_punct colon) l1)
    (λ _ l2 e2. step Q left l2 (type_of l2) _ e2 (type_leaves l2)
    (λ shape l3 e3. step Q left l3 (repeated (next is_at) directive unmarked l3) _ e3 (turns_leave (next is_at) directive directive_leaves (length l3) unmarked l3)
    (λ marks l4 e4. past Q left l4 (is_punct dot) _ e4 (λ rest shorter. shorter)))))

-- a statement that is allowed adds its definition
allowed : (test : Bool) (earlier : List PredDef) (s : Statement) (left rest : List Tok) → Shorter left rest
    → AllOf (λ x rest. Adds earlier x left rest) (and_then (refuse_at s.place (not test) rest) (λ _ l. Ok (earlier ++ define s ∷ [], l)))
allowed true earlier s left rest shorter = record { member = define s; is = refl; shorter = shorter }
allowed false earlier s left rest shorter = tt

by_stated : (earlier : List PredDef) (left : List Tok) (read : Read (List Tok) Statement) → AllOf (λ s rest. Shorter left rest) read
    → AllOf (λ x rest. Adds earlier x left rest) (and_then read (λ s rest. and_then (refuse_at s.place (not (is_allowed earlier s)) rest) (λ _ l. Ok (earlier ++ define s ∷ [], l))))
by_stated earlier left (Ok x) shorter = allowed (is_allowed earlier x.0) earlier x.0 left x.1 shorter
by_stated earlier left (Err place) shorter = tt

statement_adds : (earlier : List PredDef) (left : List Tok) → AllOf (λ x rest. Adds earlier x left rest) (statement earlier left)
unfolding statement
statement_adds earlier left = by_stated earlier left (stated left) (stated_shorter left)

adds_one : AddsOne begins_statement statement
adds_one = record {
  one = λ before x left rest e. subst (λ (read : Read (List Tok) (List PredDef)). AllOf (λ x rest. Adds before x left rest) read) e (statement_adds before left);
  none = refl;
}

-- statements are read exactly where they are listed so
pub statements_listed : (earlier all : List PredDef) (left end : List Tok) → (repeated begins_statement statement earlier left ≡ Ok (earlier ++ all, end)) ↔ AreListed begins_statement statement earlier all end left
statements_listed earlier all left end = lists begins_statement statement adds_one earlier all end left

-- The groups of a mutation close as many brackets as they open.
use Rattle.std.proofs.Common.{◌≡◌, ℕ, Bool, true, false, List, [], length, None, refl}
use Rattle.std.specs.Prelude.{◌&&◌, codes}
use Rattle.dg_text.specs.Reading.{Reader, next, skip, one_as, refuse_at, ◌>>=◌}
use Rattle.dg_text.specs.Tokens.{Tok, is_punct, is_word, is_quoted, is_caret}
use Rattle.dg_text.specs.Words.{name_meant, predicate_meant}
use Rattle.dg_text.specs.Said.{quoted_meant}
use Rattle.dg_text.specs.declared.token.TokenKind.TheVariants as kinds
use Rattle.dg_nquad.specs.declared.block.Block.{Block}
use Rattle.dg_nquad.specs.declared.mutation.Statement.{Statement}
use Rattle.dg_nquad.specs.Grammar.{variable, uid_variable, node, type_tag, literal, val_variable, all_objects, node_object, object, statement, statements, group, groups, begins_statement, begins_group, is_label}
use Rattle.dg_nquad.specs.Words.{node_meant, kind_meant, group_meant}
use Rattle.dg_print.proofs.Room.{Ends, Opens, all, chain, inside, closing, either, maybe, turned, one, over, sign, open_round_opens, close_round_shuts, open_curly_opens, close_curly_shuts}

abbrev Even : {A : Type 0} → Reader (List Tok) A → Type 0
Even reader = Ends all false reader

abbrev Closes : {A : Type 0} → Reader (List Tok) A → Type 0
Closes reader = Ends all true reader

then_even : {A B : Type 0} (reader : Reader (List Tok) A) (more : A → Reader (List Tok) B) → Even reader → ((x : A) → Even (more x)) → Even (reader >>= more)
then_even reader more h k = chain all reader more false h k

then_closes : {A B : Type 0} (reader : Reader (List Tok) A) (more : A → Reader (List Tok) B) → Even reader → ((x : A) → Closes (more x)) → Closes (reader >>= more)
then_closes reader more h k = chain all reader more true h k

opened : {A B : Type 0} (reader : Reader (List Tok) A) (more : A → Reader (List Tok) B) → Opens all reader → ((x : A) → Closes (more x)) → Even (reader >>= more)
opened reader more h k = inside all reader more h k

closed : {A B : Type 0} (reader : Reader (List Tok) A) (more : A → Reader (List Tok) B) → Closes reader → ((x : A) → Even (more x)) → Closes (reader >>= more)
closed reader more h k = closing all reader more h k

-- a case beside the grammar reads nothing
refused : {B : Type 0} (place : ℕ) (test : Bool) (more : Unit {0} → Reader (List Tok) B) → ((x : Unit {0}) → Closes (more x)) → Closes (refuse_at place test >>= more)
refused place test more h = then_closes (refuse_at place test) more (by test) h
  where
    by : (t : Bool) → Even (refuse_at place t)
    by true = λ _ _ _. tt
    by false = λ _ _ f. f

word_even : (w : List ℕ) → Even (skip (is_word w))
word_even w = over (is_word w) (λ _ _ _. refl)

variable_even : (w : List ℕ) (allowed : Bool) → Even (variable w allowed)
unfolding variable
variable_even w allowed r left f =
    then_even _ _ (word_even w) (λ _. opened _ _ open_round_opens (λ _. refused _ _ _
    (λ _. then_closes _ _ (one name_meant (λ _ _ _. refl)) (λ _. closed _ _ close_round_shuts (λ _ _ _ f. f))))) r left f

uid_variable_even : (block : Block) → Even (uid_variable block)
unfolding uid_variable
uid_variable_even block = then_even _ _ (variable_even (codes "uid") block.upsert) (λ _ _ _ f. f)

node_even : (block : Block) → Even (node block)
unfolding node
node_even block = either all false (next (is_word (codes "uid"))) (uid_variable block) (one_as (node_meant block.delete)) (uid_variable_even block) (one (node_meant block.delete) (by block.delete))
  where
    by : (delete : Bool) (b : ℕ) (text : List ℕ) (start : ℕ) → node_meant delete (record { kind = kinds.Punct b; text = text; start = start }) ≡ None
    by true b text start = refl
    by false b text start = refl

type_tag_even : Even type_tag
unfolding type_tag
type_tag_even = then_even _ _ (over is_caret (λ _ _ _. refl)) (λ _. then_even _ _ (one kind_meant (λ _ _ _. refl)) (λ _ _ _ f. f))

literal_even : Even literal
unfolding literal
literal_even = then_even _ _ (one quoted_meant (λ _ _ _. refl)) (λ _. then_even _ _ (maybe all (next is_caret) type_tag None type_tag_even) (λ _ _ _ f. f))

val_variable_even : (block : Block) → Even (val_variable block)
unfolding val_variable
val_variable_even block = then_even _ _ (variable_even (codes "val") block.upsert) (λ _ _ _ f. f)

all_objects_even : Even all_objects
unfolding all_objects
all_objects_even = then_even _ _ (sign 42 refl refl) (λ _ _ _ f. f)

node_object_even : (block : Block) → Even (node_object block)
unfolding node_object
node_object_even block = then_even _ _ (node_even block) (λ _ _ _ f. f)

object_even : (block : Block) → Even (object block)
unfolding object
object_even block =
    either all false (next is_quoted) literal _ literal_even
    (either all false (next (is_word (codes "val"))) (val_variable block) _ (val_variable_even block)
    (either all false (λ left. block.delete && next (is_punct 42) left) all_objects (node_object block) all_objects_even (node_object_even block)))

statement_even : (block : Block) (before : List Statement) → Even (statement block before)
unfolding statement
statement_even block before =
    then_even _ _ (node_even block) (λ _. then_even _ _ (one predicate_meant (λ _ _ _. refl)) (λ _. then_even _ _ (object_even block)
    (λ _. then_even _ _ (maybe all (next is_label) (skip is_label) tt (over is_label (λ _ _ _. refl))) (λ _. then_even _ _ (sign 46 refl refl) (λ _ _ _ f. f)))))

statements_even : (block : Block) (before : List Statement) → Even (statements block before)
statements_even block before r left f = turned all begins_statement (statement block) (statement_even block) (length left) before r left f

group_even : (upsert : Bool) (before : List Statement) → Even (group upsert before)
unfolding group
group_even upsert before =
    then_even _ _ (one group_meant (λ _ _ _. refl)) (λ _. opened _ _ open_curly_opens (λ _. then_closes _ _ (statements_even _ before)
    (λ _. closed _ _ close_curly_shuts (λ _ _ _ f. f))))

pub groups_even : (upsert : Bool) → Ends all false (groups upsert)
unfolding groups
groups_even upsert =
    opened _ _ open_curly_opens (λ _. then_closes _ _ (λ r left f. turned all begins_group (group upsert) (group_even upsert) (length left) [] r left f)
    (λ _. closed _ _ close_curly_shuts (λ _ _ _ f. f)))

-- The words of statements are words.
use Rattle.std.proofs.Common.{◌≡◌, ℕ, Bool, true, false, List, [], ◌∷◌, ◌++◌, Option, Some, None, refl, arith}
use Rattle.std.specs.Prelude.{codes, flat_map}
use Rattle.std.specs.List.{AllByRecursion}
use Rattle.dg_values.specs.declared.kind.Kind.{Kind}
use Rattle.dg_values.specs.declared.kind.Kind.TheVariants as kinds
use Rattle.dg_text.specs.Forms.{name_more}
use Rattle.dg_text.specs.Words.{is_whole_name}
use Rattle.dg_text.specs.Written.{Word, IsWord}
use Rattle.dg_text.proofs.NodeSpelling.{nodes_read_back}
use Rattle.dg_text.proofs.NameSpelling.{names_read_back}
use Rattle.dg_text.proofs.Quotes.{quotes_are_words}
use Rattle.dg_text.specs.Spelling.{iri_word, mark_word, caret_word}
use Rattle.dg_nquad.specs.declared.block.Block.{Block}
use Rattle.dg_nquad.specs.declared.mutation.Node.{Node}
use Rattle.dg_nquad.specs.declared.mutation.Node.TheVariants as nodes
use Rattle.dg_nquad.specs.declared.mutation.Object.{Object}
use Rattle.dg_nquad.specs.declared.mutation.Object.TheVariants as objects
use Rattle.dg_nquad.specs.declared.mutation.Statement.{Statement}
use Rattle.dg_nquad.specs.Readable.{NodeStands, ObjectStands, Stands, StandsAlone}
use Rattle.dg_nquad.specs.Texts.{variable_words, node_words, type_of_kind, tag_words, object_words, statement_words, statements_words, group_name, alone_words, groups_words}

abbrev AreWords : List Word → Type 0
AreWords ws = AllByRecursion IsWord ws

pub both : (ws more : List Word) → AreWords ws → AreWords more → AreWords (ws ++ more)
both [] more a b = b
both (w ∷ ws) more a b = (a.0, both ws more a.1 b)

-- ---- single words

uid_whole : is_whole_name (codes "uid") ≡ true
unfolding name_more
uid_whole = refl

val_whole : is_whole_name (codes "val") ≡ true
unfolding name_more
val_whole = refl

group_whole : (delete : Bool) → is_whole_name (group_name delete) ≡ true
unfolding name_more
group_whole true = refl
group_whole false = refl

open_round_is : IsWord (mark_word 40)
open_round_is = record { form = record { alone = refl; is = refl }; short = refl }

close_round_is : IsWord (mark_word 41)
close_round_is = record { form = record { alone = refl; is = refl }; short = refl }

star_is : IsWord (mark_word 42)
star_is = record { form = record { alone = refl; is = refl }; short = refl }

dot_is : IsWord (mark_word 46)
dot_is = record { form = record { alone = refl; is = refl }; short = refl }

open_curly_is : IsWord (mark_word 123)
open_curly_is = record { form = record { alone = refl; is = refl }; short = refl }

close_curly_is : IsWord (mark_word 125)
close_curly_is = record { form = record { alone = refl; is = refl }; short = refl }

caret_is : IsWord caret_word
caret_is = record { form = refl; short = refl }

type_is : (kind : Kind) → IsWord (iri_word (type_of_kind kind))
type_is kinds.Default = record { form = record { between = codes "xs:default"; some = record { some = omega arith; each = refl }; is = refl }; short = refl }
type_is kinds.Int = record { form = record { between = codes "xs:int"; some = record { some = omega arith; each = refl }; is = refl }; short = refl }
type_is kinds.Text = record { form = record { between = codes "xs:string"; some = record { some = omega arith; each = refl }; is = refl }; short = refl }
type_is kinds.Bool = record { form = record { between = codes "xs:boolean"; some = record { some = omega arith; each = refl }; is = refl }; short = refl }
type_is kinds.Time = record { form = record { between = codes "xs:dateTime"; some = record { some = omega arith; each = refl }; is = refl }; short = refl }
type_is kinds.Uid = record { form = record { between = codes "xs:uid"; some = record { some = omega arith; each = refl }; is = refl }; short = refl }

-- ---- statements

variable_are : (word name : List ℕ) → is_whole_name word ≡ true → is_whole_name name ≡ true → AreWords (variable_words word name)
variable_are word name w n = ((names_read_back word w).plain, (open_round_is, ((names_read_back name n).plain, (close_round_is, tt))))

node_are : (block : Block) (n : Node) → NodeStands block n → AreWords (node_words n)
node_are block (nodes.Uid n) q = ((nodes_read_back n q.0 q.1).iri, tt)
node_are block (nodes.Blank name) q = (q.1, tt)
node_are block (nodes.Var name) q = variable_are (codes "uid") name uid_whole q.1

tag_are : (tag : Option Kind) → AreWords (tag_words tag)
tag_are None = tt
tag_are (Some kind) = (caret_is, (type_is kind, tt))

object_are : (block : Block) (o : Object) → ObjectStands block o → AreWords (object_words o)
object_are block (objects.Node n) q = node_are block n q
object_are block (objects.Literal text tag) q = (quotes_are_words text, tag_are tag)
object_are block objects.Star q = (star_is, tt)
object_are block (objects.Val name) q = variable_are (codes "val") name val_whole q.1

pub statement_are : (block : Block) (s : Statement) → Stands block s → AreWords (statement_words s)
statement_are block s q =
    both (node_words s.s) (iri_word s.p ∷ (object_words s.o ++ mark_word 46 ∷ [])) (node_are block s.s q.subject)
    ((names_read_back s.p q.predicate).iri, both (object_words s.o) (mark_word 46 ∷ []) (object_are block s.o q.object) (dot_is, tt))

pub statements_are : (block : Block) (all : List Statement) → AllByRecursion (Stands block) all → AreWords (statements_words all)
statements_are block [] a = tt
statements_are block (s ∷ all) a = both (statement_words s) (statements_words all) (statement_are block s a.0) (statements_are block all a.1)

-- ---- groups

alone_are : (upsert : Bool) (s : Statement) → StandsAlone upsert s → AreWords (alone_words s)
alone_are upsert s q = (
  (names_read_back (group_name s.delete) (group_whole s.delete)).plain,
  (
    open_curly_is,
    both (statement_words s ++ []) (mark_word 125 ∷ []) (both (statement_words s) [] (statement_are (record { delete = s.delete; upsert = upsert }) s q) tt) (close_curly_is, tt),
  ),
)

all_are : (upsert : Bool) (all : List Statement) → AllByRecursion (StandsAlone upsert) all → AreWords (flat_map alone_words all)
all_are upsert [] a = tt
all_are upsert (s ∷ all) a = both (alone_words s) (flat_map alone_words all) (alone_are upsert s a.0) (all_are upsert all a.1)

pub groups_are : (upsert : Bool) (all : List Statement) → AllByRecursion (StandsAlone upsert) all → AreWords (groups_words all)
groups_are upsert all a = (open_curly_is, both (flat_map alone_words all) (mark_word 125 ∷ []) (all_are upsert all a) (close_curly_is, tt))

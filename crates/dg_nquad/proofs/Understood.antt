-- Tokens that say the words of a statement are read as it.
use Rattle.std.proofs.Common.{◌≡◌, ℕ, Bool, true, false, ◌&&◌, List, [], ◌∷◌, ◌++◌, Some, None, Ok, refl, sym, ap, ◌∙◌}
use Rattle.std.specs.Prelude.{map, codes, Option, IfSome}
use Rattle.std.specs.Option.{option_map, option_and_then}
use Rattle.std.specs.Str.{bytes_eq}
use Rattle.dg_values.specs.declared.kind.Kind.{Kind}
use Rattle.dg_text.specs.Marks.{star, dot}
use Rattle.dg_text.specs.Reading.{Read, meant, next, one_as, optional, skip}
use Rattle.dg_text.specs.Said.{quoted_meant}
use Rattle.dg_text.specs.Tokens.{Tok, is_punct, is_word, is_quoted, is_caret}
use Rattle.dg_text.specs.Words.{is_whole_name, predicate_meant}
use Rattle.dg_text.specs.declared.token.TokenKind.{TokenKind}
use Rattle.dg_text.proofs.NodeSpelling.{nodes_read_back}
use Rattle.dg_text.proofs.NameSpelling.{iris_say_their_text, names_read_back}
use Rattle.dg_text.proofs.Quotes.{quotes_mean_texts}
use Rattle.dg_text.specs.Written.{Word, word_said, tok_said}
use Rattle.dg_text.specs.Spelling.{iri_uid_word, iri_word, blank_word, mark_word, caret_word}
use Rattle.dg_text.specs.Quoting.{quoted_word}
use Rattle.dg_nquad.specs.declared.block.Block.{Block}
use Rattle.dg_nquad.specs.declared.mutation.Node.{Node}
use Rattle.dg_nquad.specs.declared.mutation.Node.TheVariants as nodes
use Rattle.dg_nquad.specs.declared.mutation.Object.{Object}
use Rattle.dg_nquad.specs.declared.mutation.Object.TheVariants as objects
use Rattle.dg_nquad.specs.declared.mutation.Statement.{Statement}
use Rattle.dg_nquad.specs.Grammar.{variable, uid_variable, node, type_tag, literal, val_variable, all_objects, node_object, object, statement, begins_statement, is_label}
use Rattle.dg_nquad.specs.Readable.{NodeStands, IsTyped, ObjectStands, Stands}
use Rattle.dg_nquad.specs.Texts.{variable_words, node_words, type_of_kind, tag_words, object_words, statement_words}
use Rattle.dg_nquad.specs.Words.{node_meant, kind_meant, kind_of_type, type_name}

-- ---- tokens that say words

-- the first of places, and those behind it
abbrev first_place : List ℕ → ℕ
first_place [] = 0
first_place (start ∷ rest) = start

abbrev behind : List ℕ → List ℕ
behind [] = []
behind (start ∷ rest) = rest

-- a token that says a word
abbrev tok_at : List ℕ → Word → Tok
tok_at starts w = record { kind = (word_said w).0; text = (word_said w).1; start = first_place starts }

-- tokens that say these words, at places, before others
abbrev pub spread : List ℕ → List Word → List Tok → List Tok
spread starts [] rest = rest
spread starts (w ∷ ws) rest = tok_at starts w ∷ spread (behind starts) ws rest

abbrev Said : Type 0
Said = TokenKind × List ℕ

abbrev first_or : Said → List Said → Said
first_or d [] = d
first_or d (s ∷ more) = s

abbrev more_of : List Said → List Said
more_of [] = []
more_of (s ∷ more) = more

pub spread_is : (ts : List Tok) (ws : List Word) (rest : List Tok) → map tok_said ts ≡ map word_said ws → ts ++ rest ≡ spread (map (λ t. t.start) ts) ws rest
spread_is [] [] rest e = refl
spread_is [] (w ∷ ws) rest e = absurd (cc)
spread_is (t ∷ ts) [] rest e = absurd (cc)
spread_is (t ∷ ts) (w ∷ ws) rest e =
    let one : tok_said t ≡ word_said w = ap (first_or (tok_said t)) e in
    let others = spread_is ts ws rest (ap more_of e) in
    λ i. record { kind = (one i).0; text = (one i).1; start = t.start } ∷ others i

-- x was read, and what is left says more
pub record Reads {A : Type 0} (read : Read (List Tok) A) (x : A) (more : List Word) (rest : List Tok) : Type 0 where
  pub after : List ℕ
  pub is : read ≡ Ok (x, spread after more rest)

-- what is read of one token
one_read : {A : Type 0} (meaning : Tok → Option A) (t : Tok) (left : List Tok) (x : A) → meaning t ≡ Some x → one_as meaning (t ∷ left) ≡ Ok (x, left)
one_read meaning t left x e = ap (λ o. meant o (t ∷ left) left) e

-- ---- nodes

variable_read : (word name : List ℕ) (starts : List ℕ) (more : List Word) (rest : List Tok) → bytes_eq word word ≡ true → Reads (variable word true (spread starts (variable_words word name ++ more) rest)) name more rest
unfolding variable
variable_read word name starts more rest same = record { after = behind (behind (behind (behind starts))); is = rw same refl }

uid_variable_read : (upsert delete : Bool) (name : List ℕ) (starts : List ℕ) (more : List Word) (rest : List Tok) → upsert ≡ true → Reads (uid_variable (record { delete = delete; upsert = upsert }) (spread starts (variable_words (codes "uid") name ++ more) rest)) (nodes.Var name) more rest
unfolding uid_variable
uid_variable_read upsert delete name starts more rest e =
    let read = variable_read (codes "uid") name starts more rest refl in
    record { after = read.after; is = rw (e, read.is) refl }

val_variable_read : (upsert delete : Bool) (name : List ℕ) (starts : List ℕ) (more : List Word) (rest : List Tok) → upsert ≡ true → Reads (val_variable (record { delete = delete; upsert = upsert }) (spread starts (variable_words (codes "val") name ++ more) rest)) (objects.Val name) more rest
unfolding val_variable
val_variable_read upsert delete name starts more rest e =
    let read = variable_read (codes "val") name starts more rest refl in
    record { after = read.after; is = rw (e, read.is) refl }

-- a node that begins with no word is one token
node_is : (block : Block) (left : List Tok) → next (is_word (codes "uid")) left ≡ false → node block left ≡ one_as (node_meant block.delete) left
unfolding node
node_is block left e = rw e refl

variable_is : (block : Block) (left : List Tok) → next (is_word (codes "uid")) left ≡ true → node block left ≡ uid_variable block left
unfolding node
variable_is block left e = rw e refl

pub node_read : (block : Block) (n : Node) (starts : List ℕ) (more : List Word) (rest : List Tok) → NodeStands block n → Reads (node block (spread starts (node_words n ++ more) rest)) n more rest
node_read block (nodes.Uid n) starts more rest q =
    let t : Tok = tok_at starts (iri_uid_word n) in
    let left : List Tok = spread (behind starts) more rest in
    let named : node_meant block.delete t ≡ Some (nodes.Uid n) = ap (option_map nodes.Uid) ((nodes_read_back n q.0 q.1).iri_back t refl) in
    record { after = behind starts; is = node_is block (t ∷ left) refl ∙ one_read (node_meant block.delete) t left (nodes.Uid n) named }
node_read block (nodes.Blank name) starts more rest q =
    let t : Tok = tok_at starts (blank_word name) in
    let left : List Tok = spread (behind starts) more rest in
    let named : node_meant block.delete t ≡ Some (nodes.Blank name) = rw q.0 refl in
    record { after = behind starts; is = node_is block (t ∷ left) refl ∙ one_read (node_meant block.delete) t left (nodes.Blank name) named }
node_read block (nodes.Var name) starts more rest q =
    let read = uid_variable_read block.upsert block.delete name starts more rest q.0 in
    record { after = read.after; is = variable_is block (spread starts (variable_words (codes "uid") name ++ more) rest) refl ∙ read.is }

-- a statement begins with a node
pub node_begins : (n : Node) (starts : List ℕ) (more : List Word) (rest : List Tok) → begins_statement (spread starts (node_words n ++ more) rest) ≡ true
node_begins (nodes.Uid n) starts more rest = refl
node_begins (nodes.Blank name) starts more rest = refl
node_begins (nodes.Var name) starts more rest = refl

-- ---- objects

and_false : (a b : Bool) → b ≡ false → (a && b) ≡ false
and_false true b e = e
and_false false b e = refl

node_object_is : (block : Block) (n : Node) (left after : List Tok) → node block left ≡ Ok (n, after) → node_object block left ≡ Ok (objects.Node n, after)
unfolding node_object
node_object_is block n left after e = rw e refl

object_is : (block : Block) (left : List Tok) → next is_quoted left ≡ false → next (is_word (codes "val")) left ≡ false → next (is_punct star) left ≡ false → object block left ≡ node_object block left
unfolding object
object_is block left quoted word marked =
    let none : (block.delete && next (is_punct star) left) ≡ false = and_false block.delete (next (is_punct star) left) marked in
    rw (quoted, word, none) refl

node_object_read : (block : Block) (n : Node) (starts : List ℕ) (more : List Word) (rest : List Tok)
    → (let left : List Tok = spread starts (node_words n ++ more) rest in object block left ≡ node_object block left)
    → NodeStands block n → Reads (object block (spread starts (node_words n ++ more) rest)) (objects.Node n) more rest
node_object_read block n starts more rest is q =
    let read = node_read block n starts more rest q in
    record { after = read.after; is = is ∙ node_object_is block n (spread starts (node_words n ++ more) rest) (spread read.after more rest) read.is }

-- the kind that is read of its type
kind_read : (starts : List ℕ) (kind : Kind) → IsTyped kind → kind_meant (tok_at starts (iri_word (type_of_kind kind))) ≡ Some kind
kind_read starts kind typed = ap (λ (name : List ℕ). option_and_then kind_of_type (type_name name)) (ap (λ (s : Said). s.1) (iris_say_their_text (type_of_kind kind))) ∙ typed

tag_is : (left mid after : List Tok) (kind : Kind) → skip is_caret left ≡ Ok (tt, mid) → one_as kind_meant mid ≡ Ok (kind, after) → type_tag left ≡ Ok (Some kind, after)
unfolding type_tag
tag_is left mid after kind e f = rw (e, f) refl

literal_is : (text : List ℕ) (tag : Option Kind) (left mid after : List Tok) → one_as quoted_meant left ≡ Ok (text, mid) → optional (next is_caret) type_tag None mid ≡ Ok (tag, after) → literal left ≡ Ok (objects.Literal text tag, after)
unfolding literal
literal_is text tag left mid after e f = rw (e, f) refl

-- a dot, and more
abbrev point : List Word → List Word
point more = mark_word dot ∷ more

tag_read : (tag : Option Kind) (starts : List ℕ) (more : List Word) (rest : List Tok) → IfSome tag IsTyped → Reads (optional (next is_caret) type_tag None (spread starts (tag_words tag ++ point more) rest)) tag (point more) rest
tag_read None starts more rest typed = record { after = starts; is = refl }
tag_read (Some kind) starts more rest typed =
    let t : Tok = tok_at (behind starts) (iri_word (type_of_kind kind)) in
    let left : List Tok = spread (behind (behind starts)) (point more) rest in
    record { after = behind (behind starts); is = tag_is (tok_at starts caret_word ∷ t ∷ left) (t ∷ left) left kind refl (one_read kind_meant t left kind (kind_read (behind starts) kind typed)) }

literal_object : (block : Block) (left : List Tok) → next is_quoted left ≡ true → object block left ≡ literal left
unfolding object
literal_object block left e = rw e refl

star_read : (block : Block) (starts : List ℕ) (more : List Word) (rest : List Tok) → block.delete ≡ true → object block (spread starts (mark_word star ∷ more) rest) ≡ Ok (objects.Star, spread (behind starts) more rest)
unfolding object all_objects
star_read block starts more rest e = rw e refl

val_object : (block : Block) (left : List Tok) → next is_quoted left ≡ false → next (is_word (codes "val")) left ≡ true → object block left ≡ val_variable block left
unfolding object
val_object block left e f = rw (e, f) refl

pub object_read : (block : Block) (o : Object) (starts : List ℕ) (more : List Word) (rest : List Tok) → ObjectStands block o → Reads (object block (spread starts (object_words o ++ point more) rest)) o (point more) rest
object_read block (objects.Node (nodes.Uid n)) starts more rest q = node_object_read block (nodes.Uid n) starts (point more) rest (object_is block (spread starts (node_words (nodes.Uid n) ++ point more) rest) refl refl refl) q
object_read block (objects.Node (nodes.Blank name)) starts more rest q = node_object_read block (nodes.Blank name) starts (point more) rest (object_is block (spread starts (node_words (nodes.Blank name) ++ point more) rest) refl refl refl) q
object_read block (objects.Node (nodes.Var name)) starts more rest q = node_object_read block (nodes.Var name) starts (point more) rest (object_is block (spread starts (node_words (nodes.Var name) ++ point more) rest) refl refl refl) q
object_read block (objects.Literal text tag) starts more rest q =
    let t : Tok = tok_at starts (quoted_word text) in
    let mid : List Tok = spread (behind starts) (tag_words tag ++ point more) rest in
    let tagged = tag_read tag (behind starts) more rest q in
    let said : one_as quoted_meant (t ∷ mid) ≡ Ok (text, mid) = one_read quoted_meant t mid text (quotes_mean_texts text t refl) in
    record { after = tagged.after; is = literal_object block (t ∷ mid) refl ∙ literal_is text tag (t ∷ mid) mid (spread tagged.after (point more) rest) said tagged.is }
object_read block objects.Star starts more rest q = record { after = behind starts; is = star_read block starts (point more) rest q }
object_read block (objects.Val name) starts more rest q =
    let read = val_variable_read block.upsert block.delete name starts (point more) rest q.0 in
    record { after = read.after; is = val_object block (spread starts (variable_words (codes "val") name ++ point more) rest) refl refl ∙ read.is }

-- ---- statements

predicate_read : (starts : List ℕ) (p : List ℕ) → is_whole_name p ≡ true → predicate_meant (tok_at starts (iri_word p)) ≡ Some p
predicate_read starts p whole = (names_read_back p whole).iri_back (tok_at starts (iri_word p)) refl

statement_is : (block : Block) (before : List Statement) (s : Node) (p : List ℕ) (o : Object) (left l1 l2 l3 l4 : List Tok)
    → node block left ≡ Ok (s, l1) → one_as predicate_meant l1 ≡ Ok (p, l2) → object block l2 ≡ Ok (o, l3)
    → optional (next is_label) (skip is_label) tt l3 ≡ Ok (tt, l3) → skip (is_punct dot) l3 ≡ Ok (tt, l4)
    → statement block before left ≡ Ok (before ++ record { delete = block.delete; s = s; p = p; o = o } ∷ [], l4)
unfolding statement
statement_is block before s p o left l1 l2 l3 l4 a b c d e = rw (a, b, c, d, e) refl

spread_read : (block : Block) (before : List Statement) (s : Statement) (starts : List ℕ) (rest : List Tok) → Stands block s → statement block before (spread starts (statement_words s) rest) ≡ Ok (before ++ s ∷ [], rest)
spread_read block before s starts rest q =
    let words : List Word = iri_word s.p ∷ (object_words s.o ++ point []) in
    let n = node_read block s.s starts words rest q.subject in
    let t : Tok = tok_at n.after (iri_word s.p) in
    let mid : List Tok = spread (behind n.after) (object_words s.o ++ point []) rest in
    let o = object_read block s.o (behind n.after) [] rest q.object in
    let same : record { delete = block.delete; s = s.s; p = s.p; o = s.o } ≡ s = (let back = sym q.direction in λ i. record { delete = back i; s = s.s; p = s.p; o = s.o }) in
    statement_is block before s.s s.p s.o (spread starts (statement_words s) rest) (t ∷ mid) mid (spread o.after (point []) rest) rest
    n.is (one_read predicate_meant t mid s.p (predicate_read n.after s.p q.predicate)) o.is refl refl
    ∙ ap (λ (x : Statement). Ok (before ++ x ∷ [], rest)) same

-- tokens that say the words of a statement are read as it
pub statement_read : (block : Block) (s : Statement) → Stands block s → (before : List Statement) (ts rest : List Tok) → map tok_said ts ≡ map word_said (statement_words s) → statement block before (ts ++ rest) ≡ Ok (before ++ s ∷ [], rest)
statement_read block s q before ts rest e = ap (statement block before) (spread_is ts (statement_words s) rest e) ∙ spread_read block before s (map (λ t. t.start) ts) rest q

-- and begin one
pub statement_begins : (s : Statement) (ts rest : List Tok) → map tok_said ts ≡ map word_said (statement_words s) → begins_statement (ts ++ rest) ≡ true
statement_begins s ts rest e = ap begins_statement (spread_is ts (statement_words s) rest e) ∙ node_begins s.s (map (λ t. t.start) ts) (iri_word s.p ∷ (object_words s.o ++ point [])) rest

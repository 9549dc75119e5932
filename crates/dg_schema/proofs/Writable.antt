-- What is read can be written.
use Rattle.std.proofs.Common.{◌≡◌, ℕ, zero, suc, ◌-◌, Bool, true, false, ◌&&◌, ◌||◌, ◌==◌, not, cond, List, [], ◌∷◌, ◌++◌, Option, Some, None, Ok, Err, length, refl, ap, sym, subst}
use Rattle.std.specs.Prelude.{map, Result}
use Rattle.std.specs.List.{AllByRecursion, list_all}
use Rattle.dg_values.specs.declared.kind.Kind.{Kind}
use Rattle.dg_values.specs.declared.kind.Kind.TheVariants as kinds
use Rattle.dg_values.specs.declared.kind.Tokenizer.{Tokenizer}
use Rattle.dg_text.specs.declared.token.Token.{Token}
use Rattle.dg_text.specs.Reading.{Read, Reader, ◌>>=◌, ◌>>◌, and_then, give, here, refuse_at, choose, optional, turns, repeated, next, skip, one_as, meant}
use Rattle.dg_text.specs.Tokens.{Tok, toks_of, is_name, is_iri, is_at, is_punct}
use Rattle.dg_text.specs.Lexing.{front}
use Rattle.dg_schema.specs.declared.definition.PredDef.{PredDef}
use Rattle.dg_schema.specs.declared.statement.Shape.{Shape}
use Rattle.dg_schema.specs.declared.statement.Marks.{Marks}
use Rattle.dg_schema.specs.declared.statement.Statement.{Statement}
use Rattle.dg_schema.specs.declared.words.Directive.{Directive}
use Rattle.dg_schema.specs.declared.words.Directive.TheVariants as directives
use Rattle.dg_schema.specs.Definitions.{AreDistinct, is_declared, is_named, replaced, with_definition, with_definitions}
use Rattle.dg_text.specs.Words.{is_whole_name, is_reserved, predicate_meant}
use Rattle.dg_schema.specs.Words.{kind_meant, tokenizer_meant, directive_meant, fits_kind, is_uid}
use Rattle.dg_text.specs.Marks.{colon, comma, dot, open_round, close_round, open_square, close_square}
use Rattle.dg_schema.specs.Grammar.{scalar, list_type, type_of, comma_tokenizer, tokenizers as tokenizer_list, unmarked, index, after_word, directive, distinct, is_indexable, stated, is_allowed, index_of, define, statement, begins_statement, statements}
use Rattle.dg_schema.specs.Readable.{IsReadable, AreReadable}
use Rattle.dg_schema.proofs.Names.{distinct_pushed}
use Rattle.dg_schema.proofs.Understood.{not_none}
use Rattle.dg_schema.proofs.WholeNames.{IsWhole, front_whole}
use Rattle.dg_text.specs.Places.{offset_of}
use Rattle.dg_schema.specs.Whole.{schema, from_front, outcome, line_at}

-- each Name among tokens is whole
abbrev pub AreWhole : List Tok → Type 0
AreWhole ts = AllByRecursion IsWhole ts

-- Of tokens whose Names are whole it reads what has the property, and leaves such.
abbrev pub Makes : {A : Type 0} → (A → Type 0) → Reader (List Tok) A → Type 0
Makes {A = A} Q r = (left : List Tok) (x : A) (after : List Tok) → AreWhole left → r left ≡ Ok (x, after) → Q x × AreWhole after

-- whatever it is
abbrev Any : {A : Type 0} → A → Type 0
Any x = Unit {0}

abbrev read_or : {A : Type 0} → A × List Tok → Read (List Tok) A → A × List Tok
read_or d (Ok p) = p
read_or d (Err place) = d

pair_is : {A : Type 0} (p q : A × List Tok) → ◌≡◌ {A = Read (List Tok) A} (Ok p) (Ok q) → p ≡ q
pair_is p q e = ap (read_or p) e

given : {A : Type 0} (Q : A → Type 0) (x y : A) (left after : List Tok) → Q x → AreWhole left → ◌≡◌ {A = Read (List Tok) A} (Ok (x, left)) (Ok (y, after)) → Q y × AreWhole after
given {A = A} Q x y left after q a e =
    let same = pair_is (x, left) (y, after) e in
    (subst Q (ap (λ (p : A × List Tok). p.0) same) q, subst AreWhole (ap (λ (p : A × List Tok). p.1) same) a)

makes_bind : {A B : Type 0} (Q : A → Type 0) (R : B → Type 0) (r : Reader (List Tok) A) (m : A → Reader (List Tok) B) → Makes Q r → ((x : A) → Q x → Makes R (m x)) → Makes R (r >>= m)
makes_bind {A = A} {B = B} Q R r m g h left y after a e = by (r left) refl e
  where
    by : (v : Read (List Tok) A) → r left ≡ v → and_then v m ≡ Ok (y, after) → R y × AreWhole after
    by (Ok p) f e = let q = g left p.0 p.1 a f in h p.0 q.0 p.1 y after q.1 e
    by (Err place) f e = absurd (cc)

makes_then : {A B : Type 0} (Q : A → Type 0) (R : B → Type 0) (r : Reader (List Tok) A) (s : Reader (List Tok) B) → Makes Q r → Makes R s → Makes R (r >> s)
makes_then Q R r s g h = makes_bind Q R r (λ x. s) g (λ x q. h)

makes_give : {A : Type 0} (Q : A → Type 0) (x : A) → Q x → Makes Q (give x)
makes_give Q x q left y after a e = given Q x y left after q a e

makes_here : Makes Any here
makes_here left y after a e = given Any (length left) y left after tt a e

makes_refuse : (place : ℕ) (test : Bool) → Makes (λ u. test ≡ false) (refuse_at place test)
makes_refuse place true left y after a e = absurd (cc)
makes_refuse place false left y after a e = given (λ u. false ≡ false) tt y left after refl a e

makes_skip : (is : Tok → Bool) → Makes Any (skip is)
makes_skip is [] y after a e = absurd (cc)
makes_skip is (t ∷ rest) y after a e = by (is t) e
  where
    by : (v : Bool) → ◌≡◌ {A = Read (List Tok) (Unit {0})} (cond {A = Read (List Tok) (Unit {0})} v (Ok (tt, rest)) (Err (length (t ∷ rest)))) (Ok (y, after)) → Any y × AreWhole after
    by true e = given Any tt y rest after tt a.1 e
    by false e = absurd (cc)

makes_one : {A : Type 0} (Q : A → Type 0) (meaning : Tok → Option A) → ((t : Tok) (x : A) → IsWhole t → meaning t ≡ Some x → Q x) → Makes Q (one_as meaning)
makes_one Q meaning h [] y after a e = absurd (cc)
makes_one {A = A} Q meaning h (t ∷ rest) y after a e = by (meaning t) refl e
  where
    by : (o : Option A) → meaning t ≡ o → meant o (t ∷ rest) rest ≡ Ok (y, after) → Q y × AreWhole after
    by None f e = absurd (cc)
    by (Some x) f e = given Q x y rest after (h t x a.0 f) a.1 e

makes_any : {A : Type 0} (meaning : Tok → Option A) → Makes Any (one_as meaning)
makes_any meaning = makes_one Any meaning (λ t x w e. tt)

makes_choose : {A : Type 0} (Q : A → Type 0) (begins : List Tok → Bool) (r s : Reader (List Tok) A) → Makes Q r → Makes Q s → Makes Q (choose begins r s)
makes_choose {A = A} Q begins r s g h left y after a e = by (begins left) e
  where
    by : (v : Bool) → cond v (r left) (s left) ≡ Ok (y, after) → Q y × AreWhole after
    by true e = g left y after a e
    by false e = h left y after a e

makes_turns : {A : Type 0} (Q : A → Type 0) (begins : List Tok → Bool) (part : A → Reader (List Tok) A) → ((before : A) → Q before → Makes Q (part before)) → (n : ℕ) (before : A) → Q before → Makes Q (turns n begins part before)
unfolding turns
makes_turns Q begins part g zero before q left y after a e = given Q before y left after q a e
makes_turns {A = A} Q begins part g (suc n) before q left y after a e =
    by (begins left) e (λ x p left' a' e'. makes_turns Q begins part g n x p left' y after a' e')
  where
    turn : (v : Read (List Tok) A) → part before left ≡ v → ((x : A) → Q x → (left' : List Tok) → AreWhole left' → turns n begins part x left' ≡ Ok (y, after) → Q y × AreWhole after) → and_then v (turns n begins part) ≡ Ok (y, after) → Q y × AreWhole after
    turn (Ok p) f more e = let h = g before q left p.0 p.1 a f in more p.0 h.0 p.1 h.1 e
    turn (Err place) f more e = absurd (cc)

    by : (v : Bool) → ◌≡◌ {A = Read (List Tok) A} (cond {A = Read (List Tok) A} v (and_then (part before left) (turns n begins part)) (Ok (before, left))) (Ok (y, after)) → ((x : A) → Q x → (left' : List Tok) → AreWhole left' → turns n begins part x left' ≡ Ok (y, after) → Q y × AreWhole after) → Q y × AreWhole after
    by true e more = turn (part before left) refl more e
    by false e more = given Q before y left after q a e

makes_repeated : {A : Type 0} (Q : A → Type 0) (begins : List Tok → Bool) (part : A → Reader (List Tok) A) → ((before : A) → Q before → Makes Q (part before)) → (before : A) → Q before → Makes Q (repeated begins part before)
makes_repeated Q begins part g before q left y after a e = makes_turns Q begins part g (length left) before q left y after a e

-- ---- the grammar

scalar_made : (list : Bool) → Makes Any (scalar list)
scalar_made list = makes_bind Any Any (one_as kind_meant) _ (makes_any kind_meant) (λ kind q. makes_give Any _ tt)

list_made : Makes Any list_type
unfolding list_type
list_made = makes_then Any Any (skip (is_punct open_square)) _ (makes_skip (is_punct open_square)) (makes_bind Any Any (scalar true) _ (scalar_made true) (λ shape q. makes_then Any Any (skip (is_punct close_square)) _ (makes_skip (is_punct close_square)) (makes_give Any shape tt)))

type_made : Makes Any type_of
unfolding type_of
type_made = makes_choose Any (next (is_punct open_square)) list_type (scalar false) list_made (scalar_made false)

comma_made : (before : List Tokenizer) → Makes Any (comma_tokenizer before)
unfolding comma_tokenizer
comma_made before = makes_then Any Any (skip (is_punct comma)) _ (makes_skip (is_punct comma)) (makes_bind Any Any (one_as tokenizer_meant) _ (makes_any tokenizer_meant) (λ tokenizer q. makes_give Any _ tt))

tokenizers_made : Makes Any tokenizer_list
unfolding tokenizer_list
tokenizers_made =
    makes_then Any Any (skip (is_punct open_round)) _ (makes_skip (is_punct open_round)) (makes_bind Any Any (one_as tokenizer_meant) _ (makes_any tokenizer_meant) (λ first q.
    makes_bind Any Any (repeated (next (is_punct comma)) comma_tokenizer (first ∷ [])) _ (makes_repeated Any (next (is_punct comma)) comma_tokenizer (λ before q. comma_made before) (first ∷ []) tt) (λ all q.
    makes_then Any Any (skip (is_punct close_round)) _ (makes_skip (is_punct close_round)) (makes_give Any all tt))))

listed_made : Makes Any (optional (next (is_punct open_round)) tokenizer_list [])
listed_made left y after a e = by (next (is_punct open_round) left) e
  where
    by : (v : Bool) → ◌≡◌ {A = Read (List Tok) (List Tokenizer)} (cond {A = Read (List Tok) (List Tokenizer)} v (tokenizer_list left) (Ok ([], left))) (Ok (y, after)) → Any y × AreWhole after
    by true e = tokenizers_made left y after a e
    by false e = given Any [] y left after tt a e

-- tokenizers are listed behind @index alone
abbrev ListsRight : Marks → Type 0
ListsRight marks = marks.indexed ≡ false → marks.tokens ≡ []

index_made : (marks : Marks) → Makes ListsRight (index marks)
unfolding index
index_made marks = makes_bind Any ListsRight (optional (next (is_punct open_round)) tokenizer_list []) _ listed_made (λ listed q. makes_give ListsRight _ (λ h. absurd (cc)))

word_made : (marks : Marks) (word : Directive) → ListsRight marks → Makes ListsRight (after_word marks word)
word_made marks directives.Index q = index_made marks
word_made marks directives.Reverse q = makes_give ListsRight _ q
word_made marks directives.Count q = makes_give ListsRight _ q
word_made marks directives.Upsert q = makes_give ListsRight _ q

directive_made : (marks : Marks) → ListsRight marks → Makes ListsRight (directive marks)
unfolding directive
directive_made marks q = makes_bind Any ListsRight (one_as directive_meant) _ (makes_any directive_meant) (λ word p. word_made marks word q)

predicate_whole : (t : Tok) (name : List ℕ) → IsWhole t → predicate_meant t ≡ Some name → is_whole_name name ≡ true
predicate_whole t name w e = by (is_name t) refl (is_iri t) refl (is_whole_name t.text) refl
  where
    some_is : (x y : List ℕ) → Some x ≡ Some y → x ≡ y
    some_is x y f = cc

    by : (a : Bool) → is_name t ≡ a → (b : Bool) → is_iri t ≡ b → (c : Bool) → is_whole_name t.text ≡ c → is_whole_name name ≡ true
    by true p b q c r = let same : t.text ≡ name = some_is t.text name (rw p at e) in subst (λ (n : List ℕ). is_whole_name n ≡ true) same (w p)
    by false p true q true r = let same : t.text ≡ name = some_is t.text name (rw (p, q, r) at e) in subst (λ (n : List ℕ). is_whole_name n ≡ true) same r
    by false p true q false r = absurd (let none = rw (p, q, r) at e in cc)
    by false p false q c r = absurd (let none = rw (p, q) at e in cc)

-- the name is whole, and tokenizers are listed behind @index alone
abbrev IsStated : Statement → Type 0
IsStated s = (is_whole_name s.name ≡ true) × ListsRight s.marks

-- what is read behind the directives
abbrev behind_marks : ℕ → List ℕ → Shape → Marks → Reader (List Tok) Statement
behind_marks place name shape marks = skip (is_punct dot) >> give (record { place = place; name = name; shape = shape; marks = marks })

-- what is read behind the type
abbrev behind_shape : ℕ → List ℕ → Shape → Reader (List Tok) Statement
behind_shape place name shape = repeated (next is_at) directive unmarked >>= behind_marks place name shape

-- what is read behind the name
abbrev behind_name : ℕ → List ℕ → Reader (List Tok) Statement
behind_name place name = skip (is_punct colon) >> (type_of >>= behind_shape place name)

-- what is read from the name on
abbrev from_name : ℕ → Reader (List Tok) Statement
from_name place = one_as predicate_meant >>= behind_name place

marks_made : (place : ℕ) (name : List ℕ) (shape : Shape) (marks : Marks) → is_whole_name name ≡ true → ListsRight marks → Makes IsStated (behind_marks place name shape marks)
marks_made place name shape marks named right =
    makes_then Any IsStated (skip (is_punct dot)) (give (record { place = place; name = name; shape = shape; marks = marks })) (makes_skip (is_punct dot)) (makes_give IsStated (record { place = place; name = name; shape = shape; marks = marks }) (named, right))

shape_made : (place : ℕ) (name : List ℕ) (shape : Shape) → is_whole_name name ≡ true → Makes IsStated (behind_shape place name shape)
shape_made place name shape named =
    makes_bind ListsRight IsStated (repeated (next is_at) directive unmarked) (behind_marks place name shape) (makes_repeated ListsRight (next is_at) directive directive_made unmarked (λ h. refl)) (λ marks right. marks_made place name shape marks named right)

name_made : (place : ℕ) (name : List ℕ) → is_whole_name name ≡ true → Makes IsStated (behind_name place name)
name_made place name named =
    makes_then Any IsStated (skip (is_punct colon)) (type_of >>= behind_shape place name) (makes_skip (is_punct colon)) (makes_bind Any IsStated type_of (behind_shape place name) type_made (λ shape q. shape_made place name shape named))

place_made : (place : ℕ) → Makes IsStated (from_name place)
place_made place =
    makes_bind (λ name. is_whole_name name ≡ true) IsStated (one_as predicate_meant) (behind_name place) (makes_one (λ name. is_whole_name name ≡ true) predicate_meant predicate_whole) (name_made place)

stated_made : Makes IsStated stated
unfolding stated
stated_made = makes_bind Any IsStated here from_name makes_here (λ place q. place_made place)

-- ---- what is allowed can be written

front_true : (a b : Bool) → (a && b) ≡ true → a ≡ true
front_true true b e = refl
front_true false b e = absurd (cc)

back_true : (a b : Bool) → (a && b) ≡ true → b ≡ true
back_true true b e = e
back_true false b e = absurd (cc)

not_true : (a : Bool) → not a ≡ true → a ≡ false
not_true true e = absurd (cc)
not_true false e = refl

-- the tokenizers of an index
pub record IsIndex (kind : Kind) (indexed : Bool) (tokens : List Tokenizer) : Type 0 where
  pub fitting : list_all (fits_kind kind) tokens ≡ true
  pub once : distinct tokens ≡ true
  pub some : indexed ≡ true → (length tokens == 0) ≡ false

index_written : (kind : Kind) (indexed : Bool) (listed : List Tokenizer) → (indexed ≡ false → listed ≡ []) → (not indexed || is_indexable kind listed) ≡ true → IsIndex kind indexed (index_of kind indexed listed)
unfolding distinct
index_written kind false listed q e = subst (λ (ts : List Tokenizer). IsIndex kind false ts) (sym (q refl)) (record { fitting = refl; once = refl; some = λ h. absurd (cc) })
index_written kind true (first ∷ others) q e =
    let none = not_none (length others) in
    let listed : (list_all (fits_kind kind) (first ∷ others) && distinct (first ∷ others)) ≡ true = rw none at e in
    let same : index_of kind true (first ∷ others) ≡ first ∷ others = rw none refl in
    subst (λ (ts : List Tokenizer). IsIndex kind true ts) (sym same) (record { fitting = front_true (list_all (fits_kind kind) (first ∷ others)) (distinct (first ∷ others)) listed; once = back_true (list_all (fits_kind kind) (first ∷ others)) (distinct (first ∷ others)) listed; some = λ h. none })
index_written kinds.Int true [] q e = record { fitting = refl; once = refl; some = λ h. refl }
index_written kinds.Bool true [] q e = record { fitting = refl; once = refl; some = λ h. refl }
index_written kinds.Time true [] q e = record { fitting = refl; once = refl; some = λ h. refl }
index_written kinds.Default true [] q e = absurd (cc)
index_written kinds.Text true [] q e = absurd (cc)
index_written kinds.Uid true [] q e = absurd (cc)

either : (a b : Bool) → (not a || b) ≡ true → a ≡ true → b ≡ true
either true b e h = e
either false b e h = absurd (cc)

-- what an allowed statement makes can be written, and its name is new
written : (earlier : List PredDef) (s : Statement) → IsStated s → is_allowed earlier s ≡ true → IsReadable (define s) × (is_declared earlier s.name ≡ false)
written earlier s q e =
    let indexed : Bool = not s.marks.indexed || is_indexable s.shape.kind s.marks.tokens in
    let reversed : Bool = not s.marks.reverse || is_uid s.shape.kind in
    let upserted : Bool = not s.marks.upsert || s.marks.indexed in
    let five : Bool = not (is_reserved s.name) && not (is_declared earlier s.name) && not s.marks.twice && indexed && reversed in
    let four : Bool = not (is_reserved s.name) && not (is_declared earlier s.name) && not s.marks.twice && indexed in
    let three : Bool = not (is_reserved s.name) && not (is_declared earlier s.name) && not s.marks.twice in
    let two : Bool = not (is_reserved s.name) && not (is_declared earlier s.name) in
    let f : five ≡ true = front_true five upserted e in
    let g : four ≡ true = front_true four reversed f in
    let h : three ≡ true = front_true three indexed g in
    let i : two ≡ true = front_true two (not s.marks.twice) h in
    let index = index_written s.shape.kind s.marks.indexed s.marks.tokens q.1 (back_true three indexed g) in (
      record {
        named = q.0;
        unreserved = not_true (is_reserved s.name) (front_true (not (is_reserved s.name)) (not (is_declared earlier s.name)) i);
        fitting = index.fitting;
        once = index.once;
        reversed = either s.marks.reverse (is_uid s.shape.kind) (back_true four reversed f);
        upserted = λ u. index.some (either s.marks.upsert s.marks.indexed (back_true five upserted e) u);
      },
      not_true (is_declared earlier s.name) (back_true (not (is_reserved s.name)) (not (is_declared earlier s.name)) i),
    )

-- ---- all statements

-- they can be written, and their names are distinct
abbrev AreWritten : List PredDef → Type 0
AreWritten definitions = AreReadable definitions × AreDistinct definitions

all_pushed : (definitions : List PredDef) (d : PredDef) → AreReadable definitions → IsReadable d → AreReadable (definitions ++ d ∷ [])
all_pushed [] d a r = (r, tt)
all_pushed (x ∷ definitions) d a r = (a.0, all_pushed definitions d a.1 r)

statement_made : (earlier : List PredDef) → AreWritten earlier → Makes AreWritten (statement earlier)
unfolding statement
statement_made earlier q =
    makes_bind IsStated AreWritten stated _ stated_made (λ s right.
    makes_bind (λ u. not (is_allowed earlier s) ≡ false) AreWritten (refuse_at s.place (not (is_allowed earlier s))) _ (makes_refuse s.place (not (is_allowed earlier s))) (λ u free.
    let w = written earlier s right (allowed (is_allowed earlier s) free) in
    makes_give AreWritten (earlier ++ define s ∷ []) (all_pushed earlier (define s) q.0 w.0, distinct_pushed earlier (define s) q.1 w.1)))
  where
    allowed : (a : Bool) → not a ≡ false → a ≡ true
    allowed true e = refl
    allowed false e = absurd (cc)

pub statements_made : Makes AreWritten statements
statements_made = makes_repeated AreWritten begins_statement statement statement_made [] (tt, tt)

-- the definitions of a text can be written, and their names are distinct
pub text_written : (text : List ℕ) (definitions : List PredDef) → schema text ≡ Ok definitions → AreWritten definitions
text_written text definitions e = by (front text) refl e
  where
    ok_is : (x y : List PredDef) → ◌≡◌ {A = Result (List PredDef) ℕ} (Ok x) (Ok y) → x ≡ y
    ok_is x y f = cc

    read : (found : List Token) (end : ℕ) (v : Read (List Tok) (List PredDef)) → statements (toks_of text found) ≡ v → AreWhole (toks_of text found) → outcome text (toks_of text found) end v ≡ Ok definitions → AreWritten definitions
    read found end (Err place) s w f = absurd (cc)
    read found end (Ok x) s w f = whole (length x.1 == 0 && end == length text) f
      where
        whole : (b : Bool) → cond {A = Result (List PredDef) ℕ} b (Ok x.0) (Err (line_at text (offset_of (toks_of text found) end (length x.1)))) ≡ Ok definitions → AreWritten definitions
        whole true g = let made = statements_made (toks_of text found) x.0 x.1 w s in subst AreWritten (ok_is x.0 definitions g) made.0
        whole false g = absurd (cc)

    by : (v : Read (List ℕ) (List Token)) → front text ≡ v → from_front text v ≡ Ok definitions → AreWritten definitions
    by (Err place) f g = absurd (cc)
    by (Ok x) f g = read x.0 (length text - length x.1) (statements (toks_of text x.0)) refl (front_whole text x.0 x.1 f) g

-- ---- joined

replaced_readable : (newer : PredDef) (definitions : List PredDef) → IsReadable newer → AreReadable definitions → AreReadable (map (replaced newer) definitions)
replaced_readable newer [] r a = tt
replaced_readable newer (d ∷ definitions) r a = (by (is_named newer.name d), replaced_readable newer definitions r a.1)
  where
    by : (b : Bool) → IsReadable (cond b newer d)
    by true = r
    by false = a.0

pub joined_readable : (older newer : List PredDef) → AreReadable older → AreReadable newer → AreReadable (with_definitions older newer)
joined_readable older [] a b = a
joined_readable older (d ∷ newer) a b = joined_readable (with_definition older d) newer (by (is_declared older d.name)) b.1
  where
    by : (v : Bool) → AreReadable (cond v (map (replaced d) older) (older ++ d ∷ []))
    by true = replaced_readable d older b.0 a
    by false = all_pushed older d a b.0

-- What the lines of definitions say is read as these definitions.
use Rattle.std.proofs.Common.{◌≡◌, ℕ, suc, ◌-◌, ◌≤◌, ◌<◌, Bool, true, false, ◌||◌, ◌==◌, not, codes, List, [], ◌∷◌, ◌++◌, Some, Ok, length, refl, ap, sym, subst, ◌∙◌, append_assoc, arith}
use Rattle.std.specs.Prelude.{map}
use Rattle.std.specs.List.{AllByRecursion, list_all}
use Rattle.std.proofs.lemmas.List.{append-nil}
use Rattle.dg_values.specs.declared.kind.Kind.{Kind}
use Rattle.dg_values.specs.declared.kind.Kind.TheVariants as kinds
use Rattle.dg_values.specs.declared.kind.Tokenizer.{Tokenizer}
use Rattle.dg_values.specs.declared.kind.Tokenizer.TheVariants as tokenizers
use Rattle.dg_text.specs.declared.token.TokenKind.TheVariants as tokens
use Rattle.dg_text.specs.Reading.{Read, Reader, turns, repeated, next}
use Rattle.dg_text.specs.Tokens.{Tok, is_at, is_punct}
use Rattle.dg_text.proofs.Turns.{stops}
use Rattle.dg_schema.specs.declared.definition.PredDef.{PredDef}
use Rattle.dg_schema.specs.declared.statement.Marks.{Marks}
use Rattle.dg_schema.specs.declared.statement.Statement.{Statement}
use Rattle.dg_schema.specs.Definitions.{AreDistinct, is_declared, is_named}
use Rattle.dg_schema.specs.Texts.{kind_word, tokenizer_word}
use Rattle.dg_schema.specs.Words.{kind_of_word, tokenizer_of_word, fits_kind, is_uid}
use Rattle.dg_text.specs.Marks.{comma}
use Rattle.dg_schema.specs.Grammar.{comma_tokenizer, tokenizers as tokenizer_list, index, index_of, unmarked, directive, type_of, list_type, stated, define, is_allowed, is_indexable, distinct, statement, begins_statement}
use Rattle.dg_schema.specs.Readable.{IsReadable, AreReadable}
use Rattle.dg_schema.proofs.Names.{same_text-turned}
use Rattle.dg_schema.proofs.Saying.{Say, say_of, turn, type_says, others_say, index_says, flag_says, flags_say, line_says, lines_say}

-- the first of places, and those behind it
abbrev first_place : List ℕ → ℕ
first_place [] = 0
first_place (start ∷ rest) = start

abbrev behind : List ℕ → List ℕ
behind [] = []
behind (start ∷ rest) = rest

-- tokens that say this, at places
abbrev pub spread : List ℕ → List Say → List Tok
spread starts [] = []
spread starts (say ∷ more) = record { kind = say.0; text = say.1; start = first_place starts } ∷ spread (behind starts) more

pub spread_is : (ts : List Tok) → ts ≡ spread (map (λ t. t.start) ts) (map say_of ts)
spread_is [] = refl
spread_is (t ∷ ts) = λ i. t ∷ spread_is ts i

pub length_spread : (starts : List ℕ) (says : List Say) → length (spread starts says) ≡ length says
length_spread starts [] = refl
length_spread starts (say ∷ more) = ap suc (length_spread (behind starts) more)

-- x was read, and what is left says more
pub record Reads {A : Type 0} (read : Read (List Tok) A) (x : A) (more : List Say) : Type 0 where
  pub after : List ℕ
  pub is : read ≡ Ok (x, spread after more)

as_read : {A : Type 0} (one other : Read (List Tok) A) (x : A) (more : List Say) → one ≡ other → Reads other x more → Reads one x more
as_read one other x more e r = record { after = r.after; is = e ∙ r.is }

-- where no part begins, none is read
pub no_turn : {A : Type 0} (begins : List Tok → Bool) (part : A → Reader (List Tok) A) (n : ℕ) (before : A) (left : List Tok) → begins left ≡ false → turns n begins part before left ≡ Ok (before, left)
no_turn begins part n before left e = stops begins part n before left (turns n begins part before left) e refl

-- one part is read where there is one
pub one_turn : {A : Type 0} (begins : List Tok → Bool) (part : A → Reader (List Tok) A) (n : ℕ) (before x : A) (left after : List Tok) → 0 < n → begins left ≡ true → part before left ≡ Ok (x, after) → turns n begins part before left ≡ turns (n - 1) begins part x after
one_turn begins part n before x left after some b e =
    let one : n ≡ suc (n - 1) = omega arith in
    ap (λ (k : ℕ). turns k begins part before left) one ∙ turn begins part (n - 1) before x left after b e

-- ---- words

kind_read : (kind : Kind) → kind_of_word (kind_word kind) ≡ Some kind
kind_read kinds.Default = refl
kind_read kinds.Int = refl
kind_read kinds.Text = refl
kind_read kinds.Bool = refl
kind_read kinds.Time = refl
kind_read kinds.Uid = refl

tokenizer_read : (tokenizer : Tokenizer) → tokenizer_of_word (tokenizer_word tokenizer) ≡ Some tokenizer
tokenizer_read tokenizers.Exact = refl
tokenizer_read tokenizers.Hash = refl
tokenizer_read tokenizers.Term = refl
tokenizer_read tokenizers.Trigram = refl
tokenizer_read tokenizers.Int = refl
tokenizer_read tokenizers.Bool = refl
tokenizer_read tokenizers.Year = refl
tokenizer_read tokenizers.Month = refl
tokenizer_read tokenizers.Day = refl
tokenizer_read tokenizers.Hour = refl

type_read : (starts : List ℕ) (kind : Kind) (list : Bool) (more : List Say) → Reads (type_of (spread starts (type_says kind list more))) (record { kind = kind; list = list }) more
unfolding type_of list_type
type_read starts kind true more = record { after = behind (behind (behind starts)); is = rw (kind_read kind) refl }
type_read starts kind false more = record { after = behind starts; is = rw (kind_read kind) refl }

-- ---- tokenizers

comma_read : (starts : List ℕ) (before : List Tokenizer) (tokenizer : Tokenizer) (more : List Say) → comma_tokenizer before (spread starts ((tokens.Punct 44, codes ",") ∷ (tokens.Name, tokenizer_word tokenizer) ∷ more)) ≡ Ok (before ++ tokenizer ∷ [], spread (behind (behind starts)) more)
unfolding comma_tokenizer
comma_read starts before tokenizer more = rw (tokenizer_read tokenizer) refl

others_read : (n : ℕ) (starts : List ℕ) (before others : List Tokenizer) (more : List Say) → length (others_say others ((tokens.Punct 41, codes ")") ∷ more)) ≤ n → Reads (turns n (next (is_punct comma)) comma_tokenizer before (spread starts (others_say others ((tokens.Punct 41, codes ")") ∷ more)))) (before ++ others) ((tokens.Punct 41, codes ")") ∷ more)
others_read n starts before [] more le = record { after = starts; is = no_turn (next (is_punct comma)) comma_tokenizer n before _ refl ∙ ap (λ (all : List Tokenizer). Ok (all, spread starts ((tokens.Punct 41, codes ")") ∷ more))) (sym (append-nil before)) }
others_read n starts before (tokenizer ∷ others) more le =
    let close : List Say = (tokens.Punct 41, codes ")") ∷ more in
    let step = one_turn (next (is_punct comma)) comma_tokenizer n before (before ++ tokenizer ∷ []) _ _ (omega arith) refl (comma_read starts before tokenizer (others_say others close)) in
    let rest = others_read (n - 1) (behind (behind starts)) (before ++ tokenizer ∷ []) others more (omega arith) in
    record { after = rest.after; is = step ∙ rest.is ∙ ap (λ (all : List Tokenizer). Ok (all, spread rest.after close)) (append_assoc before (tokenizer ∷ []) others) }

listed_read : (starts : List ℕ) (first : Tokenizer) (others : List Tokenizer) (more : List Say) → Reads (tokenizer_list (spread starts ((tokens.Punct 40, codes "(") ∷ (tokens.Name, tokenizer_word first) ∷ others_say others ((tokens.Punct 41, codes ")") ∷ more)))) (first ∷ others) more
unfolding tokenizer_list
listed_read starts first others more =
    let close : List Say = (tokens.Punct 41, codes ")") ∷ more in
    let left : List Tok = spread (behind (behind starts)) (others_say others close) in
    let rest = others_read (length left) (behind (behind starts)) (first ∷ []) others more (omega (arith, length_spread (behind (behind starts)) (others_say others close))) in
    record { after = behind rest.after; is = rw (tokenizer_read first, rest.is) refl }

-- ---- directives

-- the marks of these directives, each once
abbrev marks_of : Bool → List Tokenizer → Bool → Bool → Bool → Marks
marks_of indexed listed reverse count upsert = record { indexed = indexed; tokens = listed; reverse = reverse; count = count; upsert = upsert; twice = false }

-- the point, and more
abbrev point : List Say → List Say
point more = (tokens.Punct 46, codes ".") ∷ more

reverse_read : (starts : List ℕ) (indexed : Bool) (listed : List Tokenizer) (more : List Say) → directive (marks_of indexed listed false false false) (spread starts ((tokens.At, codes "@reverse") ∷ more)) ≡ Ok (marks_of indexed listed true false false, spread (behind starts) more)
unfolding directive
reverse_read starts indexed listed more = refl

count_read : (starts : List ℕ) (indexed : Bool) (listed : List Tokenizer) (reverse : Bool) (more : List Say) → directive (marks_of indexed listed reverse false false) (spread starts ((tokens.At, codes "@count") ∷ more)) ≡ Ok (marks_of indexed listed reverse true false, spread (behind starts) more)
unfolding directive
count_read starts indexed listed reverse more = refl

upsert_read : (starts : List ℕ) (indexed : Bool) (listed : List Tokenizer) (reverse count : Bool) (more : List Say) → directive (marks_of indexed listed reverse count false) (spread starts ((tokens.At, codes "@upsert") ∷ more)) ≡ Ok (marks_of indexed listed reverse count true, spread (behind starts) more)
unfolding directive
upsert_read starts indexed listed reverse count more = refl

point_read : (n : ℕ) (starts : List ℕ) (marks : Marks) (more : List Say) → Reads (turns n (next is_at) directive marks (spread starts (point more))) marks (point more)
point_read n starts marks more = record { after = starts; is = no_turn (next is_at) directive n marks _ refl }

third_read : (n : ℕ) (starts : List ℕ) (indexed : Bool) (listed : List Tokenizer) (reverse count upsert : Bool) (more : List Say) → length (flags_say false false upsert more) ≤ n → Reads (turns n (next is_at) directive (marks_of indexed listed reverse count false) (spread starts (flags_say false false upsert more))) (marks_of indexed listed reverse count upsert) (point more)
third_read n starts indexed listed reverse count false more le = point_read n starts (marks_of indexed listed reverse count false) more
third_read n starts indexed listed reverse count true more le =
    as_read _ _ _ _ (one_turn (next is_at) directive n _ _ _ _ (omega arith) refl (upsert_read starts indexed listed reverse count (point more))) (point_read (n - 1) (behind starts) (marks_of indexed listed reverse count true) more)

second_read : (n : ℕ) (starts : List ℕ) (indexed : Bool) (listed : List Tokenizer) (reverse count upsert : Bool) (more : List Say) → length (flags_say false count upsert more) ≤ n → Reads (turns n (next is_at) directive (marks_of indexed listed reverse false false) (spread starts (flags_say false count upsert more))) (marks_of indexed listed reverse count upsert) (point more)
second_read n starts indexed listed reverse false upsert more le = third_read n starts indexed listed reverse false upsert more le
second_read n starts indexed listed reverse true upsert more le =
    as_read _ _ _ _ (one_turn (next is_at) directive n _ _ _ _ (omega arith) refl (count_read starts indexed listed reverse (flags_say false false upsert more))) (third_read (n - 1) (behind starts) indexed listed reverse true upsert more (omega arith))

flags_read : (n : ℕ) (starts : List ℕ) (indexed : Bool) (listed : List Tokenizer) (reverse count upsert : Bool) (more : List Say) → length (flags_say reverse count upsert more) ≤ n → Reads (turns n (next is_at) directive (marks_of indexed listed false false false) (spread starts (flags_say reverse count upsert more))) (marks_of indexed listed reverse count upsert) (point more)
flags_read n starts indexed listed false count upsert more le = second_read n starts indexed listed false count upsert more le
flags_read n starts indexed listed true count upsert more le =
    as_read _ _ _ _ (one_turn (next is_at) directive n _ _ _ _ (omega arith) refl (reverse_read starts indexed listed (flags_say false count upsert more))) (second_read (n - 1) (behind starts) indexed listed true count upsert more (omega arith))

index_read : (starts : List ℕ) (first : Tokenizer) (others : List Tokenizer) (more : List Say) → Reads (directive unmarked (spread starts (index_says (first ∷ others) more))) (marks_of true (first ∷ others) false false false) more
unfolding directive index
index_read starts first others more =
    let rest = listed_read (behind starts) first others more in
    record { after = rest.after; is = rw rest.is refl }

-- an index stands there
abbrev is_indexed : List Tokenizer → Bool
is_indexed [] = false
is_indexed (first ∷ others) = true

others_long : (others : List Tokenizer) (more : List Say) → length more ≤ length (others_say others more)
others_long [] more = omega arith
others_long (tokenizer ∷ others) more = let rest = others_long others more in omega arith

marks_read : (starts : List ℕ) (listed : List Tokenizer) (reverse count upsert : Bool) (more : List Say) → Reads (repeated (next is_at) directive unmarked (spread starts (index_says listed (flags_say reverse count upsert more)))) (marks_of (is_indexed listed) listed reverse count upsert) (point more)
marks_read starts [] reverse count upsert more =
    let flags : List Say = flags_say reverse count upsert more in
    flags_read (length (spread starts flags)) starts false [] reverse count upsert more (omega (arith, length_spread starts flags))
marks_read starts (first ∷ others) reverse count upsert more =
    let flags : List Say = flags_say reverse count upsert more in
    let all : List Say = index_says (first ∷ others) flags in
    let n : ℕ = length (spread starts all) in
    let many : n ≡ length all = length_spread starts all in
    let long : length ((tokens.Punct 41, codes ")") ∷ flags) ≤ length (others_say others ((tokens.Punct 41, codes ")") ∷ flags)) = others_long others ((tokens.Punct 41, codes ")") ∷ flags) in
    let read = index_read starts first others flags in
    as_read _ _ _ _ (one_turn (next is_at) directive n unmarked _ (spread starts all) _ (omega arith) refl read.is) (flags_read (n - 1) read.after true (first ∷ others) reverse count upsert more (omega arith))

-- ---- statements

pub not_none : (n : ℕ) → (suc n == 0) ≡ false
not_none n = grind arith

-- the statement that a line is
abbrev statement_of : ℕ → PredDef → Statement
statement_of place d = record { place = place; name = d.name; shape = record { kind = d.kind; list = d.list }; marks = marks_of (is_indexed d.tokens) d.tokens d.reverse d.count d.upsert }

stated_read : (starts : List ℕ) (d : PredDef) (more : List Say) → Reads (stated (spread starts (line_says d more))) (statement_of (length (spread starts (line_says d more))) d) more
unfolding stated
stated_read starts d more =
    let shape = type_read (behind (behind starts)) d.kind d.list (index_says d.tokens (flags_say d.reverse d.count d.upsert more)) in
    let marks = marks_read shape.after d.tokens d.reverse d.count d.upsert more in
    record { after = behind marks.after; is = rw (shape.is, marks.is) refl }

defined : (place : ℕ) (d : PredDef) → define (statement_of place d) ≡ d
defined place d = λ i. record { name = d.name; kind = d.kind; list = d.list; tokens = same d.tokens i; reverse = d.reverse; count = d.count; upsert = d.upsert }
  where
    same : (listed : List Tokenizer) → index_of d.kind (is_indexed listed) listed ≡ listed
    same [] = refl
    same (first ∷ others) = rw (not_none (length others)) refl

allowed : (before : List PredDef) (place : ℕ) (d : PredDef) → IsReadable d → is_declared before d.name ≡ false → is_allowed before (statement_of place d) ≡ true
allowed before place d r new = rw (r.unreserved, new, index d.tokens r.fitting r.once, reverse d.reverse r.reversed, upsert d.upsert d.tokens r.upserted) refl
  where
    index : (listed : List Tokenizer) → list_all (fits_kind d.kind) listed ≡ true → distinct listed ≡ true → (not (is_indexed listed) || is_indexable d.kind listed) ≡ true
    index [] f o = refl
    index (first ∷ others) f o = rw (not_none (length others), f, o) refl

    reverse : (b : Bool) → (b ≡ true → is_uid d.kind ≡ true) → (not b || is_uid d.kind) ≡ true
    reverse true h = h refl
    reverse false h = refl

    upsert : (b : Bool) (listed : List Tokenizer) → (b ≡ true → (length listed == 0) ≡ false) → (not b || is_indexed listed) ≡ true
    upsert true [] h = absurd (cc (h refl))
    upsert true (first ∷ others) h = refl
    upsert false listed h = refl

statement_read : (starts : List ℕ) (before : List PredDef) (d : PredDef) (more : List Say) → IsReadable d → is_declared before d.name ≡ false → Reads (statement before (spread starts (line_says d more))) (before ++ d ∷ []) more
unfolding statement
statement_read starts before d more r new =
    let s = stated_read starts d more in
    let place : ℕ = length (spread starts (line_says d more)) in
    record { after = s.after; is = rw (s.is, allowed before place d r new) (ap (λ (x : PredDef). Ok (before ++ x ∷ [], spread s.after more)) (defined place d)) }

-- ---- all lines

at_seam : (P : PredDef → Type 0) (before more : List PredDef) (d : PredDef) → AllByRecursion P (before ++ d ∷ more) → P d
at_seam P [] more d a = a.0
at_seam P (x ∷ before) more d a = at_seam P before more d a.1

new_at : (before more : List PredDef) (d : PredDef) → AreDistinct (before ++ d ∷ more) → is_declared before d.name ≡ false
new_at [] more d a = refl
new_at (x ∷ before) more d a =
    let other : is_named d.name x ≡ false = same_text-turned x.name d.name ∙ at_seam (λ other. is_named x.name other ≡ false) before more d a.0 in
    rw other (new_at before more d a.1)

says_some : (d : PredDef) (more : List Say) → length more < length (line_says d more)
says_some d more = shape d.list
  where
    flag : (b : Bool) (text : List ℕ) (more : List Say) → length more ≤ length (flag_says b text more)
    flag true text more = omega arith
    flag false text more = omega arith

    flags : length more ≤ length (flags_say d.reverse d.count d.upsert more)
    flags =
        let a = flag d.upsert (codes "@upsert") (point more) in
        let b = flag d.count (codes "@count") (flag_says d.upsert (codes "@upsert") (point more)) in
        let c = flag d.reverse (codes "@reverse") (flag_says d.count (codes "@count") (flag_says d.upsert (codes "@upsert") (point more))) in
        omega arith

    index : (listed : List Tokenizer) (more : List Say) → length more ≤ length (index_says listed more)
    index [] more = omega arith
    index (first ∷ others) more = let rest = others_long others ((tokens.Punct 41, codes ")") ∷ more) in omega arith

    shape : (list : Bool) → length more < suc (suc (length (type_says d.kind list (index_says d.tokens (flags_say d.reverse d.count d.upsert more)))))
    shape true = let a = flags in let b = index d.tokens (flags_say d.reverse d.count d.upsert more) in omega arith
    shape false = let a = flags in let b = index d.tokens (flags_say d.reverse d.count d.upsert more) in omega arith

pub lines_read : (n : ℕ) (starts : List ℕ) (before definitions : List PredDef) → length (lines_say definitions) ≤ n → AreReadable definitions → AreDistinct (before ++ definitions) → turns n begins_statement statement before (spread starts (lines_say definitions)) ≡ Ok (before ++ definitions, [])
lines_read n starts before [] le r a = no_turn begins_statement statement n before [] refl ∙ ap (λ (all : List PredDef). Ok (all, [])) (sym (append-nil before))
lines_read n starts before (d ∷ more) le r a =
    let some = says_some d (lines_say more) in
    let read = statement_read starts before d (lines_say more) r.0 (new_at before more d a) in
    let joined : (before ++ d ∷ []) ++ more ≡ before ++ d ∷ more = append_assoc before (d ∷ []) more in
    one_turn begins_statement statement n before (before ++ d ∷ []) (spread starts (line_says d (lines_say more))) (spread read.after (lines_say more)) (omega arith) refl read.is
    ∙ lines_read (n - 1) read.after (before ++ d ∷ []) more (omega arith) r.1 (subst AreDistinct (sym joined) a)
    ∙ ap (λ (all : List PredDef). Ok (all, [])) joined

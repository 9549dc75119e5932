-- The printed text of what a text says says the same.
use Rattle.std.proofs.Common.{◌≡◌, ℕ, Bool, true, false, List, [], length, append-nil, refl, sym, ap, ◌∙◌, subst}
use Rattle.std.specs.Prelude.{Result, Ok, Err, if◌then◌else◌}
use Rattle.std.specs.List.{AllByRecursion}
use Rattle.dg_text.specs.Lexing.{lexed}
use Rattle.dg_text.specs.Listed.{AreListed}
use Rattle.dg_text.specs.Marks.{open_curly}
use Rattle.dg_text.specs.Reading.{Read, next}
use Rattle.dg_text.specs.Tokens.{Tok, toks_of, is_punct}
use Rattle.dg_text.specs.Written.{written}
use Rattle.dg_text.specs.declared.token.Token.{Token}
use Rattle.dg_text.proofs.WrittenWords.{words_read}
use Rattle.dg_nquad.specs.declared.mutation.Statement.{Statement}
use Rattle.dg_nquad.specs.Grammar.{body, groups, statement, statements, begins_statement, plain_set}
use Rattle.dg_nquad.specs.Readable.{Stands, AreFormed}
use Rattle.dg_nquad.specs.Texts.{groups_words, mutation_text, statements_words}
use Rattle.dg_nquad.specs.Whole.{outcome, by_tokens, mutation}
use Rattle.dg_nquad.proofs.Formed.{tokens_formed}
use Rattle.dg_nquad.proofs.GroupsBack.{all_listed, groups_read, opens_next, opens_none}
use Rattle.dg_nquad.proofs.PlainListed.{plain_listed, whole_of}
use Rattle.dg_nquad.proofs.Standing.{Makes, AllStand, groups_made, statements_stand}
use Rattle.dg_nquad.proofs.StatementWords.{groups_are, statements_are}

-- ---- what a text says can be written

body_made : (left : List Tok) → AreFormed left → Makes (AllStand false) (body left)
unfolding body
body_made left f = by (next (is_punct open_curly) left)
  where
    by : (test : Bool) → Makes (AllStand false) (if test then groups false left else statements plain_set [] left)
    by true = groups_made false left f
    by false = statements_stand plain_set left f

said_stands : (text : List ℕ) (tokens : List Token) (all : List Statement) → lexed text ≡ Ok tokens → by_tokens text (Ok tokens) ≡ Ok all → AllStand false all
said_stands text tokens all e h =
    let ts : List Tok = toks_of text tokens in
    let read : body ts ≡ Ok (all, []) = whole_of ts (length text) (body ts) all h in
    (subst (λ (r : Read (List Tok) (List Statement)). Makes (AllStand false) r) read (body_made ts (tokens_formed text tokens e))).0

-- the statements of a text can stand in groups of their own
pub text_stands : (text : List ℕ) (all : List Statement) → mutation text ≡ Ok all → AllStand false all
text_stands text all h = by (lexed text) refl h
  where
    by : (l : Result (List Token) ℕ) → lexed text ≡ l → by_tokens text l ≡ Ok all → AllStand false all
    by (Ok tokens) e k = said_stands text tokens all e k
    by (Err offset) e k = absurd (cc)

-- ---- and is read back

pub body_is : (left : List Tok) → next (is_punct open_curly) left ≡ true → body left ≡ groups false left
unfolding body
body_is left e = rw e refl

-- the text of statements that can stand in groups says them
pub stands_back : (all : List Statement) → AllStand false all → mutation (mutation_text all) ≡ Ok all
stands_back all a =
    let text : List ℕ = mutation_text all in
    let w = words_read (groups_words all) (groups_are false all a) in
    let ts : List Tok = toks_of text w.0 in
    let read : groups false ts ≡ Ok (all, []) = ap (groups false) (sym (append-nil ts)) ∙ groups_read false all a ts [] w.1.1 in
    ap (by_tokens text) w.1.0
    ∙ ap (outcome ts (length text)) (body_is ts (opens_next ts all w.1.1) ∙ read)

pub mutation_back : (text : List ℕ) (all : List Statement) → mutation text ≡ Ok all → mutation (mutation_text all) ≡ Ok all
mutation_back text all h = stands_back all (text_stands text all h)

-- without groups
pub plain_back : (all : List Statement) → AllByRecursion (Stands plain_set) all → mutation (written (statements_words all)) ≡ Ok all
plain_back all a =
    let text : List ℕ = written (statements_words all) in
    let w = words_read (statements_words all) (statements_are plain_set all a) in
    let ts : List Tok = toks_of text w.0 in
    let listed : AreListed begins_statement (statement plain_set) [] all [] ts = subst (λ (l : List Tok). AreListed begins_statement (statement plain_set) [] all [] l) (append-nil ts) (all_listed plain_set all a [] ts [] w.1.1 refl) in
    (plain_listed text w.0 all w.1.0 (opens_none ts all w.1.1)).1 listed

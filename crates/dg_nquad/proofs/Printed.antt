-- Words that are written, as their printed parts.
use Rattle.std.proofs.Common.{◌≡◌, ℕ, ◌+◌, ◌<◌, List, [], ◌∷◌, ◌++◌, length, take, get_or, append_assoc, append-nil, ap, ◌∙◌, codes}
use Rattle.std.specs.Prelude.{flat_map, false}
use Rattle.std.specs.Fmt.{digits}
use Rattle.std.proofs.lemmas.List.{take_more}
use Rattle.std.proofs.lemmas.Grind.{flat_map-append}
use Rattle.dg_values.specs.declared.kind.Kind.{Kind}
use Rattle.dg_text.specs.Quoting.{quoted_word}
use Rattle.dg_text.specs.Spelling.{iri_word, iri_uid_word, blank_word, mark_word, caret_word, uid_text}
use Rattle.dg_text.specs.Written.{Word, written}
use Rattle.dg_nquad.specs.declared.mutation.Statement.{Statement}
use Rattle.dg_nquad.specs.Texts.{variable_words, node_words, object_words, statement_words, type_of_kind, group_name, alone_words, groups_words}

-- words before others
written_both : (ws more : List Word) → written (ws ++ more) ≡ written ws ++ written more
written_both ws more = flat_map-append (λ (w : Word). w.1 ++ 32 ∷ []) ws more

-- a text behind another, and what follows both
behind : (a b c : List ℕ) → (a ++ b) ++ c ≡ a ++ (b ++ c)
behind a b c = append_assoc a b c

pub variable_written : (word name : List ℕ) → written (variable_words word name) ≡ word ++ (codes " ( " ++ (name ++ codes " ) "))
variable_written word name = behind word (32 ∷ []) (codes "( " ++ ((name ++ 32 ∷ []) ++ codes ") ")) ∙ ap (λ (l : List ℕ). word ++ (codes " ( " ++ l)) (behind name (32 ∷ []) (codes ") "))

-- a text between < and >, and a blank
iri_written : (text more : List ℕ) → ((60 ∷ (text ++ 62 ∷ [])) ++ 32 ∷ []) ++ more ≡ 60 ∷ (text ++ (codes "> " ++ more))
iri_written text more = ap (λ (l : List ℕ). 60 ∷ l) (ap (λ (l : List ℕ). l ++ more) (behind text (62 ∷ []) (32 ∷ [])) ∙ behind text (codes "> ") more)

pub uid_written : (n : ℕ) → written (iri_uid_word n ∷ []) ≡ codes "<0x" ++ (digits 16 false n ++ codes "> ")
uid_written n = iri_written (uid_text n) []

pub blank_written : (name : List ℕ) → written (blank_word name ∷ []) ≡ codes "_:" ++ (name ++ codes " ")
blank_written name = append-nil (codes "_:" ++ (name ++ codes " "))

pub tag_written : (kind : Kind) → written (caret_word ∷ iri_word (type_of_kind kind) ∷ []) ≡ codes "^^ <" ++ (type_of_kind kind ++ codes "> ")
tag_written kind = ap (λ (l : List ℕ). codes "^^ " ++ l) (iri_written (type_of_kind kind) [])

pub literal_written : (text : List ℕ) (ws : List Word) → written (quoted_word text ∷ ws) ≡ (quoted_word text).1 ++ (codes " " ++ written ws)
literal_written text ws = behind (quoted_word text).1 (codes " ") (written ws)

pub statement_written : (s : Statement) → written (statement_words s) ≡ written (node_words s.s) ++ (codes "<" ++ (s.p ++ (codes "> " ++ (written (object_words s.o) ++ codes ". "))))
statement_written s =
    written_both (node_words s.s) (iri_word s.p ∷ (object_words s.o ++ mark_word 46 ∷ []))
    ∙ ap (λ (l : List ℕ). written (node_words s.s) ++ l) (iri_written s.p (written (object_words s.o ++ mark_word 46 ∷ [])) ∙ ap (λ (l : List ℕ). 60 ∷ (s.p ++ (codes "> " ++ l))) (written_both (object_words s.o) (mark_word 46 ∷ [])))

pub alone_written : (s : Statement) → written (alone_words s) ≡ group_name s.delete ++ (codes " { " ++ (written (statement_words s) ++ codes "} "))
alone_written s =
    behind (group_name s.delete) (codes " ") (codes "{ " ++ written ((statement_words s ++ []) ++ mark_word 125 ∷ []))
    ∙ ap (λ (ws : List Word). group_name s.delete ++ (codes " { " ++ written (ws ++ mark_word 125 ∷ []))) (append-nil (statement_words s))
    ∙ ap (λ (l : List ℕ). group_name s.delete ++ (codes " { " ++ l)) (written_both (statement_words s) (mark_word 125 ∷ []))

-- the words of groups
abbrev pub all_alone : List Statement → List ℕ
all_alone all = written (flat_map alone_words all)

-- the groups of the first statements, and one more
pub more_written : (all : List Statement) (i : ℕ) (d : Statement) → i < length all → all_alone (take (i + 1) all) ≡ all_alone (take i all) ++ written (alone_words (get_or all i d))
more_written all i d lt =
    ap all_alone (take_more all i d lt)
    ∙ ap (λ (ws : List Word). written ws) (flat_map-append alone_words (take i all) (get_or all i d ∷ []))
    ∙ written_both (flat_map alone_words (take i all)) (alone_words (get_or all i d) ++ [])
    ∙ ap (λ (ws : List Word). all_alone (take i all) ++ written ws) (append-nil (alone_words (get_or all i d)))

pub all_written : (all : List Statement) → written (groups_words all) ≡ (codes "{ " ++ all_alone all) ++ codes "} "
all_written all = ap (λ (l : List ℕ). codes "{ " ++ l) (written_both (flat_map alone_words all) (mark_word 125 ∷ []))

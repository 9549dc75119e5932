-- Conditions, mutations and upsert blocks, written as words.
use Rattle.std.specs.Prelude.{ℕ, ℤ, List, [], ◌∷◌, ◌++◌, flat_map, Option, Some, None, codes}
use Rattle.dg_text.specs.Marks.{open_curly, close_curly, comma}
use Rattle.dg_text.specs.Spelling.{name_word, at_word, mark_word, int_word}
use Rattle.dg_text.specs.Written.{Word, written}
use Rattle.dg_nquad.specs.Texts.{groups_words}
use Rattle.dg_parse.specs.declared.query.CmpOp.{CmpOp}
use Rattle.dg_parse.specs.declared.upsert.UCond.{UCond}
use Rattle.dg_parse.specs.declared.upsert.UMut.{UMut}
use Rattle.dg_parse.specs.declared.upsert.UPart.TheFolds.{fold-UCond}
use Rattle.dg_parse.specs.declared.upsert.UPart.TheOpen.{UCond-F, UPart-F}
use Rattle.dg_parse.specs.declared.upsert.Upsert.{Upsert}
use Rattle.dg_print.specs.Printed.{Shown, shown_alone, shown_or, shown_and, nots, between_words, cmp_text, in_round}
use Rattle.dg_print.specs.PrintedQuery.{query_words}

-- ("eq" | "le" | "lt" | "ge" | "gt") "(" "len" "(" Name ")" "," Int ")"
abbrev pub len_words : CmpOp → List ℕ → ℤ → List Word
len_words op x n = name_word (cmp_text op) ∷ in_round (name_word (codes "len") ∷ (in_round (name_word x ∷ []) ++ mark_word comma ∷ int_word n ∷ []))

-- a part with so many "not" before it
abbrev pub shown_part : UPart-F (ℕ → Shown) Shown → ℕ → Shown
shown_part (UPart-F.Or fs) n = shown_or n (between_words (name_word (codes "or")) (λ f. f.as_and) fs)
shown_part (UPart-F.And fs) n = shown_and n (between_words (name_word (codes "and")) (λ f. f.as_not) fs)
shown_part (UPart-F.Len op x m) n = shown_alone (nots n ++ len_words op x m)

-- a condition
abbrev pub shown_cond : UCond-F (ℕ → Shown) Shown → Shown
shown_cond f = f.part f.nots

-- a condition and its words
abbrev pub shown : UCond → Shown
shown = fold-UCond (ℕ → Shown) Shown shown_part shown_cond

-- cor
abbrev pub cond_words : UCond → List Word
cond_words f = (shown f).as_or

-- [ "@if" "(" cor ")" ]
abbrev pub if_words : Option UCond → List Word
if_words None = []
if_words (Some c) = at_word (codes "@if") ∷ in_round (cond_words c)

-- mut
abbrev pub mut_words : UMut → List Word
mut_words m = name_word (codes "mutation") ∷ (if_words m.cond ++ groups_words m.mutation.statements)

-- upsert
abbrev pub upsert_words : Upsert → List Word
upsert_words u =
    name_word (codes "upsert") ∷ mark_word open_curly ∷ ((name_word (codes "query") ∷ (query_words u.query ++ flat_map mut_words u.muts)) ++ mark_word close_curly ∷ [])

-- an upsert block as a text
abbrev pub upsert_text : Upsert → List ℕ
upsert_text u = written (upsert_words u)

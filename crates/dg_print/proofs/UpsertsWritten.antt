-- Conditions, mutations and upsert blocks that are written.
use Rattle.std.proofs.Common.{◌≡◌, ℕ, List, [], ◌∷◌, ◌++◌, append_assoc, sym, ap, ◌∙◌, codes}
use Rattle.dg_text.specs.Spelling.{name_word, at_word, mark_word}
use Rattle.dg_text.specs.Written.{Word, written}
use Rattle.dg_print.specs.Printed.{in_round}
use Rattle.dg_print.proofs.WordsWritten.{written_both, two_written}

pub if_written : (old : List ℕ) (ws : List Word) → old ++ written (at_word (codes "@if") ∷ in_round ws) ≡ ((old ++ codes "@if ( ") ++ written ws) ++ codes ") "
if_written old ws =
    ap (λ (l : List ℕ). old ++ (codes "@if ( " ++ l)) (written_both ws (mark_word 41 ∷ []))
    ∙ sym (append_assoc old (codes "@if ( ") (written ws ++ codes ") "))
    ∙ sym (append_assoc (old ++ codes "@if ( ") (written ws) (codes ") "))

pub mut_written : (old : List ℕ) (ws groups : List Word) → old ++ written (name_word (codes "mutation") ∷ (ws ++ groups)) ≡ ((old ++ codes "mutation ") ++ written ws) ++ written groups
mut_written old ws groups = sym (append_assoc old (codes "mutation ") (written (ws ++ groups))) ∙ two_written (old ++ codes "mutation ") ws groups

-- the words of a whole upsert block, by those of its query and of its mutations
pub upsert_written : (query muts : List Word) → written (name_word (codes "upsert") ∷ mark_word 123 ∷ ((name_word (codes "query") ∷ (query ++ muts)) ++ mark_word 125 ∷ [])) ≡ ((codes "upsert { query " ++ written query) ++ written muts) ++ codes "} "
upsert_written query muts =
    ap (λ (l : List ℕ). codes "upsert { query " ++ l) (written_both (query ++ muts) (mark_word 125 ∷ []) ∙ ap (λ (l : List ℕ). l ++ codes "} ") (written_both query muts))
    ∙ sym (append_assoc (codes "upsert { query ") (written query ++ written muts) (codes "} "))
    ∙ ap (λ (l : List ℕ). l ++ codes "} ") (sym (append_assoc (codes "upsert { query ") (written query) (written muts)))

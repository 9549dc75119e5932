-- Arguments, options and directives that are written.
use Rattle.std.proofs.Common.{◌≡◌, ℕ, ℤ, List, [], ◌∷◌, ◌++◌, append_assoc, sym, ap, ◌∙◌, codes}
use Rattle.std.specs.Prelude.{Bool}
use Rattle.dg_text.specs.Spelling.{name_word, at_word, int_word, mark_word}
use Rattle.dg_text.specs.Written.{Word, written}
use Rattle.dg_print.specs.Printed.{in_round, opt_words, truth_text}
use Rattle.dg_parse.specs.declared.query.QOpt.TheVariants as options
use Rattle.dg_print.proofs.WordsWritten.{written_both}

pub depth_written : (old : List ℕ) (n : ℤ) → old ++ written (opt_words (options.Depth n)) ≡ (old ++ codes "depth : ") ++ written (int_word n ∷ [])
depth_written old n = sym (append_assoc old (codes "depth : ") (written (int_word n ∷ [])))

pub again_written : (old : List ℕ) (b : Bool) → old ++ written (opt_words (options.Again b)) ≡ (old ++ codes "loop : ") ++ written (name_word (truth_text b) ∷ [])
again_written old b = sym (append_assoc old (codes "loop : ") (written (name_word (truth_text b) ∷ [])))

pub filter_written : (old : List ℕ) (ws : List Word) → old ++ written (at_word (codes "@filter") ∷ in_round ws) ≡ ((old ++ codes "@filter ( ") ++ written ws) ++ codes ") "
filter_written old ws =
    ap (λ (l : List ℕ). old ++ (codes "@filter ( " ++ l)) (written_both ws (mark_word 41 ∷ []))
    ∙ sym (append_assoc old (codes "@filter ( ") (written ws ++ codes ") "))
    ∙ sym (append_assoc (old ++ codes "@filter ( ") (written ws) (codes ") "))

pub recurse_written : (old : List ℕ) (ws : List Word) → old ++ written (at_word (codes "@recurse") ∷ ws) ≡ (old ++ codes "@recurse ") ++ written ws
recurse_written old ws = sym (append_assoc old (codes "@recurse ") (written ws))

use Rattle.std.proofs.Common.{◌≡◌, ℕ, List, [], ◌∷◌, length, ap, sym, ◌∙◌, arith}
use Rattle.std.specs.Prelude.{string_bytes, codes}
use Rattle.std.proofs.lemmas.Slice.Eq.{bytes_eq-Decides}
use Rattle.dg_node.proofs.WordLemmas.{one_word, heads}
use Rattle.dg_node.proofs.words.is_run.Goals as goal

pub returns-in-len1 : goal.returns-in-len1
returns-in-len1 c =
    let one : length c.args.words.now ≡ 1 = omega (arith, c.in-len1.len_at_least, c.in-len1.len_below) in
    let is = one_word (λ w. string_bytes w) c.args.words.now c.word-item.result one c.word-item.is in
    let text = c.as_str.ensures.value in
    let decides = bytes_eq-Decides c.as_str.result.now (codes "run") in (
      λ yes. is ∙ ap (λ (b : List ℕ). b ∷ []) (sym text ∙ decides.0 (sym c.eq.ensures ∙ yes)),
      λ run. c.eq.ensures ∙ decides.1 (text ∙ heads _ _ [] [] (sym is ∙ run)),
    )

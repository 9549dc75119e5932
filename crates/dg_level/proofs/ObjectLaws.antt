-- What is shown of one object at most.
use Rattle.std.proofs.Common.{◌≡◌, ◌≤◌, false, List, [], ◌∷◌, flat_map, length, refl, sym, ap, ◌∙◌, arith, append-nil}
use Rattle.std.specs.Prelude.{None, Some, is_some, slice_get}
use Rattle.std.specs.Option.{unwrap_or}
use Rattle.std.proofs.lemmas.Bool.{false≢true}
use Rattle.dg_values.specs.declared.value.Posting.{Posting}
use Rattle.dg_level.specs.Answers.{value_of, values_shown}

-- of no object nothing is shown
pub none_shown : (objects : List Posting) → slice_get objects 0 ≡ None → [] ≡ values_shown false (flat_map value_of objects)
none_shown [] e = refl
none_shown (object ∷ objects) e = absurd (false≢true (sym (ap is_some e)))

-- of one what it shows by itself
pub one_shown : (objects : List Posting) (object : Posting) → length objects ≤ 1 → slice_get objects 0 ≡ Some object → values_shown false (value_of object) ≡ values_shown false (flat_map value_of objects)
one_shown [] object le e = absurd (false≢true (ap is_some e))
one_shown (first ∷ []) object le e = ap (λ o. values_shown false (value_of (unwrap_or o first))) (sym e) ∙ ap (values_shown false) (sym (append-nil (value_of first)))
one_shown (first ∷ second ∷ objects) object le e = absurd (omega (arith, le))

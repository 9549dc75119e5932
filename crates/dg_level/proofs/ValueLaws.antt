-- The values among objects.
use Rattle.std.proofs.Common.{◌≡◌, List, [], ◌∷◌, flat_map, refl, ap}
use Rattle.std.specs.Prelude.{filter_map}
use Rattle.dg_values.specs.declared.value.Posting.{Posting}
use Rattle.dg_values.specs.declared.value.Posting.TheVariants.{Uid, Val}
use Rattle.dg_funcs.specs.Truth.{value_in}
use Rattle.dg_level.specs.Answers.{value_of}

-- a node's values are what is shown of its objects
pub same_values : (objects : List Posting) → flat_map value_of objects ≡ filter_map value_in objects
same_values [] = refl
same_values (Uid n ∷ objects) = same_values objects
same_values (Val v ∷ objects) = ap (λ vs. v ∷ vs) (same_values objects)

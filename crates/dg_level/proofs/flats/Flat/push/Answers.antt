use Rattle.std.proofs.Common.{◌≡◌, ◌++◌, ◌∷◌, [], ap, sym, subst, ◌∙◌}
use Rattle.std.specs.Prelude.{map, IfSome}
use Rattle.std.specs.Arc.{arc_value}
use Rattle.std.proofs.lemmas.List.{map-append}
use Rattle.dg_tree.specs.declared.tree.Field.{Field}
use Rattle.dg_level.specs.Flats.{HasKeys}
use Rattle.dg_level.proofs.flats.Flat.push.Goals as goal

pub invariant_of-self-2 : goal.invariant_of-self-2
invariant_of-self-2 c =
    let items = c.self.inside.pairs.items in
    let fields = map (arc_value {X = Field}) items in
    let pair : Field = arc_value c.args.pair.now in
    let same : map arc_value c.push.new.self.items ≡ fields ++ pair ∷ [] =
    ap (map arc_value) c.in_ok-push.ensures.items ∙ map-append arc_value items (c.in_ok-try_clone.field-0 ∷ []) ∙ ap (λ p. fields ++ p ∷ []) c.in_ok-try_clone.ensures in
    subst (λ all. IfSome c.put_key.new.keys (λ keys. HasKeys keys.value all)) (sym same) (c.put_key.ensures fields c.self.invariant)

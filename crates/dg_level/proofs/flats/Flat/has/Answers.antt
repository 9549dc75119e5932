use Rattle.std.proofs.Common.{◌≡◌, subst, ◌∙◌, rules}
use Rattle.std.specs.Prelude.{map, bytes_eq, IfSome}
use Rattle.std.specs.Arc.{arc_value}
use Rattle.std.specs.BTreeSet.{contains}
use Rattle.std.specs.List.{list_any}
use Rattle.dg_values.specs.Order.{text_cmp}
use Rattle.dg_tree.specs.declared.tree.Field.{Field}
use Rattle.dg_level.specs.Flats.{HasKeys}
use Rattle.dg_level.proofs.FlatLaws.{any_of}
use Rattle.dg_level.proofs.flats.Flat.has.Goals as goal

pub returns-in-None : goal.returns-in-None
returns-in-None c =
    let key = (arc_value c.args.pair.now).key in
    let told : c.is_there.result ≡ list_any (λ r. bytes_eq (arc_value {X = Field} r).key key) c.self.inside.pairs.items = search rules in
    rw (← c.self.view_is) (told ∙ any_of (arc_value {X = Field}) (λ p. bytes_eq p.key key) c.self.inside.pairs.items)

pub returns-in_ok-key-in-Some : goal.returns-in_ok-key-in-Some
returns-in_ok-key-in-Some c =
    let key = (arc_value c.args.pair.now).key in
    let fields = map (arc_value {X = Field}) c.self.inside.pairs.items in
    let told : c.contains.result ≡ contains text_cmp c.in-Some.keys.value key = search rules in
    let are : HasKeys c.in-Some.keys.value fields = subst (λ o. IfSome o (λ keys. HasKeys keys.value fields)) c.in-Some.is c.self.invariant in
    rw (← c.self.view_is) (told ∙ are key)

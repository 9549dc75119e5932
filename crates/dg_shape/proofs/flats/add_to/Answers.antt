use Rattle.std.proofs.Common.{◌≡◌, true, false, ap, ◌∙◌, rules, Bor}
use Rattle.std.specs.Prelude.{map, bytes_eq}
use Rattle.std.specs.List.{list_any}
use Rattle.dg_tree.specs.declared.tree.Field.{Field}
use Rattle.dg_shape.proofs.FlatLaws.{there_already, one_added}
use Rattle.dg_shape.proofs.flats.add_to.Goals as goal

pub returns-then-is_there : goal.returns-then-is_there
returns-then-is_there c =
    let told : list_any (λ (r : Bor Field). bytes_eq r.now.key c.args.pair.now.key) c.args.pairs.now.items ≡ true = search rules in
    there_already (λ (r : Bor Field). r.now) c.args.pairs.now.items c.args.pair.now told

pub returns : goal.returns
returns c =
    let told : list_any (λ (r : Bor Field). bytes_eq r.now.key c.args.pair.now.key) c.args.pairs.now.items ≡ false = search rules in
    ap (map (λ (r : Bor Field). r.now)) c.in_ok-push.ensures.items ∙ one_added (λ (r : Bor Field). r.now) c.args.pairs.now.items c.args.pair told

use Rattle.std.proofs.Common.{◌≡◌, ◌<◌, ◌∙◌, sym, ap, subst, map, rules}
use Rattle.std.specs.Prelude.{nat_lt, filter}
use Rattle.std.specs.Arc.{arc_value}
use Rattle.dg_list.specs.Lists.{reading, after_layers, newest_of, IsStacked, with_base}
use Rattle.dg_list.proofs.ListLemmas.{ascends_after_layers, above_stacked, next_stacked, read_rolled, last_over}
use Rattle.dg_list.proofs.plist.PList.with_base.Goals as goal

pub invariant_of-list : goal.invariant_of-list
invariant_of-list c = record {
  sound = record {
    base = rw c.requires.base (ascends_after_layers c.args.upto c.args.self.now.layers c.args.self.now.base c.in_ok-layers.ensures.sound.base);
    layers = tt;
  };
  alone = tt;
}

pub with_layer-requires : goal.with_layer-requires
with_layer-requires c =
    let self = c.args.self.now in
    let upto = c.args.upto in
    let list = c.loop-layer.list in
    let rest = c.pop.new.self.items in
    let layer = c.in-Some.layer in
    let stacked = above_stacked self.base_ts upto self.layers c.in_ok-layers.ensures.sound.layers in
    let split = last_over arc_value c.loop-layer.layers.items rest layer list.layers (filter (λ k. nat_lt upto k.ts) self.layers) c.in-Some.ensures.items c.loop-layer.invariant.layers in
    subst (λ b. newest_of b list.layers < (arc_value layer).ts) (sym (ap (λ x. x.base_ts) c.loop-layer.invariant.list))
    (next_stacked upto (map arc_value rest) (arc_value layer) list.layers (subst (IsStacked upto) split stacked))

pub returns-clause-same : goal.returns-clause-same
returns-clause-same c ts h =
    let self = c.args.self.now in
    let upto = c.args.upto in
    let whole : c.loop-layer.list ≡ with_base self (arc_value c.args.base) upto = search rules in
    ap (λ x. reading x ts) whole
    ∙ ap (after_layers ts (filter (λ k. nat_lt upto k.ts) self.layers)) c.requires.base
    ∙ read_rolled self.base_ts upto ts self.layers self.base c.in_ok-layers.ensures.sound.layers h

use Rattle.std.proofs.Common.{◌≡◌, ◌∙◌, sym, ap, subst, arith, true, length}
use Rattle.std.specs.Prelude.{◌&&◌, nat_le}
use Rattle.std.specs.Arc.{arc_value}
use Rattle.dg_delta.specs.Ops.{op_cmp}
use Rattle.dg_values.specs.Ascending.{Ascends}
use Rattle.dg_list.specs.Lists.{Layered, newest_ts}
use Rattle.dg_list.specs.Gathered.{stand_on_puts, stand_on_all}
use Rattle.dg_list.specs.Links.{list_of, is_lowest, IsTrueOfLink}
use Rattle.dg_list.proofs.OpLemmas.{and_right}
use Rattle.dg_list.proofs.ListLemmas.{IsCoveredFrom, covered_down, covered_alone, covered_replace, base_covered, base_exact, alone_exact, top_upto, below_upto, either_true}
use Rattle.dg_list.proofs.plist.Link.is_replaced_by.Goals as goal

pub returns-in-Rolled-clause-sound : goal.returns-in-Rolled-clause-sound
returns-in-Rolled-clause-sound c on =
    let top = list_of c.args.self.now in
    let ops = c.args.ops.now in
    let base = c.deref.result.now in
    let is = ap list_of (sym c.in-Rolled.is) in
    let covers : stand_on_all ops (arc_value c.in-Rolled.base) ≡ true = ap (stand_on_all ops) (sym c.deref.ensures) ∙ and_right (nat_le (length base) (length ops)) (stand_on_all ops base) (sym c.stand_on_base.ensures ∙ on) in
    covered_replace ops top c.requires.top.sound (c.loop-depth.invariant.covered (base_covered ops (list_of c.loop-depth.link.now) (arc_value c.in-Rolled.base) c.in-Rolled.field-0 (newest_ts top) is covers))

pub returns-in-Rolled-clause-exact : goal.returns-in-Rolled-clause-exact
returns-in-Rolled-clause-exact c lowest replaced =
    let ops = c.args.ops.now in
    let is = ap list_of (sym c.in-Rolled.is ∙ (c.loop-depth.invariant.at_once lowest).0) in
    c.stand_on_base.ensures
    ∙ ap (λ base. nat_le (length base) (length ops) && stand_on_all ops base) c.deref.ensures
    ∙ base_exact ops (list_of c.args.self.now) (arc_value c.in-Rolled.base) c.in-Rolled.field-0 is c.requires.ops c.requires.top.sound replaced

pub returns-then-alone-clause-sound : goal.returns-then-alone-clause-sound
returns-then-alone-clause-sound c on =
    let top = list_of c.args.self.now in
    let ops = c.args.ops.now in
    let v = list_of c.loop-depth.link.now in
    let w = arc_value c.in-Over.older in
    let l = arc_value c.in-Over.layer in
    let is = ap list_of (sym c.in-Over.is) in
    let sound = c.loop-depth.invariant.top.sound in
    let told : c.stand_on_puts-on_puts.result ≡ true = cc in
    let alone = subst IsTrueOfLink c.in-Over.is c.loop-depth.invariant.top.alone (either_true c.in-Over.alone c.stand_on_puts-on_puts.result c.then-alone.either told) in
    let puts : stand_on_puts ops l.ops ≡ true = ap (stand_on_puts ops) (sym (c.ops.ensures.ops ∙ ap (λ x. x.ops) c.deref-in-Over.ensures)) ∙ sym c.stand_on_puts-on_puts.ensures ∙ told in
    let upto = c.loop-depth.invariant.upto in
    covered_replace ops top c.requires.top.sound (c.loop-depth.invariant.covered (λ ts h. covered_alone v w l is sound ts ops (top_upto v w l is sound ts ts (omega arith)) puts alone))

pub returns-then-alone-clause-exact : goal.returns-then-alone-clause-exact
returns-then-alone-clause-exact c lowest replaced =
    let top = list_of c.args.self.now in
    let ops = c.args.ops.now in
    let w = arc_value c.in-Over.older in
    let l = arc_value c.in-Over.layer in
    let here = (c.loop-depth.invariant.at_once lowest).0 in
    let is = ap list_of (sym c.in-Over.is ∙ here) in
    let stands : c.in-Over.alone ≡ true = ap is_lowest (sym c.in-Over.is ∙ here) ∙ lowest in
    let alone = subst IsTrueOfLink c.in-Over.is c.loop-depth.invariant.top.alone stands in
    let puts : l.ops ≡ c.ops.result.now = sym (c.ops.ensures.ops ∙ ap (λ x. x.ops) c.deref-in-Over.ensures) in
    let ascend : Ascends op_cmp l.ops = rw c.deref-in-Over.ensures at c.ops.ensures.ascend in
    c.stand_on_puts-on_puts.ensures
    ∙ ap (stand_on_puts ops) (sym puts)
    ∙ alone_exact top w l is c.requires.top.sound (newest_ts top) ops (omega arith) ascend alone replaced

pub loop-depth-preserved : goal.loop-depth-preserved
loop-depth-preserved c =
    let top = list_of c.args.self.now in
    let ops = c.args.ops.now in
    let v = list_of c.loop-depth.link.now in
    let w = arc_value c.in-Over.older in
    let l = arc_value c.in-Over.layer in
    let is = ap list_of (sym c.in-Over.is) in
    let sound = c.loop-depth.invariant.top.sound in
    let puts : stand_on_puts ops l.ops ≡ true = ap (stand_on_puts ops) (sym (c.ops.ensures.ops ∙ ap (λ x. x.ops) c.deref-in-Over.ensures)) ∙ sym c.stand_on_puts-on_puts.ensures ∙ c.if-not-on_puts.false in
    let upto = c.loop-depth.invariant.upto in
    let below : list_of c.list.inside.top ≡ w = c.list.view_is ∙ c.deref-list.ensures in
    record {
      top = c.list.invariant;
      upto = rw below (below_upto v w l is sound (newest_ts top) (newest_ts top) upto);
      covered = λ f. c.loop-depth.invariant.covered (λ ts h. covered_down v w l is sound ts ops (top_upto v w l is sound ts ts (omega arith)) puts (subst (λ (x : Layered). IsCoveredFrom ops (newest_ts top) x) below f ts h));
      at_once = λ lowest.
          let stands : c.in-Over.alone ≡ true = ap is_lowest (sym c.in-Over.is ∙ (c.loop-depth.invariant.at_once lowest).0) ∙ lowest in
          absurd (cc);
    }

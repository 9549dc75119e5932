use Rattle.std.proofs.Common.{◌≡◌, ◌<◌, ◌≤◌, ◌^◌, ◌+◌, ◌-◌, ◌∙◌, [], ℕ, List, length, take, drop, get_or, subst, sym, ap, arith}
use Rattle.std.specs.List.{AllByRecursion}
use Rattle.std.proofs.lemmas.List.{drop_all, take_all}
use Rattle.dg_values.specs.declared.value.Posting.{Posting}
use Rattle.dg_values.specs.declared.value.Posting.TheVariants.{Uid, Val}
use Rattle.dg_base.specs.declared.packing.Packing.{Packing}
use Rattle.dg_base.specs.Packed.{uids_of}
use Rattle.dg_base.specs.Unpacked.{unpacked}
use Rattle.dg_base.specs.Cursors.{IsPackedBut}
use Rattle.dg_base.proofs.Postings.{ascends-uids_of, uids_of-drop_uid, uids_of-drop_val, fit_uid, fit_val}
use Rattle.dg_base.proofs.Unpacking.{unpacked-packed}
use Rattle.dg_base.proofs.Writing.{begun, bytes_done, starts_done, held}
use Rattle.dg_base.proofs.nodes.Nodes.pack.Goals.{in-Uid+in_ok-add-in-Uid, in-Val}
use Rattle.dg_base.proofs.nodes.Nodes.pack.Goals as goal

pub loop-item-init : goal.loop-item-init
loop-item-init c = record {
  left = c.count_nodes-count.ensures;
  written = begun c.new-packing.result (uids_of c.args.items.now) c.new-packing.ensures.bytes c.new-packing.ensures.starts c.new-packing.ensures.last c.new-packing.ensures.room (ascends-uids_of c.args.items.now c.requires);
  fit = tt;
}

pub loop-item-preserved : goal.loop-item-preserved
loop-item-preserved c =
    let items = c.args.items.now in
    let i = c.loop-item.item-index in
    let d = c.item-item.result in
    let within : i < length items = omega arith in
    let whole = uids_of items in
    let later = uids_of (drop (i + 1) items) in
    elim c.match-item.branch [
      | in-Uid+in_ok-add-in-Uid w ↦
          let is : get_or items i d ≡ Uid w.in-Uid.number = sym c.item-item.is ∙ w.in-Uid.is in
          let rest = uids_of-drop_uid items i w.in-Uid.number d within is in
          let left : c.loop-item.left - 1 ≡ length later = omega (arith, ap (λ (ys : List ℕ). length ys) rest, c.loop-item.invariant.left) in
          let written = subst (λ (ys : List ℕ). IsPackedBut c.loop-item.packing whole ys) rest c.loop-item.invariant.written in
          record {
            left = w.left-is ∙ left;
            written = subst (λ (p : Packing). IsPackedBut p whole later) (sym w.packing-is) (w.in_ok-add-in-Uid.ensures.written whole later written left);
            fit = fit_uid items i w.in-Uid.number d within is w.add.ensures.fits c.loop-item.invariant.fit;
          }
      | in-Val w ↦
          let is : get_or items i d ≡ Val w.in-Val.field-0 = sym c.item-item.is ∙ w.in-Val.is in
          let rest = uids_of-drop_val items i w.in-Val.field-0 d within is in
          record {
            left = w.left-is ∙ c.loop-item.invariant.left ∙ ap (λ (ys : List ℕ). length ys) rest;
            written = subst (λ (p : Packing). IsPackedBut p whole later) (sym w.packing-is) (subst (λ (ys : List ℕ). IsPackedBut c.loop-item.packing whole ys) rest c.loop-item.invariant.written);
            fit = fit_val items i w.in-Val.field-0 d within is c.loop-item.invariant.fit;
          }
    ]

pub invariant_of-result : goal.invariant_of-result
invariant_of-result c =
    let xs = uids_of c.args.items.now in
    let end : length c.args.items.now ≤ c.loop-item.item-index = omega arith in
    let none : uids_of (drop c.loop-item.item-index c.args.items.now) ≡ [] = ap uids_of (drop_all c.loop-item.item-index c.args.items.now end) in
    let whole : take c.loop-item.item-index c.args.items.now ≡ c.args.items.now = take_all c.loop-item.item-index c.args.items.now end in
    let done = subst (λ (ys : List ℕ). IsPackedBut c.loop-item.packing xs ys) none c.loop-item.invariant.written in
    let fit = subst (λ (ps : List Posting). AllByRecursion (λ x. x < 2 ^ 64) (uids_of ps)) whole c.loop-item.invariant.fit in
    held c.loop-item.packing.bytes.items c.loop-item.packing.starts.items c.count_nodes-count.result xs (bytes_done c.loop-item.packing xs done) (starts_done c.loop-item.packing xs done) c.count_nodes-count.ensures (ascends-uids_of c.args.items.now c.requires) fit

pub returns : goal.returns
returns c =
    let xs = uids_of c.args.items.now in
    let end : length c.args.items.now ≤ c.loop-item.item-index = omega arith in
    let none : uids_of (drop c.loop-item.item-index c.args.items.now) ≡ [] = ap uids_of (drop_all c.loop-item.item-index c.args.items.now end) in
    let whole : take c.loop-item.item-index c.args.items.now ≡ c.args.items.now = take_all c.loop-item.item-index c.args.items.now end in
    let done = subst (λ (ys : List ℕ). IsPackedBut c.loop-item.packing xs ys) none c.loop-item.invariant.written in
    let fit = subst (λ (ps : List Posting). AllByRecursion (λ x. x < 2 ^ 64) (uids_of ps)) whole c.loop-item.invariant.fit in
    ap unpacked (bytes_done c.loop-item.packing xs done) ∙ unpacked-packed xs (ascends-uids_of c.args.items.now c.requires) fit

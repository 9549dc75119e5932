use Rattle.std.proofs.Common.{◌≡◌, ◌<◌, ◌≤◌, ◌∙◌, length, get_or, map, ap, sym, subst, arith, List}
use Rattle.std.proofs.lemmas.List.{take_all}
use Rattle.dg_keys.specs.Keys.{key_cmp}
use Rattle.dg_keys.specs.declared.record.Part.{Part}
use Rattle.dg_list.specs.Lists.{newest_ts}
use Rattle.dg_pages.specs.Entries.{changed_all}
use Rattle.dg_store.specs.Stores.{list_at, is_held, held_parts}
use Rattle.dg_store.proofs.StoreLemmas.{part_change, parts_in_turn, held_ascend, passed_at}
use Rattle.dg_store.proofs.store.Store.with_record.Goals as goal

pub change-requires-clause-newer : goal.change-requires-clause-newer
change-requires-clause-newer c =
    let parts = c.args.rec.now.parts in
    let same = c.as_slice-part-items.ensures in
    let within : c.loop-part.part-index < length parts = subst (λ (ps : List Part). c.loop-part.part-index < length ps) same c.loop-part-test.true in
    let is : c.part-item.result ≡ get_or parts c.loop-part.part-index c.part-item.result = subst (λ (ps : List Part). c.part-item.result ≡ get_or ps c.loop-part.part-index c.part-item.result) same c.part-item.is in
    passed_at (λ part. newest_ts (list_at part.key c.args.self.now) < c.args.rec.now.ts) (is_held c.args.held.now) parts c.loop-part.part-index c.part-item.result within is (sym c.is_among.ensures ∙ c.if-is_among.true) c.requires.newer

pub returns : goal.returns
returns c =
    let parts = c.args.rec.now.parts in
    let held = c.args.held.now in
    let start = c.args.self.now in
    let ts = c.args.rec.now.ts in
    let done : length parts ≤ c.loop-part.part-index = subst (λ (ps : List Part). length ps ≤ c.loop-part.part-index) c.as_slice-part-items.ensures (omega (arith, c.loop-part-test.false)) in
    let changes = c.loop-part.invariant ∙ ap (λ ps. map (part_change ts start) (held_parts held ps)) (take_all c.loop-part.part-index parts done) in
    c.in_ok-with_changes.ensures
    ∙ (λ i. changed_all key_cmp (c.self.view_is i) (changes i))
    ∙ parts_in_turn ts start (held_parts held parts) (held_ascend held parts c.requires.parts)

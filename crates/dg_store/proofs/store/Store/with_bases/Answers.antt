use Rattle.std.proofs.Common.{◌≡◌, ◌≤◌, ◌∙◌, length, map, ap, arith}
use Rattle.std.proofs.lemmas.List.{take_all}
use Rattle.dg_keys.specs.Keys.{key_cmp}
use Rattle.dg_list.specs.Lists.{reading}
use Rattle.dg_pages.specs.Entries.{changed_all}
use Rattle.dg_store.specs.Stores.{list_at, bases_of}
use Rattle.dg_store.proofs.StoreLemmas.{base_change, bases_in_turn, base_at}
use Rattle.dg_store.proofs.store.Store.with_bases.Goals as goal

pub base_change-requires-clause-from : goal.base_change-requires-clause-from
base_change-requires-clause-from c =
    base_at (λ b. (list_at b.0 c.args.self.now).base_ts ≤ c.args.upto) c.args.bases.now c.loop-pair.pair-index c.pair-item.result c.loop-pair-test.true c.pair-item.is c.requires.from

pub base_change-requires-clause-base : goal.base_change-requires-clause-base
base_change-requires-clause-base c =
    base_at (λ b. b.1 ≡ reading (list_at b.0 c.args.self.now) c.args.upto) c.args.bases.now c.loop-pair.pair-index c.pair-item.result c.loop-pair-test.true c.pair-item.is c.requires.base

pub returns : goal.returns
returns c =
    let bases = c.args.bases.now in
    let start = c.args.self.now in
    let upto = c.args.upto in
    let done : length bases ≤ c.loop-pair.pair-index = omega (arith, c.loop-pair-test.false) in
    let changes = c.loop-pair.invariant ∙ ap (λ bs. map (base_change upto start) (bases_of bs)) (take_all c.loop-pair.pair-index bases done) in
    c.in_ok-with_changes.ensures
    ∙ (λ i. changed_all key_cmp (c.self.view_is i) (changes i))
    ∙ bases_in_turn upto start (bases_of bases) c.requires.keys

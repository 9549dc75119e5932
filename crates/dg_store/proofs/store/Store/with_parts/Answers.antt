use Rattle.std.proofs.Common.{◌≤◌, ◌∙◌, length, map, ap, arith}
use Rattle.std.proofs.lemmas.List.{take_all}
use Rattle.dg_keys.specs.Keys.{key_cmp}
use Rattle.dg_pages.specs.Entries.{changed_all}
use Rattle.dg_store.proofs.StoreLemmas.{part_change, parts_in_turn}
use Rattle.dg_store.proofs.store.Store.with_parts.Goals as goal

pub returns : goal.returns
returns c =
    let parts = c.args.parts.now in
    let start = c.args.self.now in
    let ts = c.args.ts in
    let done : length parts ≤ c.loop-part.part-index = omega (arith, c.loop-part-test.false) in
    let changes = c.loop-part.invariant ∙ ap (λ ps. map (part_change ts start) ps) (take_all c.loop-part.part-index parts done) in
    c.in_ok-with_changes.ensures
    ∙ (λ i. changed_all key_cmp (c.self.view_is i) (changes i))
    ∙ parts_in_turn ts start parts c.requires.parts

use Rattle.std.proofs.Common.{refl, ap, sym, ◌∙◌}
use Rattle.std.specs.Ordering.{nat_cmp}
use Rattle.dg_values.specs.Ascending.{ascending}
use Rattle.dg_values.specs.declared.value.Value.TheVariants.{Text, Bool as Truth, Time}
use Rattle.dg_funcs.specs.Numbers.{numbered_as}
use Rattle.dg_funcs.proofs.NumberLaws.{none_there}
use Rattle.dg_funcs.proofs.numbers.equal_to.Goals as goal

pub returns-in-Text : goal.returns-in-Text
returns-in-Text g c =
    let graph = g.S.Snapshot.graph c.args.snap.now in
    let edge = c.args.edge.now in
    let back = sym c.in-Text.is in
    c.gathered.ensures.nodes
    ∙ (ap (ascending nat_cmp) c.new.ensures.items
    ∙ (none_there graph edge (Text c.in-Text.field-0) (λ k. refl) ∙ λ i. numbered_as graph edge (back i)))

pub returns-in-Bool : goal.returns-in-Bool
returns-in-Bool g c =
    let graph = g.S.Snapshot.graph c.args.snap.now in
    let edge = c.args.edge.now in
    let back = sym c.in-Bool.is in
    c.gathered-in-Bool.ensures.nodes
    ∙ (ap (ascending nat_cmp) c.new-in-Bool.ensures.items
    ∙ (none_there graph edge (Truth c.in-Bool.field-0) (λ k. refl) ∙ λ i. numbered_as graph edge (back i)))

pub returns-in-Time : goal.returns-in-Time
returns-in-Time g c =
    let graph = g.S.Snapshot.graph c.args.snap.now in
    let edge = c.args.edge.now in
    let back = sym c.in-Time.is in
    c.gathered-in-Time.ensures.nodes
    ∙ (ap (ascending nat_cmp) c.new-in-Time.ensures.items
    ∙ (none_there graph edge (Time c.in-Time.field-0) (λ k. refl) ∙ λ i. numbered_as graph edge (back i)))

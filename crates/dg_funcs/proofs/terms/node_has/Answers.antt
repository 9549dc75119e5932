use Rattle.std.proofs.Common.{◌≡◌, Bool, subst, ◌∙◌}
use Rattle.std.specs.Prelude.{IfOk}
use Rattle.std.specs.List.{list_any}
use Rattle.dg_graph.specs.Graphs.{objects}
use Rattle.dg_funcs.specs.Truth.{texts_at}
use Rattle.dg_funcs.specs.Tests.{in_text, has_asked}
use Rattle.dg_funcs.proofs.TestLaws.{any_texts}
use Rattle.dg_funcs.proofs.terms.node_has.Goals as goal

pub returns : goal.returns
returns g c =
    let graph = g.S.Snapshot.graph c.args.snap.now in
    let test = has_asked c.args.all c.args.asked.now in
    let e : list_any (in_text test) c.as_slice.result.now ≡ list_any test (texts_at graph c.args.p.now c.args.node) =
    (λ i. list_any (in_text test) ((c.as_slice.ensures.value ∙ c.in_ok-objects.ensures.items) i)) ∙ any_texts test (objects graph c.args.p.now c.args.node) in
    subst (λ (a : Bool). IfOk c.any_has.result (λ b. b ≡ a)) e c.any_has.ensures

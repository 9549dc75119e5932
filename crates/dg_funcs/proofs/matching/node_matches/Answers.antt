use Rattle.std.proofs.Common.{◌∙◌}
use Rattle.std.specs.List.{list_any}
use Rattle.regex.specs.Strings.{matcher_pattern}
use Rattle.dg_graph.specs.Graphs.{objects}
use Rattle.dg_funcs.specs.Tests.{in_text}
use Rattle.dg_funcs.specs.Truth.{found_in}
use Rattle.dg_funcs.proofs.TestLaws.{any_texts}
use Rattle.dg_funcs.proofs.matching.node_matches.Goals as goal

pub returns-clause-found : goal.returns-clause-found
returns-clause-found g c =
    let graph = g.S.Snapshot.graph c.args.snap.now in
    let test = found_in (matcher_pattern c.args.matcher.now) in
    c.any_found.ensures.found ∙ ((λ i. list_any (in_text test) ((c.as_slice.ensures.value ∙ c.in_ok-objects.ensures.items) i)) ∙ any_texts test (objects graph c.args.p.now c.args.node))

use Rattle.std.proofs.Common.{ℕ, List, map, sym, ap, subst, ◌∙◌}
use Rattle.dg_level.specs.Rows.{row_text}
use Rattle.dg_level.specs.Shown.{under}
use Rattle.dg_level.specs.Placing.{leads_from, AllPlaces}
use Rattle.dg_level.specs.Reaching.{is_near, AreSteps}
use Rattle.dg_level.specs.declared.reaching.Step.{Step}
use Rattle.dg_level.proofs.PlaceLaws.{own_placed, edge_placed}
use Rattle.dg_level.proofs.placing.placed_column.Goals as goal

pub returns-in_ok-texts-in-None : goal.returns-in_ok-texts-in-None
returns-in_ok-texts-in-None g c = λ pieces piece are there is.
    let graph = g.S.Snapshot.graph c.args.snap.now in
    let vars = c.args.vars.now.variables in
    let found = c.args.found.now in
    let nodes = c.as_slice-nodes.result.now in
    own_placed graph vars (is_near found.steps.items) found.set c.args.fetched.now piece is c.in_ok-texts-in-None.texts c.in-None.is
    (c.in_ok-texts-in-None.ensures is.name is.shown is.key_is (is.by nodes) ∙ ap (λ (ns : List ℕ). map (λ (n : ℕ). row_text (map (under is.name) (is.shown n))) ns) c.as_slice-nodes.ensures.items)

pub returns-in_ok-places-in-Some : goal.returns-in_ok-places-in-Some
returns-in_ok-places-in-Some g c = λ pieces piece are there is.
    let graph = g.S.Snapshot.graph c.args.snap.now in
    let vars = c.args.vars.now.variables in
    let found = c.args.found.now in
    let places = c.in_ok-places-in-Some.places in
    let same = c.as_slice.ensures.value in
    let made : AllPlaces found.set (map (leads_from (is_near found.steps.items) piece) found.set) places.items =
    subst (λ (ss : List Step). AllPlaces found.set (map (leads_from (is_near ss) piece) found.set) places.items) same (c.in_ok-places-in-Some.ensures graph vars pieces piece (subst (λ (ss : List Step). AreSteps graph vars pieces ss) (sym same) are) there) in
    edge_placed graph vars (is_near found.steps.items) found.set c.args.fetched.now piece is c.in-Some.lists c.in_ok-key-in-Some.key places c.in-Some.is c.in_ok-key-in-Some.ensures made

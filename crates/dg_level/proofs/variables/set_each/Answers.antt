use Rattle.std.proofs.Common.{◌≡◌, ◌∙◌, ◌∷◌, [], fold, ap, sym, rules}
use Rattle.std.proofs.lemmas.List.{map-id}
use Rattle.std.proofs.lemmas.List.Sums.{fold-append}
use Rattle.std.proofs.lemmas.Iterator.Adapters.{YieldsList-from_vec}
use Rattle.std.proofs.lemmas.Iterator.Consumers.{YieldsList-end}
use Rattle.dg_level.specs.Given.{with_known}
use Rattle.dg_level.proofs.variables.set_each.Goals as goal

pub loop-place-preserved : goal.loop-place-preserved
loop-place-preserved c =
    c.set_known.ensures
    ∙ (ap (λ xs. with_known xs (c.in-Some.place, c.in-Some.variable)) c.loop-place.invariant
    ∙ sym (fold-append with_known c.args.variables.now.items c.loop-place.yielded ((c.in-Some.place, c.in-Some.variable) ∷ [])))

pub returns : goal.returns
returns c =
    let road = YieldsList-from_vec {s = c.into_iter-place-iterator.result} c.args.known.items (search rules) (search rules) in
    let all : c.loop-place.yielded ≡ c.args.known.items = sym (map-id c.loop-place.yielded) ∙ (YieldsList-end road c.loop-place.yielded _ c.loop-place.yielded_by _ c.next.new.self c.in-None.is c.next.ensures.steps).0 in
    c.loop-place.invariant ∙ ap (fold with_known c.args.variables.now.items) all

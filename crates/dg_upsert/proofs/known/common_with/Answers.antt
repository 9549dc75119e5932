use Rattle.std.proofs.Common.{rules, ◌≡◌, ◌≤◌, List, [], length, ap, subst, sym, ◌∙◌}
use Rattle.std.proofs.lemmas.Option.{slice_get_past}
use Rattle.std.specs.Ordering.{nat_cmp}
use Rattle.dg_values.specs.Ascending.{ascending}
use Rattle.dg_uids.specs.Sets.{common}
use Rattle.dg_check.specs.declared.vars.Variable.{Variable}
use Rattle.dg_check.specs.Vars.{nodes_by, nodes_of}
use Rattle.dg_upsert.proofs.GivingLaws.{none_common}
use Rattle.dg_upsert.proofs.known.common_with.Goals as goal

pub returns-in-None : goal.returns-in-None
returns-in-None c =
    let vars = c.args.vars.now.variables in
    let past : length c.as_slice.result.now ≤ c.args.place = search rules in
    let none : nodes_of vars c.args.place ≡ [] = ap nodes_by (slice_get_past vars c.args.place (subst (λ (vs : List Variable). length vs ≤ c.args.place) c.as_slice.ensures past)) in
    c.gathered.ensures.nodes ∙ (ap (ascending nat_cmp) c.new.ensures.items ∙ sym (ap (common c.args.nodes.now) none ∙ none_common c.args.nodes.now))

use Rattle.std.proofs.Common.{length, ap, sym, ◌∙◌}
use Rattle.std.specs.List.{list_any, list_all}
use Rattle.dg_upsert.specs.Conditions.{nodes_named, count_stands, holds, part_holds}
use Rattle.dg_upsert.proofs.ConditionLaws.{part_or, part_and, part_len}
use Rattle.dg_upsert.proofs.conditions.+condition.Goals as goal

pub part_holds-returns-in-Or : goal.part_holds-returns-in-Or
part_holds-returns-in-Or t c =
    let names = c.args.known.now.names in
    let vars = c.args.known.now.vars.now.variables in
    c.any_holds.ensures ∙ (ap (list_any (holds names vars)) c.as_slice.ensures ∙ (sym (part_or names vars c.in-Or.parts) ∙ ap (part_holds names vars) (sym c.in-Or.is)))

pub part_holds-returns-in-And : goal.part_holds-returns-in-And
part_holds-returns-in-And t c =
    let names = c.args.known.now.names in
    let vars = c.args.known.now.vars.now.variables in
    c.all_hold.ensures ∙ (ap (list_all (holds names vars)) c.as_slice-in-And.ensures ∙ (sym (part_and names vars c.in-And.parts) ∙ ap (part_holds names vars) (sym c.in-And.is)))

pub part_holds-returns-in-Len : goal.part_holds-returns-in-Len
part_holds-returns-in-Len t c =
    let names = c.args.known.now.names in
    let vars = c.args.known.now.vars.now.variables in
    let nodes = c.nodes_named.ensures ∙ ap (nodes_named names vars) c.as_str.ensures in
    c.count_stands.ensures ∙ ((λ i. count_stands c.in-Len.op (length (nodes i)) c.in-Len.n)
    ∙ (sym (part_len names vars c.in-Len.op c.in-Len.var c.in-Len.n) ∙ ap (part_holds names vars) (sym c.in-Len.is)))

use Rattle.std.proofs.Common.{List, map, ap, sym, subst, ◌∙◌}
use Rattle.std.proofs.lemmas.Result.{IfOk-weaker}
use Rattle.dg_values.specs.Ascending.{Ascends}
use Rattle.dg_values.specs.Order.{posting_cmp}
use Rattle.dg_values.specs.declared.value.Posting.{Posting}
use Rattle.dg_graph.specs.Graphs.{triple_cmp}
use Rattle.dg_graph.specs.declared.change.Triple.{Triple}
use Rattle.dg_graph.proofs.ObjectLaws.{objects_ascend}
use Rattle.dg_graph.proofs.graph.Graph.objects.Goals as goal

pub returns-clause-ascend : goal.returns-clause-ascend
returns-clause-ascend c =
    IfOk-weaker c.copied_objects.result _ (λ v. Ascends posting_cmp v.items)
    (λ v e. subst (λ (os : List Posting). Ascends posting_cmp os) (sym (ap (map (λ (t : Triple). t.o)) c.of_subject.ensures) ∙ sym e) (objects_ascend c.as_slice.result.now c.args.p.now c.args.s (subst (λ (ts : List Triple). Ascends triple_cmp ts) (sym c.as_slice.ensures.value) c.self.invariant)))
    c.copied_objects.ensures

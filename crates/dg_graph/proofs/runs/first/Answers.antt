use Rattle.std.proofs.Common.{rules}
use Rattle.std.specs.Ordering.{is_lt}
use Rattle.std.proofs.lemmas.List.Sorted.{IsPartitionPoint-from_clause}
use Rattle.dg_graph.specs.Subjects.{subject_cmp}
use Rattle.dg_graph.proofs.SubjectRuns.{parted_before}
use Rattle.dg_graph.proofs.runs.first.Goals as goal

pub returns-clause-point : goal.returns-clause-point
returns-clause-point c =
    IsPartitionPoint-from_clause (λ t. is_lt (subject_cmp c.args.p.now c.args.s t)) _ _ c.partition_point.ensures.partitioned (parted_before c.args.p.now c.args.s c.args.triples.now c.requires.ascend) (λ a r q k. search rules)

use Rattle.std.proofs.Common.{◌≡◌, map, take}
use Rattle.std.specs.Prelude.{◌&&◌, filter}
use Rattle.std.specs.Ordering.{is_eq}
use Rattle.dg_values.specs.Order.{posting_cmp}
use Rattle.dg_values.specs.declared.value.Posting.TheVariants.{Uid}
use Rattle.dg_graph.specs.Graphs.{is_of}
use Rattle.dg_graph.proofs.found.subjects.Given as goal

abbrev pub invariant-loop-triple : goal.invariant-loop-triple
invariant-loop-triple l = l.found.items ≡ map (λ t. t.s) (filter (λ t. is_of l.p t && is_eq (posting_cmp t.o (Uid l.o))) (take l.triple-index l.triples))

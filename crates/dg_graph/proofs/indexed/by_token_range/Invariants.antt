use Rattle.std.proofs.Common.{◌≡◌, map, take}
use Rattle.std.specs.Prelude.{◌&&◌, filter, option_copied}
use Rattle.dg_graph.specs.Graphs.{is_of}
use Rattle.dg_graph.specs.Lookups.{has_token_between}
use Rattle.dg_graph.proofs.indexed.by_token_range.Given as goal

abbrev pub invariant-loop-triple : goal.invariant-loop-triple
invariant-loop-triple l = l.found.items ≡ map (λ t. t.s) (filter (λ t. is_of l.p t && has_token_between l.tokenizer (option_copied l.low) (option_copied l.high) t.o) (take l.triple-index l.triples))

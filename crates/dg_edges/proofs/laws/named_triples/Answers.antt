use Rattle.dg_edges.proofs.Members.{lists_by_keys, unlisted}
use Rattle.dg_edges.proofs.TripleKeys.{changes_are_named}
use Rattle.dg_edges.proofs.laws.named_triples.Goals as goal

pub returns : goal.returns
returns c = record { named = changes_are_named; lists = lists_by_keys; others = unlisted }

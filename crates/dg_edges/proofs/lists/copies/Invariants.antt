use Rattle.std.proofs.Common.{◌≡◌, take}
use Rattle.dg_edges.proofs.lists.copies.Given as goal

abbrev pub invariant-loop-posting : goal.invariant-loop-posting
invariant-loop-posting l = l.copies.items ≡ take l.posting-index l.postings

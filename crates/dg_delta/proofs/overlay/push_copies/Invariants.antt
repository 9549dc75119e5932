use Rattle.std.proofs.Common.{◌≡◌, ◌++◌, take}
use Rattle.dg_delta.proofs.overlay.push_copies.Given as goal

abbrev pub invariant-loop-posting : goal.invariant-loop-posting
invariant-loop-posting l = l.list.items ≡ l.initial.list.items ++ take l.posting-index l.postings

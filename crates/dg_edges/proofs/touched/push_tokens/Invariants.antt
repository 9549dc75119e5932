use Rattle.std.proofs.Common.{◌≡◌, ◌++◌, flat_map, take}
use Rattle.dg_zero.specs.Listings.{keys_of_token}
use Rattle.dg_edges.proofs.touched.push_tokens.Given as goal

abbrev pub invariant-loop-token : goal.invariant-loop-token
invariant-loop-token l = l.found.items ≡ l.fn.found.items ++ flat_map (keys_of_token l.def l.t) (take l.token-index l.tokens)

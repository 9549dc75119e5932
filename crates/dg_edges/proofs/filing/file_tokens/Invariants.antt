use Rattle.std.proofs.Common.{◌≡◌, ◌++◌, map, take}
use Rattle.dg_edges.specs.Filing.{filed_token}
use Rattle.dg_edges.proofs.filing.file_tokens.Given as goal

abbrev pub invariant-loop-token : goal.invariant-loop-token
invariant-loop-token l = l.filed.items ≡ l.fn.filed.items ++ map (filed_token l.p l.s) (take l.token-index l.tokens)

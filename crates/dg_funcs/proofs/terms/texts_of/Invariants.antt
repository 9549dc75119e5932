use Rattle.std.proofs.Common.{◌≡◌, ◌++◌}
use Rattle.std.specs.Prelude.{filter_map}
use Rattle.dg_funcs.specs.Tests.{token_text}
use Rattle.dg_funcs.proofs.terms.texts_of.Given as goal

-- those so far, and those that are left, are all
abbrev pub invariant-loop-token : goal.invariant-loop-token
invariant-loop-token l = l.texts.items ++ filter_map token_text l.token-iterator.rest.items ≡ filter_map token_text l.fn.tokens.items

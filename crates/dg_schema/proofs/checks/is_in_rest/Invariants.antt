use Rattle.std.proofs.Common.{◌≡◌, drop}
use Rattle.dg_schema.specs.Grammar.{is_in}
use Rattle.dg_schema.proofs.checks.is_in_rest.Given as goal

abbrev pub invariant-loop-i : goal.invariant-loop-i
invariant-loop-i l = is_in l.tokenizer (drop l.i l.listed) ≡ is_in l.tokenizer (drop l.start l.listed)

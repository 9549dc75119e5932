use Rattle.std.proofs.Common.{◌≡◌, drop, ◌-◌}
use Rattle.dg_text.specs.Reading.{turns}
use Rattle.dg_text.specs.Tokens.{toks}
use Rattle.dg_nquad.specs.Grammar.{begins_statement, statement, statements}
use Rattle.dg_nquad.proofs.grammar.statements_at.Given as goal

abbrev pub invariant-loop : goal.invariant-loop
invariant-loop l =
    turns (l.most - l.counter) begins_statement (statement l.block) l.all (drop l.at (toks l.tokens))
    ≡ statements l.fn.block l.fn.before (drop l.fn.start (toks l.fn.tokens))

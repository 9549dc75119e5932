use Rattle.std.proofs.Common.{◌≡◌, drop, ◌-◌}
use Rattle.dg_text.specs.Reading.{next, repeated, turns}
use Rattle.dg_text.specs.Tokens.{toks, is_at}
use Rattle.dg_schema.specs.Grammar.{directive, unmarked}
use Rattle.dg_schema.proofs.grammar.directives_at.Given as goal

abbrev pub invariant-loop : goal.invariant-loop
invariant-loop l =
    turns (l.most - l.counter) (next is_at) directive l.marks (drop l.at (toks l.tokens))
    ≡ repeated (next is_at) directive unmarked (drop l.fn.start (toks l.fn.tokens))

use Rattle.std.proofs.Common.{◌≡◌, drop, ◌-◌, []}
use Rattle.dg_text.specs.Reading.{repeated, turns}
use Rattle.dg_text.specs.Tokens.{toks}
use Rattle.dg_nquad.specs.Grammar.{begins_group, group}
use Rattle.dg_nquad.proofs.grammar.more_groups_at.Given as goal

abbrev pub invariant-loop : goal.invariant-loop
invariant-loop l =
    turns (l.most - l.counter) begins_group (group l.upsert) l.all (drop l.at (toks l.tokens))
    ≡ repeated begins_group (group l.fn.upsert) [] (drop l.fn.start (toks l.fn.tokens))

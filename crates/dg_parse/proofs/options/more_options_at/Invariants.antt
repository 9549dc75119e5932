use Rattle.std.proofs.Common.{◌≡◌, ◌-◌}
use Rattle.dg_text.specs.Reading.{next, turns}
use Rattle.dg_text.specs.Tokens.{toks, is_punct}
use Rattle.dg_text.specs.Cases.{upon, repeated, left_of}
use Rattle.dg_text.specs.Marks.{comma}
use Rattle.dg_parse.specs.Directives.{comma_ropt}
use Rattle.dg_parse.proofs.options.more_options_at.Given as goal

abbrev pub invariant-loop : goal.invariant-loop
invariant-loop l =
    turns (l.most - l.counter) (upon (next (is_punct comma))) (comma_ropt) l.all (left_of (toks l.tokens) l.p)
    ≡ repeated (next (is_punct comma)) (comma_ropt) l.fn.before (left_of (toks l.fn.tokens) l.fn.start)

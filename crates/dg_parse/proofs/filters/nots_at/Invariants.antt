use Rattle.std.proofs.Common.{◌≡◌, ◌-◌, ◌≤◌}
use Rattle.dg_text.specs.Reading.{next, turns}
use Rattle.dg_text.specs.Tokens.{toks, is_word_any_case}
use Rattle.std.specs.Prelude.{codes}
use Rattle.dg_text.specs.Cases.{upon, repeated, left_of}
use Rattle.dg_parse.specs.Filters.{one_not}
use Rattle.dg_parse.proofs.filters.nots_at.Given as goal

abbrev pub invariant-loop : goal.invariant-loop
invariant-loop l = record {
  so_far : turns (l.most - l.counter) (upon (next (is_word_any_case (codes "not")))) one_not l.count (left_of (toks l.tokens) l.p)
      ≡ repeated (next (is_word_any_case (codes "not"))) one_not 0 (left_of (toks l.fn.tokens) l.fn.start);
  counted : l.count ≤ l.counter;
}

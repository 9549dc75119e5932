use Rattle.std.proofs.Common.{◌≡◌, ◌+◌, ◌-◌, ◌*◌}
use Rattle.dg_text.specs.Reading.{next, turns}
use Rattle.dg_text.specs.Tokens.{toks, is_word_any_case}
use Rattle.std.specs.Prelude.{codes}
use Rattle.dg_text.specs.Cases.{upon, repeated, left_of}
use Rattle.dg_parse.specs.Filters.{and_more, or_more, filter}
use Rattle.dg_parse.proofs.filters.+filter.Given as goal

-- each calls only those above it at its depth, and a filter those at a smaller depth
abbrev pub decreases-filter_at : goal.decreases-filter_at
decreases-filter_at l = 12 * l.depth + 0

abbrev pub decreases-bracketed_at : goal.decreases-bracketed_at
decreases-bracketed_at l = 12 * l.depth + 1

abbrev pub decreases-atom_at : goal.decreases-atom_at
decreases-atom_at l = 12 * l.depth + 2

abbrev pub decreases-not_at : goal.decreases-not_at
decreases-not_at l = 12 * l.depth + 3

abbrev pub decreases-and_more_at : goal.decreases-and_more_at
decreases-and_more_at l = 12 * l.depth + 4

abbrev pub decreases-ands_from : goal.decreases-ands_from
decreases-ands_from l = 12 * l.depth + 5

abbrev pub decreases-and_rest_at : goal.decreases-and_rest_at
decreases-and_rest_at l = 12 * l.depth + 6

abbrev pub decreases-and_at : goal.decreases-and_at
decreases-and_at l = 12 * l.depth + 7

abbrev pub decreases-or_more_at : goal.decreases-or_more_at
decreases-or_more_at l = 12 * l.depth + 8

abbrev pub decreases-ors_from : goal.decreases-ors_from
decreases-ors_from l = 12 * l.depth + 9

abbrev pub decreases-or_rest_at : goal.decreases-or_rest_at
decreases-or_rest_at l = 12 * l.depth + 10

abbrev pub decreases-or_at : goal.decreases-or_at
decreases-or_at l = 12 * l.depth + 11

abbrev pub invariant-ands_from-loop : goal.invariant-ands_from-loop
invariant-ands_from-loop l =
    turns (l.most - l.counter) (upon (next (is_word_any_case (codes "and")))) (and_more (filter l.depth)) l.all (left_of (toks l.tokens) l.p)
    ≡ repeated (next (is_word_any_case (codes "and"))) (and_more (filter l.fn.depth)) l.fn.before (left_of (toks l.fn.tokens) l.fn.start)

abbrev pub invariant-ors_from-loop : goal.invariant-ors_from-loop
invariant-ors_from-loop l =
    turns (l.most - l.counter) (upon (next (is_word_any_case (codes "or")))) (or_more (filter l.depth)) l.all (left_of (toks l.tokens) l.p)
    ≡ repeated (next (is_word_any_case (codes "or"))) (or_more (filter l.fn.depth)) l.fn.before (left_of (toks l.fn.tokens) l.fn.start)

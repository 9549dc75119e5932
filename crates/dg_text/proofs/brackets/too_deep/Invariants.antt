use Rattle.std.proofs.Common.{◌≡◌, ◌≤◌, drop}
use Rattle.dg_text.specs.Tokens.{toks}
use Rattle.dg_text.specs.Brackets.{deep_from, too_deep}
use Rattle.dg_text.proofs.brackets.too_deep.Given as goal

abbrev pub invariant-loop-at : goal.invariant-loop-at
invariant-loop-at l =
    (deep_from l.most l.opened l.closed (drop l.at (toks l.tokens)) ≡ too_deep l.fn.most (toks l.tokens)) × (l.opened ≤ l.at) × (l.closed ≤ l.at)

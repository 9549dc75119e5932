use Rattle.std.proofs.Common.{◌≡◌, drop, ◌-◌}
use Rattle.dg_text.specs.Reading.{next, repeated, turns}
use Rattle.dg_text.specs.Tokens.{toks, is_punct}
use Rattle.dg_text.specs.Marks.{comma}
use Rattle.dg_schema.specs.Grammar.{comma_tokenizer}
use Rattle.dg_schema.proofs.grammar.more_tokenizers_at.Given as goal

abbrev pub invariant-loop : goal.invariant-loop
invariant-loop l =
    turns (l.most - l.counter) (next (is_punct comma)) comma_tokenizer l.all (drop l.at (toks l.tokens))
    ≡ repeated (next (is_punct comma)) comma_tokenizer l.fn.first (drop l.fn.start (toks l.fn.tokens))

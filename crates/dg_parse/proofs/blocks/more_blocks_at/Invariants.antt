use Rattle.std.proofs.Common.{◌≡◌, ◌-◌, []}
use Rattle.dg_text.specs.Reading.{next, turns}
use Rattle.dg_text.specs.Tokens.{toks, is_name}
use Rattle.dg_text.specs.Cases.{upon, repeated, left_of}
use Rattle.dg_parse.specs.Grammar.{block}
use Rattle.dg_parse.proofs.blocks.more_blocks_at.Given as goal

abbrev pub invariant-loop : goal.invariant-loop
invariant-loop l =
    turns (l.most - l.counter) (upon (next is_name)) block l.all (left_of (toks l.tokens) l.p)
    ≡ repeated (next is_name) block [] (left_of (toks l.fn.tokens) l.fn.start)

use Rattle.std.proofs.Common.{◌≡◌, ◌-◌}
use Rattle.dg_text.specs.Reading.{turns}
use Rattle.dg_text.specs.Tokens.{toks}
use Rattle.dg_text.specs.Cases.{upon, repeated, left_of}
use Rattle.dg_parse.specs.Upsert.{begins_mut, mut_of}
use Rattle.dg_parse.proofs.upserts.more_muts_at.Given as goal

abbrev pub invariant-loop : goal.invariant-loop
invariant-loop l =
    turns (l.most - l.counter) (upon begins_mut) mut_of l.all (left_of (toks l.tokens) l.p)
    ≡ repeated begins_mut mut_of l.fn.before (left_of (toks l.fn.tokens) l.fn.start)

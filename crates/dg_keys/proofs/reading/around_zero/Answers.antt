use Rattle.std.proofs.Common.{rules}
use Rattle.dg_keys.proofs.Spelled.{first_is, none_is}
use Rattle.dg_keys.proofs.reading.around_zero.Goals as goal

pub returns-in-Some : goal.returns-in-Some
returns-in-Some c =
    let told = first_is c.args.bytes.now c.in-Some.at (search rules) in
    rw (c.split_at.ensures.front, c.split_at-in-Some.ensures.back) told

pub returns-in-None : goal.returns-in-None
returns-in-None c = none_is c.args.bytes.now (search rules)

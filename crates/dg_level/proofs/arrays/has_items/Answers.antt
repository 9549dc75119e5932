use Rattle.std.proofs.Common.{◌<◌, length, map, rules}
use Rattle.dg_level.specs.Rows.{objects_of}
use Rattle.dg_level.proofs.PartLaws.{some_first}
use Rattle.dg_level.proofs.arrays.has_items.Goals as goal

pub returns : goal.returns
returns c = λ f rows among.
    let long : 0 < length c.args.front.now = search rules in
    some_first c.args.front.now (objects_of (map f c.args.list.now)) long

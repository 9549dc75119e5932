use Rattle.std.proofs.Common.{◌≡◌, ◌+◌, ◌*◌, map, flat_map, take}
use Rattle.dg_level.specs.Flats.{weight_in}
use Rattle.dg_level.specs.Rows.{AreOfLevel}
use Rattle.dg_level.specs.FlatLevels.{FlatsOf}
use Rattle.dg_level.proofs.flat_room.room_behind_list.Given as goal

abbrev pub invariant-loop-node : goal.invariant-loop-node
invariant-loop-node l = (f : FlatsOf) → l.below ≡ map f l.level → AreOfLevel l.level l.list → l.left + l.times * weight_in (flat_map f (take l.node-index l.list)) ≡ l.room

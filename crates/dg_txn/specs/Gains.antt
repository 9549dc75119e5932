-- What lists gain and lose by a transaction's changes, by key, and what a further step makes of that.
use Rattle.std.specs.Prelude.{Option, Some, None, List, [], ◌∷◌, filter, fold, map, not}
use Rattle.dg_values.specs.Ascending.{has, with_one}
use Rattle.dg_delta.specs.declared.op.Op.{Op}
use Rattle.dg_delta.specs.Ops.{op_cmp}
use Rattle.dg_keys.specs.declared.key.Key.{Key}
use Rattle.dg_keys.specs.declared.record.Part.{Part}
use Rattle.dg_keys.specs.Keys.{key_cmp, ops_at}
use Rattle.dg_pages.specs.Entries.{changed_all}

-- the parts that keys with their operations are (this project's own)
abbrev pub parts_from : List (Key × List Op) → List Part
parts_from entries = map (λ e. record { key = e.0; ops = e.1 }) entries

-- the keys of parts, with their operations
abbrev pub entries_from : List Part → List (Key × List Op)
entries_from parts = map (λ (part : Part). (part.key, part.ops)) parts

-- the operations on postings on which others have none
abbrev pub apart_from : List Op → List Op → List Op
apart_from others ops = filter (λ op. not (has op_cmp others op)) ops

-- the operations from the start on a list, by own ones and then a step's: two on one posting undo each other, and all others stay, ascending by posting
abbrev pub composed : List Op → List Op → List Op
composed own step = fold (with_one op_cmp) (apart_from step own) (apart_from own step)

-- no operations are none at the key
abbrev pub some_ops : List Op → Option (List Op)
some_ops [] = None
some_ops (op ∷ ops) = Some (op ∷ ops)

-- what a part of a step makes of the operations at its key
abbrev pub change_by : List Part → Part → Key × Option (List Op)
change_by own part = (part.key, some_ops (composed (ops_at own part.key) part.ops))

-- the parts after a step
abbrev pub parts_after : List Part → List Part → List Part
parts_after own step = parts_from (changed_all key_cmp (entries_from own) (map (change_by own) step))

use Rattle.std.proofs.Common.{◌≡◌, map, take}
use Rattle.dg_tree.specs.Texts.{key_text}
use Rattle.dg_level.specs.Keys.{all_count_keys}
use Rattle.dg_level.proofs.keys.counts_of.Given as goal

abbrev pub invariant-loop-field : goal.invariant-loop-field
invariant-loop-field l = l.texts ≡ map key_text (all_count_keys (take l.field-index l.fields))

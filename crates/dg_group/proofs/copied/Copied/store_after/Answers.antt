use Rattle.std.proofs.Common.{[], ◌∷◌}
use Rattle.dg_values.specs.Ascending.{Ascends}
use Rattle.dg_delta.specs.Ops.{AreOps, op_cmp}
use Rattle.dg_keys.specs.declared.record.Part.{Part}
use Rattle.dg_sets.proofs.Sets.{all_with, all_passed}
use Rattle.dg_store.specs.Stores.{is_held}
use Rattle.dg_group.proofs.CopyPlaces.{all_newer}
use Rattle.dg_group.proofs.Lists.{held_ascend}
use Rattle.dg_group.proofs.copied.Copied.store_after.Goals as goal

pub with_parts-requires-clause-parts : goal.with_parts-requires-clause-parts
with_parts-requires-clause-parts c =
    rw (c.parts_of-parts.ensures, c.as_slice.ensures) (held_ascend (c.args.self.now.pred ∷ []) c.args.rec.now.parts c.requires.parts.ascend)

pub with_parts-requires-clause-each : goal.with_parts-requires-clause-each
with_parts-requires-clause-each c =
    rw (c.parts_of-parts.ensures, c.as_slice.ensures)
    (all_passed (λ (part : Part). Ascends op_cmp part.ops) (is_held (c.args.self.now.pred ∷ [])) c.args.rec.now.parts (all_with (λ (part : Part). AreOps part.ops) (λ part. Ascends op_cmp part.ops) c.args.rec.now.parts (λ part a. a.ascend) c.requires.parts.each))

pub with_parts-requires-clause-newer : goal.with_parts-requires-clause-newer
with_parts-requires-clause-newer c = all_newer c.args.rec.now.ts c.args.self.now.store c.parts_of-parts.result.now c.requires.some c.requires.newer

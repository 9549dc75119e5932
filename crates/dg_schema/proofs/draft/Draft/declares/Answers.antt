use Rattle.std.proofs.Common.{◌∙◌}
use Rattle.dg_schema.proofs.Drafts.{declares}
use Rattle.dg_schema.proofs.draft.Draft.declares.Goals as goal

pub returns : goal.returns
returns c = rw (← c.self.view_is) (c.contains_key.ensures ∙ declares c.self.inside.definitions.items c.self.inside.places.entries c.args.name.now c.self.invariant)

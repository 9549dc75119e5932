use Rattle.dg_schema.proofs.InPlace.{replaced_with, replaced_indexed}
use Rattle.dg_schema.proofs.placing.replace.Goals as goal

pub returns-clause-items : goal.returns-clause-items
returns-clause-items c = replaced_with c.args.definitions.now.items c.args.place c.args.definition c.requires.indexed.distinct c.requires.there

pub returns-clause-indexed : goal.returns-clause-indexed
returns-clause-indexed c = replaced_indexed c.args.definitions.now.items c.args.by_name.now c.args.place c.args.definition c.requires.indexed c.requires.there

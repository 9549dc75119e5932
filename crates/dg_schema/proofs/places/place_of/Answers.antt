use Rattle.std.proofs.Common.{◌<◌, length}
use Rattle.dg_schema.proofs.ByName.{all_at, missing_at}
use Rattle.dg_schema.proofs.places.place_of.Goals as goal

pub returns-in-Some-clause-there : goal.returns-in-Some-clause-there
returns-in-Some-clause-there c = record {
  within = all_at (λ p. p < length c.args.definitions.now) c.args.places.now c.below-here.result c.in-Some.place c.requires.indexed.within c.in-Some.ensures.some;
  named = c.in-Some.ensures.named;
}

pub returns-in-None-clause-missing : goal.returns-in-None-clause-missing
returns-in-None-clause-missing c =
    missing_at c.args.definitions.now c.args.places.now c.args.name.now c.below-here.result c.requires.indexed c.below-here.ensures.within c.below-here.ensures.point.0 c.below-here.ensures.point.1 c.in-None.ensures.none

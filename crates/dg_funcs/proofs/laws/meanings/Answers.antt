use Rattle.dg_funcs.proofs.MeaningLaws.{funcs_mean, roots_mean}
use Rattle.dg_funcs.proofs.FilterMeanings.{filters_mean}
use Rattle.dg_funcs.proofs.laws.meanings.Goals as goal

pub returns : goal.returns
returns c = record { funcs = funcs_mean; filters = filters_mean; roots = roots_mean }

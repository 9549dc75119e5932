use Rattle.dg_check.proofs.BuildLaws.{dir_made, no_dirs_made}
use Rattle.dg_check.proofs.building.filter_of_dir.Goals as goal

pub returns-in_ok-made-in-Filter : goal.returns-in_ok-made-in-Filter
returns-in_ok-made-in-Filter c =
    λ schema ds. dir_made schema ds c.args.dir.now c.in-Filter.filter c.filter_of.result c.in_ok-made-in-Filter.made c.args.reads.now.items c.filter_of.new.reads.items c.in-Filter.is c.in_ok-made-in-Filter.was (λ after. c.filter_of.ensures schema ds after)

pub returns-in-Cascade : goal.returns-in-Cascade
returns-in-Cascade c = λ schema ds. no_dirs_made schema ds c.args.dir.now c.args.reads.now.items c.in-Cascade.is

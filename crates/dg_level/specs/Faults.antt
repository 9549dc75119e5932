-- Why a query has no answer.
use Rattle.dg_tree.specs.declared.fault.TreeFault.{TreeFault}
use Rattle.dg_tree.specs.declared.fault.TreeFault.TheVariants as trees
use Rattle.dg_level.specs.declared.fault.RunFault.{RunFault}
use Rattle.dg_level.specs.declared.fault.RunFault.TheVariants as faults

-- why there is no answer where there is no text
abbrev pub fault_of_tree : TreeFault → RunFault
fault_of_tree trees.OutOfMemory = faults.OutOfMemory
fault_of_tree trees.TooLarge = faults.TooLarge

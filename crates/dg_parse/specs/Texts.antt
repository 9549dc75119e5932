-- How a fault is printed.
use Rattle.std.specs.Prelude.{ℕ, List, ◌++◌, codes}
use Rattle.std.specs.Fmt.{decimal}
use Rattle.dg_parse.specs.declared.fault.DqlFault.{DqlFault}
use Rattle.dg_parse.specs.declared.fault.DqlFault.TheVariants as faults

-- the sentence of a fault, with its offset in decimal digits
abbrev pub fault_text : DqlFault → List ℕ
fault_text faults.OutOfMemory = codes "out of memory"
fault_text (faults.BadToken offset) = codes "no token starts at byte " ++ decimal offset
fault_text (faults.TooDeep offset) = codes "too many brackets are open at byte " ++ decimal offset
fault_text (faults.BadSyntax offset) = codes "no query by byte " ++ decimal offset

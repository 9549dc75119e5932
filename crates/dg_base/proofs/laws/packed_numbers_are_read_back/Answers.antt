use Rattle.dg_base.proofs.Unpacking.{unpacked-packed}
use Rattle.dg_base.proofs.laws.packed_numbers_are_read_back.Goals as goal

pub returns : goal.returns
returns c = unpacked-packed

use Rattle.dg_schema.proofs.BackAgain.{reads_back}
use Rattle.dg_schema.proofs.Writable.{text_written, joined_readable}
use Rattle.dg_schema.proofs.laws.schemas_read_back.Goals as goal

pub returns : goal.returns
returns c = record { back = reads_back; readable = text_written; joined = joined_readable }

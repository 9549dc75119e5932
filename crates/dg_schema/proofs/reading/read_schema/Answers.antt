use Rattle.dg_schema.proofs.Writable.{text_written}
use Rattle.dg_schema.proofs.reading.read_schema.Goals as goal

pub made-requires : goal.made-requires
made-requires c = record { readable = (text_written c.args.text.now c.in_ok-read_draft.field-0 c.in_ok-read_draft.ensures).0 }

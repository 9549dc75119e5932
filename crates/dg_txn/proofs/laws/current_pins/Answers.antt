use Rattle.dg_txn.proofs.BegunPins.{begun_pins_hold, present_pins_hold}
use Rattle.dg_txn.proofs.laws.current_pins.Goals as goal

pub returns : goal.returns
returns c = record { present = present_pins_hold; begun = begun_pins_hold }

-- What an answer may be.
use Rattle.std.specs.Prelude.{◌≡◌}
use Rattle.dg_wire.specs.declared.refusal.Refusal.{Refusal}
use Rattle.dg_wire.specs.declared.refusal.Refusal.TheVariants as refusals
use Rattle.dg_wire.specs.declared.reply.Reply.{Reply}
use Rattle.dg_wire.specs.declared.reply.Reply.TheVariants as replies
use Rattle.dg_node.specs.Machine.{Machine}

-- a refusal, after which the state is as before
abbrev pub refused : Machine → Refusal → Reply × Machine
refused machine refusal = (replies.Refused refusal, machine)

-- The verb or the form isn't built, and the state is as before.
abbrev pub IsUnbuilt : Machine → Reply → Machine → Type 0
IsUnbuilt old reply new = refused old refusals.Unbuilt ≡ (reply, new)

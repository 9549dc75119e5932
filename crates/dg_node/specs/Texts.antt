-- Bodies that are texts.
use Rattle.std.specs.Prelude.{ℕ, ◌==◌, if◌then◌else◌, List, length}
use Rattle.std.specs.Str.Lossy.{utf8_valid_len}
use Rattle.dg_wire.specs.declared.refusal.Refusal.TheVariants as refusals
use Rattle.dg_wire.specs.declared.reply.Reply.{Reply}
use Rattle.dg_node.specs.Machine.{Machine}
use Rattle.dg_node.specs.Replying.{refused}

-- What comes of a body that is UTF-8; another is refused before all else, at the first byte that belongs to no whole character.
abbrev pub by_text : Machine → List ℕ → Reply × Machine → Reply × Machine
by_text machine body said =
    if utf8_valid_len body == length body then said else refused machine (refusals.BadToken (utf8_valid_len body))

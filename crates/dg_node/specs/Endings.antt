-- What a status is outside: a number and a text.
use Rattle.std.specs.Prelude.{ℕ, List, ◌++◌, codes}
use Rattle.std.specs.Fmt.{decimal}
use Rattle.dg_node.specs.declared.status.Status.{Status}
use Rattle.dg_node.specs.declared.status.Status.TheVariants as statuses

-- the number that the process ends with
abbrev pub number_of : Status → ℕ
number_of statuses.Done = 0
number_of statuses.ReadFault = 1
number_of statuses.WriteFault = 2
number_of statuses.BadWords = 3
number_of (statuses.BadFrame offset) = 4
number_of statuses.TooLong = 5
number_of statuses.OutOfMemory = 6

-- the text on standard error, without its line feed
abbrev pub message_of : Status → List ℕ
message_of statuses.Done = codes "dgraph: done"
message_of statuses.ReadFault = codes "dgraph: read fault"
message_of statuses.WriteFault = codes "dgraph: write fault"
message_of statuses.BadWords = codes "dgraph: bad words"
message_of (statuses.BadFrame offset) = codes "dgraph: bad frame at " ++ decimal offset
message_of statuses.TooLong = codes "dgraph: input too long"
message_of statuses.OutOfMemory = codes "dgraph: out of memory"

-- What the replies to a generated script come to.
use Rattle.std.specs.Prelude.{◌≡◌, ℕ, ◌+◌, ◌*◌, ◌^◌, ◌≤◌, Bool, true, false, not, if◌then◌else◌, List, [], ◌∷◌, ◌++◌, length, filter, codes}
use Rattle.std.specs.declared.option.Option.{Option}
use Rattle.std.specs.Fmt.{decimal}
use Rattle.std.specs.Io.KnownBytes.{Appends}
use Rattle.dg_io.specs.Pieces.{AppendsPart}
use Rattle.dg_check.specs.declared.patterns.Refusal.{Refusal as BadPattern}
use Rattle.dg_wire.specs.declared.request.Request.{Request}
use Rattle.dg_wire.specs.declared.reply.Reply.{Reply}
use Rattle.dg_wire.specs.declared.reply.Reply.TheVariants as replies
use Rattle.dg_wire.specs.Generator.{generated}
use Rattle.dg_wire.specs.Replies.{reply_text, replies_text}
use Rattle.dg_node.specs.declared.status.Status.{Status}
use Rattle.dg_node.specs.declared.status.Status.TheVariants as statuses
use Rattle.dg_node.specs.declared.loading.Totals.{Totals}
use Rattle.dg_node.specs.Machine.{Machine}
use Rattle.dg_node.specs.Steps.{Step, Run}

-- the request was refused
abbrev pub is_refused : Reply → Bool
is_refused (replies.Refused refusal) = true
is_refused reply = false

-- how many replies there are, how many of them are answers and how many refusals, and how many bytes all have
abbrev pub totals_of : List Reply → Totals
totals_of given = record {
  requests = length given;
  ok = length (filter (λ reply. not (is_refused reply)) given);
  errors = length (filter is_refused given);
  bytes = length (replies_text given);
}

-- the totals in a line, without its line feed
abbrev pub totals_text : Totals → List ℕ
totals_text totals = codes "requests " ++ (decimal totals.requests ++ (codes " ok " ++ (decimal totals.ok ++ (codes " errors " ++ (decimal totals.errors ++ (codes " bytes " ++ decimal totals.bytes))))))

-- the line that the replies come to
abbrev pub load_line : List Reply → List ℕ
load_line given = totals_text (totals_of given) ++ 10 ∷ []

-- Some run over these requests, by the empty machine of so many groups, comes to these totals. The list has the patterns that were refused.
pub record ComesTo (list : List BadPattern) (groups : ℕ) (requests : List Request) (totals : Totals) : Type 0 where
  pub given : List Reply
  pub after : Machine
  pub run : Run list groups requests given after
  pub totals_are : totals ≡ totals_of given

-- the text is the line of a run over the generated script
pub record IsLoadLine (groups seed size : ℕ) (text : List ℕ) : Type 0 where
  pub list : List BadPattern
  pub given : List Reply
  pub after : Machine
  pub run : Run list groups (generated seed size) given after
  pub text_is : text ≡ load_line given

-- How `load` ends: the line of a run was written, or a front of it where a write failed, or nothing where memory was wanting.
abbrev pub Loads : ℕ → ℕ → ℕ → Option (List ℕ) → Option (List ℕ) → Status → Type 0
Loads groups seed size held_old held_new statuses.Done = (text : List ℕ) × IsLoadLine groups seed size text × Appends held_old held_new text
Loads groups seed size held_old held_new statuses.WriteFault = (text : List ℕ) × IsLoadLine groups seed size text × AppendsPart held_old held_new text
Loads groups seed size held_old held_new statuses.OutOfMemory = Appends held_old held_new []
Loads groups seed size held_old held_new status = ⊥

-- each reply is an answer or a refusal, and has less than 2^64 bytes
abbrev pub IsSound : Totals → Type 0
IsSound totals = (totals.ok + totals.errors ≡ totals.requests) × (totals.bytes ≤ totals.requests * 2 ^ 64)

-- the totals with one more reply, of so many bytes
abbrev pub with_one : Totals → Bool → ℕ → Totals
with_one totals refused bytes =
    if refused
    then record { requests = totals.requests + 1; ok = totals.ok; errors = totals.errors + 1; bytes = totals.bytes + bytes }
    else record { requests = totals.requests + 1; ok = totals.ok + 1; errors = totals.errors; bytes = totals.bytes + bytes }

-- the request was answered, and its reply counted
pub record Counts (list : List BadPattern) (old new : Machine) (request : Request) (before after : Totals) : Type 0 where
  pub reply : Reply
  pub step : Step list old request reply new
  pub counted : after ≡ with_one before (is_refused reply) (length (reply_text reply))

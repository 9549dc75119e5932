-- What comes of an input that is frames.
use Rattle.std.specs.Prelude.{◌≡◌, ◌≢◌, ◌⊎◌, ℕ, List, Some, ◌≤◌, length}
use Rattle.std.specs.declared.option.Option.{Option}
use Rattle.std.specs.Io.KnownBytes.{Appends}
use Rattle.dg_check.specs.declared.patterns.Refusal.{Refusal as BadPattern}
use Rattle.dg_wire.specs.declared.request.Request.{Request}
use Rattle.dg_wire.specs.Frames.{frames, AreRequests}
use Rattle.dg_wire.specs.Reading.{INPUT_LIMIT}
use Rattle.dg_node.specs.declared.status.Status.{Status}
use Rattle.dg_node.specs.declared.status.Status.TheVariants as statuses
use Rattle.dg_node.specs.Script.{Script, Answered}

-- the text of the script was written
pub record WroteScript (list : List BadPattern) (groups : ℕ) (requests : List Request) (held_old held_new : Option (List ℕ)) : Type 0 where
  pub text : List ℕ
  pub script : Script list groups requests text
  pub wrote : Appends held_old held_new text

-- Where the source has the frames of these requests and no more, within the limit, and neither a read nor a write failed, the replies to all of them were written, or memory was wanting.
abbrev pub IsComplete : Type 0
IsComplete = (list : List BadPattern) (groups : ℕ) (requests : List Request) (left_new held_old held_new : Option (List ℕ)) (status : Status)
    → AreRequests requests → length (frames requests) ≤ INPUT_LIMIT
    → Answered list groups (Some (frames requests)) left_new held_old held_new status
    → status ≢ statuses.ReadFault → status ≢ statuses.WriteFault → status ≢ statuses.BadWords
    → ((status ≡ statuses.Done) × WroteScript list groups requests held_old held_new) ⊎ (status ≡ statuses.OutOfMemory)

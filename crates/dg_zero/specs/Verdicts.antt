-- Whether a commit may go through.
use Rattle.std.specs.Prelude.{ℕ, List, [], ◌∷◌, Option, Some, None, filter, flat_map, slice_get, option_map}
use Rattle.dg_values.specs.Order.{text_cmp}
use Rattle.dg_values.specs.Ascending.{ascending}
use Rattle.dg_keys.specs.declared.conflict.ConflictKey.{ConflictKey}
use Rattle.dg_keys.specs.Conflicts.{conflict_cmp}
use Rattle.dg_oracle.specs.Commits as oracle
use Rattle.dg_oracle.specs.Verdicts.{verdict as judged}
use Rattle.dg_oracle.specs.declared.verdict.Verdict.{Verdict}
use Rattle.dg_oracle.specs.declared.verdict.Verdict.TheVariants as verdicts
use Rattle.dg_zero.specs.declared.entry.Entry.{Entry}
use Rattle.dg_zero.specs.declared.entry.Event.{Event}
use Rattle.dg_zero.specs.declared.entry.Event.TheVariants as events
use Rattle.dg_zero.specs.declared.entry.Reason.{Reason}
use Rattle.dg_zero.specs.declared.entry.Reason.TheVariants.{Moving, Conflict}
use Rattle.dg_zero.specs.declared.tablets.Place.{Place}
use Rattle.dg_zero.specs.Places.{tablets, is_held}

-- the keys that an event commits
abbrev pub commit_of : Event → List (oracle.Commit ConflictKey)
commit_of (events.Commit start preds keys asked written) = (record { ts = written.ts; keys = keys }) ∷ []
commit_of event = []

-- all commits of a history with their keys
abbrev pub commits : List Entry → List (oracle.Commit ConflictKey)
commits history = flat_map (λ e. commit_of e.event) history

-- the first of these, where there is one
abbrev pub first : {X : Type 0} → List X → Option X
first [] = None
first (x ∷ xs) = Some x

-- the least of these predicates whose tablet is held
abbrev pub least_held : List Place → List (List ℕ) → Option (List ℕ)
least_held tablets preds = first (ascending text_cmp (filter (is_held tablets) preds))

-- why a commit of keys is refused by the keys of others
abbrev pub conflict : List ConflictKey → Verdict → Option Reason
conflict keys verdicts.Clear = None
conflict keys (verdicts.Conflict at ts) = option_map (λ key. Conflict key ts) (slice_get keys at)

-- a held tablet comes before a conflict
abbrev pub reason_by : Option (List ℕ) → List ConflictKey → Verdict → Option Reason
reason_by (Some pred) keys verdict = Some (Moving pred)
reason_by None keys verdict = conflict keys verdict

-- why a commit with this start, these predicates and these keys is refused after a history, if it is
abbrev pub verdict : List Entry → ℕ → List (List ℕ) → List ConflictKey → Option Reason
verdict history start preds keys = reason_by (least_held (tablets history) preds) keys (judged conflict_cmp (commits history) start keys)

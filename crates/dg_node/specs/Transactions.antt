-- What `begin`, `commit` and `discard` do.
use Rattle.std.specs.Prelude.{◌≢◌, ℕ, ◌+◌, nat_lt, if◌then◌else◌, Option, Some, None, List, [], ◌∷◌, ◌++◌, map, slice_get, option_map, IsSomeAnd}
use Rattle.dg_wire.specs.declared.refusal.Refusal.{Refusal}
use Rattle.dg_wire.specs.declared.refusal.Refusal.TheVariants as refusals
use Rattle.dg_wire.specs.declared.reply.Reply.{Reply}
use Rattle.dg_wire.specs.declared.reply.Reply.TheVariants as replies
use Rattle.dg_graph.specs.declared.change.Change.{Change}
use Rattle.dg_keys.specs.declared.conflict.ConflictKey.{ConflictKey}
use Rattle.dg_keys.specs.Conflicts.{conflict_cmp, conflict_text}
use Rattle.dg_oracle.specs.Commits as oracle
use Rattle.dg_oracle.specs.Verdicts.{verdict}
use Rattle.dg_oracle.specs.declared.verdict.Verdict.{Verdict}
use Rattle.dg_oracle.specs.declared.verdict.Verdict.TheVariants as verdicts
use Rattle.dg_zero.specs.Listings.{conflict_keys}
use Rattle.dg_node.specs.Schemas.{schema_at}
use Rattle.dg_node.specs.Graphs.{Commit, committed_at}
use Rattle.dg_node.specs.Machine.{Machine, Session, TIMESTAMP_END, session_of, is_open, with_session, without_session, drawn}
use Rattle.dg_node.specs.Replying.{refused}

-- A start timestamp is drawn, and the session's transaction is open.
abbrev pub begun : Machine → ℕ → Reply × Machine
begun machine sid =
    if is_open machine sid then refused machine (refusals.SessionOpen sid)
    else (if nat_lt machine.next TIMESTAMP_END
    then (replies.Begin sid machine.next, with_session (drawn machine (machine.next + 1)) sid machine.next)
    else refused machine (refusals.TimestampsSpent machine.next))

-- the keys by which changes conflict, made over the graph at a start under the schema there
abbrev pub keys_at : Machine → ℕ → List Change → List ConflictKey
keys_at machine start changes = conflict_keys (schema_at machine.alters start) (committed_at machine.alters machine.commits start) changes

-- a commit's timestamp and keys
abbrev pub keyed : Machine → Commit → oracle.Commit ConflictKey
keyed machine commit = record { ts = commit.ts; keys = keys_at machine commit.start commit.changes }

-- the verdict on a transaction over all commits: the least of its keys that was committed above its start, and the last timestamp at which it was
abbrev pub verdict_on : Machine → Session → Verdict
verdict_on machine session = verdict conflict_cmp (map (keyed machine) machine.commits) session.start (keys_at machine session.start session.own)

-- the refusal that a verdict on keys is
abbrev pub refusal_by : List ConflictKey → Verdict → Option Refusal
refusal_by keys verdicts.Clear = None
refusal_by keys (verdicts.Conflict at ts) = option_map (λ key. refusals.Conflict ts (conflict_text key)) (slice_get keys at)

-- why a transaction may not commit, if it may not
abbrev pub clash_of : Machine → Session → Option Refusal
clash_of machine session = refusal_by (keys_at machine session.start session.own) (verdict_on machine session)

-- the machine with one more commit
abbrev pub with_commit : Machine → Session → Machine
with_commit machine session = record machine { commits = machine.commits ++ record { start = session.start; ts = machine.next; changes = session.own } ∷ [] }

-- Where the transaction conflicts, it ends without its changes. Otherwise they are committed at the next timestamp.
abbrev pub committed_unless : Machine → Session → Option Refusal → Reply × Machine
committed_unless machine session (Some refusal) = (replies.Refused refusal, without_session machine session.sid)
committed_unless machine session None =
    if nat_lt machine.next TIMESTAMP_END
    then (replies.Commit session.sid machine.next, without_session (drawn (with_commit machine session) (machine.next + 1)) session.sid)
    else refused machine (refusals.TimestampsSpent machine.next)

-- Where nothing was changed, nothing is drawn and nothing can conflict.
abbrev pub committed_with : Machine → Session → List Change → Reply × Machine
committed_with machine session [] = (replies.Commit session.sid 0, without_session machine session.sid)
committed_with machine session (change ∷ changes) = committed_unless machine session (clash_of machine session)

-- the commit of the session's transaction, where one is open
abbrev pub committed_by : Machine → ℕ → Option Session → Reply × Machine
committed_by machine sid None = refused machine (refusals.NoSession sid)
committed_by machine sid (Some session) = committed_with machine session session.own

-- The session's transaction ends with its changes.
abbrev pub committed : Machine → ℕ → Reply × Machine
committed machine sid = committed_by machine sid (session_of machine sid)

-- The session's transaction ends without its changes.
abbrev pub discarded : Machine → ℕ → Reply × Machine
discarded machine sid = if is_open machine sid then (replies.Discard sid, without_session machine sid) else refused machine (refusals.NoSession sid)

-- the session has an open transaction with a change
abbrev pub HasChanges : Machine → ℕ → Type 0
HasChanges machine sid = IsSomeAnd (session_of machine sid) (λ session. session.own ≢ [])

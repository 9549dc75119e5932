-- What `mutate` does: it adds the changes that the statements of a text stand for to a transaction's own.
use Rattle.std.specs.Prelude.{◌≡◌, ℕ, ◌+◌, ◌==◌, ◌^◌, max, nat_le, if◌then◌else◌, Bool, true, false, Option, Some, None, List, [], ◌∷◌, length, Result, Ok, Err}
use Rattle.std.specs.Str.Lossy.{utf8_valid_len}
use Rattle.dg_wire.specs.declared.refusal.Refusal.{Refusal}
use Rattle.dg_wire.specs.declared.refusal.Refusal.TheVariants as refusals
use Rattle.dg_wire.specs.declared.reply.Reply.{Reply}
use Rattle.dg_wire.specs.declared.reply.Reply.TheVariants as replies
use Rattle.dg_nquad.specs.declared.fault.NquadFault.{NquadFault}
use Rattle.dg_nquad.specs.declared.fault.NquadFault.TheVariants as texts
use Rattle.dg_nquad.specs.declared.mutation.Statement.{Statement}
use Rattle.dg_nquad.specs.Whole.{mutation}
use Rattle.dg_edges.specs.declared.edge.Edge.{Edge}
use Rattle.dg_edges.specs.declared.fault.EdgeFault.{EdgeFault}
use Rattle.dg_edges.specs.declared.fault.EdgeFault.TheVariants as faults
use Rattle.dg_edges.specs.Resolving.{Resolves}
use Rattle.dg_edges.specs.Expanding.{new_names, top_uid, expanded}
use Rattle.dg_node.specs.Schemas.{schema_at}
use Rattle.dg_node.specs.Graphs.{graph_at}
use Rattle.dg_node.specs.Machine.{Machine, Session, session_of, with_changes, leased_upto}
use Rattle.dg_node.specs.NewUids.{uids_text}
use Rattle.dg_node.specs.Replying.{refused}

-- the refusal of a mutation that its schema doesn't allow
abbrev pub refusal_of : EdgeFault → Refusal
refusal_of (faults.NoPredicate pred) = refusals.NoPredicate pred
refusal_of (faults.WrongObject pred) = refusals.WrongObject pred
refusal_of (faults.BadLiteral pred) = refusals.BadLiteral pred
refusal_of faults.OutOfMemory = refusals.Memory

-- The first of the nodes that a mutation leases, where so many are left: they lie above each node that it names, and above all that were leased.
abbrev pub first_leased : Machine → List Edge → Option ℕ
first_leased machine edges =
    if nat_le (max machine.next_uid (top_uid edges + 1) + length (new_names edges)) (2 ^ 62)
    then Some (max machine.next_uid (top_uid edges + 1))
    else None

-- The changes are added, over the graph that the transaction sees, and the next node is the one behind the leased.
abbrev pub added_from : Machine → Session → List Edge → Option ℕ → Reply × Machine
added_from machine session edges None = refused machine (refusals.UidsSpent machine.next_uid)
added_from machine session edges (Some first) = (
  replies.Mutate session.sid (uids_text first (new_names edges)),
  with_changes (leased_upto machine (first + length (new_names edges))) session.sid (expanded (graph_at machine.alters machine.commits session.start session.own) edges first),
)

-- A mutation without statements names no node, and leases none.
abbrev pub added : Machine → Session → List Edge → Reply × Machine
added machine session [] = (replies.Mutate session.sid (uids_text 0 []), machine)
added machine session (edge ∷ edges) = added_from machine session (edge ∷ edges) (first_leased machine (edge ∷ edges))

-- what comes of statements that were checked, or of the first that was refused
abbrev pub mutated : Machine → Session → Result (List Edge) EdgeFault → Reply × Machine
mutated machine session (Ok edges) = added machine session edges
mutated machine session (Err fault) = refused machine (refusal_of fault)

-- statements are checked against the schema at the transaction's start
pub record MutatesBy (old : Machine) (session : Session) (statements : List Statement) (reply : Reply) (new : Machine) : Type 0 where
  pub checked : Result (List Edge) EdgeFault
  pub resolves : Resolves (schema_at old.alters session.start) statements checked
  pub outcome : mutated old session checked ≡ (reply, new)

-- what is read of a text: its statements, or the place of its fault
abbrev pub MutatesAs : Machine → Session → Result (List Statement) NquadFault → Reply → Machine → Type 0
MutatesAs old session (Ok statements) reply new = MutatesBy old session statements reply new
MutatesAs old session (Err (texts.BadToken offset)) reply new = refused old (refusals.BadToken offset) ≡ (reply, new)
MutatesAs old session (Err (texts.BadSyntax offset)) reply new = refused old (refusals.BadSyntax offset) ≡ (reply, new)
MutatesAs old session (Err texts.OutOfMemory) reply new = ⊥

-- A body that isn't UTF-8 is refused at the first byte that belongs to no whole character.
abbrev pub MutatesText : Machine → Session → List ℕ → Bool → Reply → Machine → Type 0
MutatesText old session body true reply new = MutatesAs old session (mutation body) reply new
MutatesText old session body false reply new = refused old (refusals.BadToken (utf8_valid_len body)) ≡ (reply, new)

-- the session's transaction has to be open, before all else
abbrev pub MutatesIn : Machine → ℕ → Option Session → List ℕ → Reply → Machine → Type 0
MutatesIn old sid (Some session) body reply new = MutatesText old session body (utf8_valid_len body == length body) reply new
MutatesIn old sid None body reply new = refused old (refusals.NoSession sid) ≡ (reply, new)

-- what a mutation of a session's transaction is answered and leaves
abbrev pub Mutates : Machine → ℕ → List ℕ → Reply → Machine → Type 0
Mutates old sid body reply new = MutatesIn old sid (session_of old sid) body reply new

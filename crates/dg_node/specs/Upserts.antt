-- What `upsert` does: its query is evaluated as one is whose blocks aren't shown, and the statements for which its mutations then stand
-- are added as those of a mutation are.
use Rattle.std.specs.Prelude.{◌≡◌, ℕ, ◌==◌, Bool, true, false, Option, Some, None, List, length, Result, Ok, Err}
use Rattle.std.specs.Str.Lossy.{utf8_valid_len}
use Rattle.dg_schema.specs.declared.definition.PredDef.{PredDef}
use Rattle.dg_graph.specs.declared.change.Triple.{Triple}
use Rattle.dg_nquad.specs.declared.mutation.Statement.{Statement}
use Rattle.dg_parse.specs.declared.fault.DqlFault.{DqlFault}
use Rattle.dg_parse.specs.declared.fault.DqlFault.TheVariants as texts
use Rattle.dg_parse.specs.declared.upsert.Upsert.{Upsert}
use Rattle.dg_parse.specs.Whole.{upsert_of}
use Rattle.dg_check.specs.declared.fault.CheckFault.{CheckFault}
use Rattle.dg_check.specs.declared.patterns.Refusal.{Refusal as BadPattern}
use Rattle.dg_check.specs.Faults.{fault_of_upsert}
use Rattle.dg_check.specs.Outcomes.{IsUpsertOutcome}
use Rattle.dg_check.specs.Variables.{names_for}
use Rattle.dg_level.specs.Meaning.{defined_in, variables_of, overflow_of}
use Rattle.dg_upsert.specs.Meaning.{mutations_mean}
use Rattle.dg_wire.specs.declared.refusal.Refusal.TheVariants as refusals
use Rattle.dg_wire.specs.declared.reply.Reply.{Reply}
use Rattle.dg_wire.specs.declared.reply.Reply.TheVariants as replies
use Rattle.dg_node.specs.Graphs.{graph_at}
use Rattle.dg_node.specs.Schemas.{schema_at}
use Rattle.dg_node.specs.Machine.{Machine, Session, session_of}
use Rattle.dg_node.specs.Mutations.{MutatesBy}
use Rattle.dg_node.specs.Queries.{refusal_of_check}
use Rattle.dg_node.specs.Replying.{refused}

-- the reply to a mutation, as an upsert gives it
abbrev pub as_upsert : Reply → Reply
as_upsert (replies.Mutate sid text) = replies.Upsert sid text
as_upsert reply = reply

-- the statements for which the mutations of an upsert block stand, by what the variables of its query have over a graph
abbrev pub statements_of : List PredDef → List Triple → Upsert → List Statement
statements_of schema graph upsert = mutations_mean (names_for false (defined_in schema upsert.query)) (variables_of schema graph upsert.query) upsert.muts

-- what the checks find in an upsert block, where these patterns were refused
abbrev pub IsFoundIn : List PredDef → List BadPattern → Upsert → Option CheckFault → Type 0
IsFoundIn schema list upsert None = fault_of_upsert schema upsert ≡ None
IsFoundIn schema list upsert (Some fault) = IsUpsertOutcome schema upsert list (Err fault)

-- statements are added as those of a mutation
pub record Adds (old : Machine) (session : Session) (statements : List Statement) (reply : Reply) (new : Machine) : Type 0 where
  pub given : Reply
  pub mutates : MutatesBy old session statements given new
  pub reply_is : reply ≡ as_upsert given

-- the same, unless a sum over the variable of this name is no number of 64 bits
abbrev pub AddsUnless : Machine → Session → List Statement → Option (List ℕ) → Reply → Machine → Type 0
AddsUnless old session statements None reply new = Adds old session statements reply new
AddsUnless old session statements (Some name) reply new = refused old (refusals.SumOverflow name) ≡ (reply, new)

-- what comes of an upsert block over a graph and its schema, or of the fault that was found in it
abbrev pub UpsertsOr : Machine → Session → List PredDef → List Triple → Upsert → Option CheckFault → Reply → Machine → Type 0
UpsertsOr old session schema graph upsert None reply new = AddsUnless old session (statements_of schema graph upsert) (overflow_of schema graph upsert.query) reply new
UpsertsOr old session schema graph upsert (Some fault) reply new = refused old (refusal_of_check fault) ≡ (reply, new)

-- an upsert block is checked under the schema, and evaluated over the graph
pub record UpsertsBy (list : List BadPattern) (old : Machine) (session : Session) (schema : List PredDef) (graph : List Triple) (upsert : Upsert) (reply : Reply) (new : Machine) : Type 0 where
  pub fault : Option CheckFault
  pub found : IsFoundIn schema list upsert fault
  pub outcome : UpsertsOr old session schema graph upsert fault reply new

-- what is read of a text: an upsert block, or the place of its fault
abbrev pub UpsertsAs : List BadPattern → Machine → Session → List PredDef → List Triple → Result Upsert DqlFault → Reply → Machine → Type 0
UpsertsAs list old session schema graph (Ok upsert) reply new = UpsertsBy list old session schema graph upsert reply new
UpsertsAs list old session schema graph (Err (texts.BadToken offset)) reply new = refused old (refusals.BadToken offset) ≡ (reply, new)
UpsertsAs list old session schema graph (Err (texts.TooDeep offset)) reply new = refused old (refusals.TooDeep offset) ≡ (reply, new)
UpsertsAs list old session schema graph (Err (texts.BadSyntax offset)) reply new = refused old (refusals.BadSyntax offset) ≡ (reply, new)
UpsertsAs list old session schema graph (Err texts.OutOfMemory) reply new = ⊥

-- A body that isn't UTF-8 is refused at the first byte that belongs to no whole character.
abbrev pub UpsertsText : List BadPattern → Machine → Session → List PredDef → List Triple → List ℕ → Bool → Reply → Machine → Type 0
UpsertsText list old session schema graph body true reply new = UpsertsAs list old session schema graph (upsert_of body) reply new
UpsertsText list old session schema graph body false reply new = refused old (refusals.BadToken (utf8_valid_len body)) ≡ (reply, new)

-- The session's transaction has to be open, before all else. It sees the schema at its start, and the graph there and then its
-- own changes.
abbrev pub UpsertsIn : List BadPattern → Machine → ℕ → Option Session → List ℕ → Reply → Machine → Type 0
UpsertsIn list old sid (Some session) body reply new =
    UpsertsText list old session (schema_at old.alters session.start) (graph_at old.alters old.commits session.start session.own) body (utf8_valid_len body == length body) reply new
UpsertsIn list old sid None body reply new = refused old (refusals.NoSession sid) ≡ (reply, new)

-- what an upsert is answered and leaves, where these patterns were refused by the end of the run
abbrev pub Upserts : List BadPattern → Machine → ℕ → List ℕ → Reply → Machine → Type 0
Upserts list old sid body reply new = UpsertsIn list old sid (session_of old sid) body reply new

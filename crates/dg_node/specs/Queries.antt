-- What `query` does.
use Rattle.std.specs.Prelude.{◌≡◌, ℕ, nat_le, ◌==◌, if◌then◌else◌, Bool, true, false, Option, Some, None, List, length, Result, Ok, Err}
use Rattle.std.specs.Str.Lossy.{utf8_valid_len}
use Rattle.dg_schema.specs.declared.definition.PredDef.{PredDef}
use Rattle.dg_graph.specs.declared.change.Triple.{Triple}
use Rattle.dg_tree.specs.Texts.{answer_text}
use Rattle.dg_parse.specs.declared.fault.DqlFault.{DqlFault}
use Rattle.dg_parse.specs.declared.fault.DqlFault.TheVariants as texts
use Rattle.dg_parse.specs.declared.query.Query.{Query}
use Rattle.dg_parse.specs.Whole.{query_of}
use Rattle.dg_check.specs.declared.fault.CheckFault.{CheckFault}
use Rattle.dg_check.specs.declared.fault.CheckFault.TheVariants as faults
use Rattle.dg_check.specs.declared.patterns.Refusal.{Refusal as BadPattern}
use Rattle.dg_check.specs.Faults.{fault_of}
use Rattle.dg_check.specs.Outcomes.{IsQueryOutcome}
use Rattle.dg_level.specs.Meaning.{overflow_of, answer_of}
use Rattle.dg_wire.specs.declared.refusal.Refusal.{Refusal}
use Rattle.dg_wire.specs.declared.refusal.Refusal.TheVariants as refusals
use Rattle.dg_wire.specs.declared.reply.Reply.{Reply}
use Rattle.dg_wire.specs.declared.reply.Reply.TheVariants as replies
use Rattle.dg_node.specs.Graphs.{graph_at}
use Rattle.dg_node.specs.Schemas.{schema_at}
use Rattle.dg_node.specs.Machine.{Machine, Session, session_of}
use Rattle.dg_node.specs.Replying.{refused}

-- the most bytes that the text of an answer may have
abbrev pub ANSWER_LIMIT : ℕ
ANSWER_LIMIT = 16777216

-- the text of an answer, unless it is too large
abbrev pub answered : Machine → ℕ → List ℕ → Reply × Machine
answered machine sid text = if nat_le (length text) ANSWER_LIMIT then (replies.Query sid text, machine) else refused machine refusals.AnswerTooLarge

-- the refusal of a query in which the checks find a fault
abbrev pub refusal_of_check : CheckFault → Refusal
refusal_of_check (faults.UnknownVariable name) = refusals.UnknownVariable name
refusal_of_check (faults.VariableTwice name) = refusals.VariableTwice name
refusal_of_check (faults.VariableCycle name) = refusals.VariableCycle name
refusal_of_check (faults.NotIndexed pred func) = refusals.NotIndexed pred func
refusal_of_check (faults.BadLiteral name) = refusals.BadLiteral name
refusal_of_check (faults.BadPage argument) = refusals.BadPage argument
refusal_of_check (faults.BadDepth n) = refusals.BadDepth n
refusal_of_check faults.OutOfMemory = refusals.Memory

-- the same, unless a sum over the variable of this name is no number of 64 bits
abbrev pub summed : Machine → ℕ → Option (List ℕ) → List ℕ → Reply × Machine
summed machine sid None text = answered machine sid text
summed machine sid (Some name) text = refused machine (refusals.SumOverflow name)

-- what a query is answered over a graph and its schema, or the fault that was found in it
abbrev pub answer_or_fault : Machine → ℕ → List PredDef → List Triple → Query → Option CheckFault → Reply × Machine
answer_or_fault machine sid schema graph query None = summed machine sid (overflow_of schema graph query) (answer_text (answer_of schema graph query))
answer_or_fault machine sid schema graph query (Some fault) = refused machine (refusal_of_check fault)

-- what the checks find in a query, where these patterns were refused
abbrev pub IsFound : List PredDef → List BadPattern → Query → Option CheckFault → Type 0
IsFound schema list query None = fault_of schema query ≡ None
IsFound schema list query (Some fault) = IsQueryOutcome schema query list (Err fault)

-- a query is checked under the schema, and answered over the graph
pub record QueriesBy (list : List BadPattern) (old : Machine) (sid : ℕ) (schema : List PredDef) (graph : List Triple) (query : Query) (reply : Reply) (new : Machine) : Type 0 where
  pub fault : Option CheckFault
  pub found : IsFound schema list query fault
  pub outcome : answer_or_fault old sid schema graph query fault ≡ (reply, new)

-- what is read of a text: a query, or the place of its fault
abbrev pub QueriesAs : List BadPattern → Machine → ℕ → List PredDef → List Triple → Result Query DqlFault → Reply → Machine → Type 0
QueriesAs list old sid schema graph (Ok query) reply new = QueriesBy list old sid schema graph query reply new
QueriesAs list old sid schema graph (Err (texts.BadToken offset)) reply new = refused old (refusals.BadToken offset) ≡ (reply, new)
QueriesAs list old sid schema graph (Err (texts.TooDeep offset)) reply new = refused old (refusals.TooDeep offset) ≡ (reply, new)
QueriesAs list old sid schema graph (Err (texts.BadSyntax offset)) reply new = refused old (refusals.BadSyntax offset) ≡ (reply, new)
QueriesAs list old sid schema graph (Err texts.OutOfMemory) reply new = ⊥

-- A body that isn't UTF-8 is refused at the first byte that belongs to no whole character.
abbrev pub QueriesText : List BadPattern → Machine → ℕ → List PredDef → List Triple → List ℕ → Bool → Reply → Machine → Type 0
QueriesText list old sid schema graph body true reply new = QueriesAs list old sid schema graph (query_of body) reply new
QueriesText list old sid schema graph body false reply new = refused old (refusals.BadToken (utf8_valid_len body)) ≡ (reply, new)

-- The session's transaction has to be open, before all else. It sees the schema at its start, and the graph there and then its
-- own changes.
abbrev pub QueriesIn : List BadPattern → Machine → ℕ → Option Session → List ℕ → Reply → Machine → Type 0
QueriesIn list old sid (Some session) body reply new =
    QueriesText list old sid (schema_at old.alters session.start) (graph_at old.alters old.commits session.start session.own) body (utf8_valid_len body == length body) reply new
QueriesIn list old sid None body reply new = refused old (refusals.NoSession sid) ≡ (reply, new)

-- what a query is answered, where these patterns were refused by the end of the run
abbrev pub Queries : List BadPattern → Machine → ℕ → List ℕ → Reply → Machine → Type 0
Queries list old sid body reply new = QueriesIn list old sid (session_of old sid) body reply new

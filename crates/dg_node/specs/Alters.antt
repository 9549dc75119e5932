-- What `alter` does: it adds the definitions of a text, or puts them in their namesakes' places.
use Rattle.std.specs.Prelude.{ℕ, ◌+◌, ◌==◌, ◌&&◌, not, nat_lt, if◌then◌else◌, min, Bool, false, List, [], ◌∷◌, ◌++◌, Option, Some, None, Result, Ok, Err, fold, find, option_map}
use Rattle.std.specs.Bool.{beq}
use Rattle.std.specs.List.{list_any}
use Rattle.std.specs.Option.{option_map_or}
use Rattle.dg_wire.specs.declared.refusal.Refusal.TheVariants as refusals
use Rattle.dg_wire.specs.declared.reply.Reply.{Reply}
use Rattle.dg_wire.specs.declared.reply.Reply.TheVariants as replies
use Rattle.dg_schema.specs.declared.definition.PredDef.{PredDef}
use Rattle.dg_schema.specs.Definitions.{definition_of}
use Rattle.dg_schema.specs.Whole.{schema}
use Rattle.dg_graph.specs.declared.change.Triple.{Triple}
use Rattle.dg_graph.specs.Graphs.{is_of}
use Rattle.dg_zero.specs.Legal.{kind_rank}
use Rattle.dg_node.specs.Schemas.{schema_at}
use Rattle.dg_node.specs.Graphs.{committed_at}
use Rattle.dg_node.specs.Machine.{Machine, Session, TIMESTAMP_END}
use Rattle.dg_node.specs.Replying.{refused}
use Rattle.dg_node.specs.Texts.{by_text}

-- the least start of open transactions, where there are any
abbrev pub least_start : List Session → Option ℕ
least_start [] = None
least_start (session ∷ sessions) = Some (fold (λ least s. min least s.start) session.start sessions)

-- a definition has another kind than an older one, or is a list where that is none, or none where that is one
abbrev pub is_other_kind : PredDef → PredDef → Bool
is_other_kind def old = not ((kind_rank def.kind == kind_rank old.kind) && beq def.list old.list)

-- the predicate has a triple, and would change its kind, or whether it is a list
abbrev pub has_data : List PredDef → List Triple → PredDef → Bool
has_data declared graph def = option_map_or (is_other_kind def) (definition_of declared def.name) false && list_any (is_of def.name) graph

-- the first such predicate, in the order of the text
abbrev pub first_with_data : List PredDef → List Triple → List PredDef → Option (List ℕ)
first_with_data declared graph definitions = option_map (λ def. def.name) (find (has_data declared graph) definitions)

-- the present schema: that at the next timestamp, since each alter has a lesser one
abbrev pub present_schema : Machine → List PredDef
present_schema machine = schema_at machine.alters machine.next

-- the present graph, by the same cause
abbrev pub present_graph : Machine → List Triple
present_graph machine = committed_at machine.alters machine.commits machine.next

-- Two timestamps are drawn, and the definitions hold from the second on.
abbrev pub declared : Machine → List PredDef → Reply × Machine
declared machine definitions =
    if nat_lt (machine.next + 1) TIMESTAMP_END
    then (replies.Alter machine.next (machine.next + 1), record machine { next = machine.next + 2; alters = machine.alters ++ record { start = machine.next; ts = machine.next + 1; definitions = definitions } ∷ [] })
    else refused machine (refusals.TimestampsSpent machine.next)

-- It is refused where data stands in the way, with that predicate.
abbrev pub declared_unless : Machine → List PredDef → Option (List ℕ) → Reply × Machine
declared_unless machine definitions (Some name) = refused machine (refusals.HasData name)
declared_unless machine definitions None = declared machine definitions

-- It is refused where a transaction is open, with the least start.
abbrev pub altered_beside : Machine → List PredDef → Option ℕ → Reply × Machine
altered_beside machine definitions (Some start) = refused machine (refusals.Pending start)
altered_beside machine definitions None = declared_unless machine definitions (first_with_data (present_schema machine) (present_graph machine) definitions)

-- what an alter with these definitions is answered and leaves
abbrev pub altered : Machine → List PredDef → Reply × Machine
altered machine definitions = altered_beside machine definitions (least_start machine.sessions)

-- the same for what is read of a text: its definitions, or the line of its fault
abbrev pub altered_by : Machine → Result (List PredDef) ℕ → Reply × Machine
altered_by machine (Ok definitions) = altered machine definitions
altered_by machine (Err line) = refused machine (refusals.SchemaSyntax line)

-- what an alter with this body is answered and leaves
abbrev pub alters : Machine → List ℕ → Reply × Machine
alters machine body = by_text machine body (altered_by machine (schema body))

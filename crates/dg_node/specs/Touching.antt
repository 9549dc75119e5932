-- What users rely on where two transactions touch one value of a predicate with `@upsert` and an index.
use Rattle.std.specs.Prelude.{◌≡◌, ◌≢◌, ℕ, ◌+◌, ◌<◌, ◌≤◌, true, Some, List, [], ◌∷◌, ◌++◌, flat_map}
use Rattle.dg_values.specs.Ascending.{has}
use Rattle.dg_values.specs.Order.{posting_cmp}
use Rattle.dg_values.specs.declared.value.Value.{Value}
use Rattle.dg_values.specs.declared.value.Posting.TheVariants.{Val}
use Rattle.dg_tokens.specs.declared.tokens.IndexToken.{IndexToken}
use Rattle.dg_tokens.specs.Orders.{index_token_cmp}
use Rattle.dg_schema.specs.declared.definition.PredDef.{PredDef}
use Rattle.dg_schema.specs.Definitions.{definition_of}
use Rattle.dg_graph.specs.declared.change.Change.{Change}
use Rattle.dg_graph.specs.Lookups.{tokens_of_object, subjects_of}
use Rattle.dg_zero.specs.Listings.{triple_of, touched}
use Rattle.dg_check.specs.declared.patterns.Refusal.{Refusal as BadPattern}
use Rattle.dg_wire.specs.declared.request.Request.{Request}
use Rattle.dg_wire.specs.declared.reply.Reply.{Reply}
use Rattle.dg_node.specs.Graphs.{Commit, committed_at, graph_at}
use Rattle.dg_node.specs.Machine.{Machine}
use Rattle.dg_node.specs.Schemas.{schema_at}
use Rattle.dg_node.specs.Steps.{Run}

-- under the schema, the predicate has `@upsert`, and an index of it files the value under this token
pub record IsGuarded (schema : List PredDef) (p : List ℕ) (value : Value) (token : IndexToken) : Type 0 where
  pub def : PredDef
  pub declared : definition_of schema p ≡ Some def
  pub upsert : def.upsert ≡ true
  pub filed : has index_token_cmp (flat_map (λ tokenizer. tokens_of_object tokenizer (Val value)) def.tokens) token ≡ true

-- a commit sets or deletes a value of a predicate with this definition, of whichever node, or sets another in its place, over the
-- graph that its transaction saw, behind its changes before that one
pub record Touches (def : PredDef) (machine : Machine) (p : List ℕ) (value : Value) (commit : Commit) : Type 0 where
  pub before : List Change
  pub change : Change
  pub after : List Change
  pub stands : commit.changes ≡ before ++ change ∷ after
  pub pred : (triple_of change).p ≡ p
  pub there : has posting_cmp (touched def (graph_at machine.alters machine.commits commit.start before) change) (Val value) ≡ true

-- the first of these commits was made before the second, both touch the value, and both found it guarded
pub record AreRivals (machine : Machine) (p : List ℕ) (value : Value) (first second : Commit) : Type 0 where
  pub front : List Commit
  pub mid : List Commit
  pub back : List Commit
  pub stand : machine.commits ≡ front ++ first ∷ mid ++ second ∷ back
  pub token : IndexToken
  pub first_guarded : IsGuarded (schema_at machine.alters first.start) p value token
  pub second_guarded : IsGuarded (schema_at machine.alters second.start) p value token
  pub first_touches : Touches first_guarded.def machine p value first
  pub second_touches : Touches second_guarded.def machine p value second

-- The transaction of the later commit began at or after the earlier commit.
abbrev pub LaterBegan : Type 0
LaterBegan = (list : List BadPattern) (groups : ℕ) (requests : List Request) (replies : List Reply) (machine : Machine) → Run list groups requests replies machine
    → (p : List ℕ) (value : Value) (first second : Commit) → AreRivals machine p value first second → first.ts ≤ second.start

-- the nodes that have the value at a timestamp
abbrev pub nodes_at : Machine → List ℕ → Value → ℕ → List ℕ
nodes_at machine p value ts = subjects_of (committed_at machine.alters machine.commits ts) p (Val value)

-- a commit behind the first of two, which the second saw, and which left no node with the value where there was one right before
pub record TookAway (machine : Machine) (p : List ℕ) (value : Value) (first second between : Commit) : Type 0 where
  pub front : List Commit
  pub back : List Commit
  pub stands : machine.commits ≡ front ++ between ∷ back
  pub later : first.ts < between.ts
  pub seen : between.ts ≤ second.start
  pub before : ℕ
  pub next_is : between.ts ≡ before + 1
  pub had : nodes_at machine p value before ≢ []
  pub none_left : nodes_at machine p value between.ts ≡ []

-- So both can't have found no node with the value, unless a further commit took it away: where a node has it after the first commit, and
-- none had it when the second's transaction began, there is such a commit between.
abbrev pub NoneUnseen : Type 0
NoneUnseen = (list : List BadPattern) (groups : ℕ) (requests : List Request) (replies : List Reply) (machine : Machine) → Run list groups requests replies machine
    → (p : List ℕ) (value : Value) (first second : Commit) → AreRivals machine p value first second
    → nodes_at machine p value first.ts ≢ [] → nodes_at machine p value second.start ≡ []
    → (between : Commit) × TookAway machine p value first second between

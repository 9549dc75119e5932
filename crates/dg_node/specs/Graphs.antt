-- The graph that a transaction sees. What a graph is, and what a change makes of it, stands in `dg_graph`.
use Rattle.std.specs.Prelude.{ℕ, nat_le, if◌then◌else◌, List, [], fold}
use Rattle.dg_graph.specs.declared.change.Triple.{Triple}
use Rattle.dg_graph.specs.declared.change.Change.{Change}
use Rattle.dg_graph.specs.Graphs.{after_changes}
use Rattle.dg_node.specs.Schemas.{Alter, schema_at}

-- a commit: the start and commit timestamps of its transaction, and its changes in order
pub record Commit : Type 0 where
  pub start : ℕ
  pub ts : ℕ
  pub changes : List Change

-- the graph after a commit, if it is at or below a timestamp. Its changes are taken under the schema at its own timestamp
abbrev pub after_commit : List Alter → ℕ → List Triple → Commit → List Triple
after_commit alters ts graph commit = if nat_le commit.ts ts then after_changes (schema_at alters commit.ts) graph commit.changes else graph

-- the graph at a timestamp: the empty one after the commits at or below it, in order
abbrev pub committed_at : List Alter → List Commit → ℕ → List Triple
committed_at alters commits ts = fold (after_commit alters ts) [] commits

-- the graph at a timestamp, and then a transaction's own changes, under the schema at that timestamp
abbrev pub graph_at : List Alter → List Commit → ℕ → List Change → List Triple
graph_at alters commits ts own = after_changes (schema_at alters ts) (committed_at alters commits ts) own

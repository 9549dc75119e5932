-- The objects of subjects, before changes and after some.
use Rattle.std.specs.Prelude.{ℕ, List, [], fold}
use Rattle.dg_values.specs.declared.value.Posting.{Posting}
use Rattle.dg_schema.specs.declared.definition.PredDef.{PredDef}
use Rattle.dg_graph.specs.declared.change.Triple.{Triple}
use Rattle.dg_graph.specs.declared.change.Change.{Change}
use Rattle.dg_graph.specs.Graphs.{objects}
use Rattle.dg_graph.specs.Changes.{objects_after}
use Rattle.dg_keys.specs.declared.key.Key.{Key}
use Rattle.dg_keys.specs.declared.key.Key.TheVariants.{Data}

-- a subject's objects before and after
pub record Lists : Type 0 where
  pub before : List Posting
  pub after : List Posting

-- the objects at a key: keys but those of subjects have none
abbrev pub objects_at : List Triple → Key → List Posting
objects_at graph (Data p s) = objects graph p s
objects_at graph key = []

-- how many lists are read for the objects at a key
abbrev pub reads_at : Key → ℕ
reads_at (Data p s) = 1
reads_at key = 0

-- before changes and after none
abbrev pub unchanged_at : List Triple → Key → Lists
unchanged_at graph key = record { before = objects_at graph key; after = objects_at graph key }

-- and after one change more
abbrev pub changed_at : List PredDef → Change → Key → Lists → Lists
changed_at schema change (Data p s) lists = record { before = lists.before; after = objects_after schema p s lists.after change }
changed_at schema change key lists = lists

-- the objects in a graph, before and after changes of it
abbrev pub lists_after : List PredDef → List Triple → List Change → Key → Lists
lists_after schema graph changes key = fold (λ lists change. changed_at schema change key lists) (unchanged_at graph key) changes

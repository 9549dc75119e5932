-- Trees that stay, moved to the front of a list.
use Rattle.std.specs.Prelude.{ℕ, List, Option, Some, None, slice_set}
use Rattle.dg_tree.specs.declared.tree.Tree.{Tree}

-- trees with one more of them that stays, behind those that do
abbrev pub kept_at : List Tree → ℕ → Option Tree → List Tree
kept_at items kept None = items
kept_at items kept (Some t) = slice_set items kept t

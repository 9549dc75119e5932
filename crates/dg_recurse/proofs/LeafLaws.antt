-- Where no edge is followed any more, a row is what the node shows of itself.
use Rattle.std.proofs.Common.{◌≡◌, ℕ, List, [], ◌∷◌, map, refl, ap}
use Rattle.dg_recurse.specs.declared.column.Column.{Column}
use Rattle.dg_recurse.specs.declared.column.Column.TheVariants as columns
use Rattle.dg_recurse.specs.Columns.{own_of}
use Rattle.dg_recurse.specs.Rows.{joined}
use Rattle.dg_recurse.specs.Near.{own_row}
use Rattle.dg_recurse.specs.Written.{column_text, row_at}

part_is : (place : ℕ) (column : Column) → column_text (λ nodes. []) place column ≡ own_of column place
part_is place (columns.Own texts) = refl
part_is place (columns.Edge key single lists) = refl

parts_are : (place : ℕ) (fetched : List Column) → map (column_text (λ nodes. []) place) fetched ≡ map (λ column. own_of column place) fetched
parts_are place [] = refl
parts_are place (column ∷ fetched) = λ i. part_is place column i ∷ parts_are place fetched i

pub leaf_is : (fetched : List Column) (path : List ℕ) (place : ℕ) → row_at fetched 0 path place ≡ own_row fetched place
unfolding row_at
leaf_is fetched path place = ap joined (parts_are place fetched)

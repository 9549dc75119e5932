-- What recursion shows: of a node its own fields, and under each of its edges the nodes to which it leads, so many edges deep.
pub use Rattle.dg_recurse.specs.Unfolding.{Piece, own, edge, is_on, off_path, edge_trees, piece_shown}
unfoldable pub use Rattle.dg_recurse.specs.Unfolding.{unfolded}

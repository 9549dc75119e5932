-- The places of a query at which something can be wrong, in the order of its text.
use Rattle.std.specs.Prelude.{ℕ, List, [], ◌∷◌, ◌++◌, map, flat_map, Option, Some, None}
use Rattle.dg_parse.specs.declared.query.AggOp.{AggOp}
use Rattle.dg_parse.specs.declared.query.QArg.{QArg}
use Rattle.dg_parse.specs.declared.query.QBlock.{QBlock}
use Rattle.dg_parse.specs.declared.query.QDir.{QDir}
use Rattle.dg_parse.specs.declared.query.QDir.TheVariants as dirs
use Rattle.dg_parse.specs.declared.query.QEdge.{QEdge}
use Rattle.dg_parse.specs.declared.query.QField.{QField, QField-F, fold-QField}
use Rattle.dg_parse.specs.declared.query.QFilter.{QFilter, QFilter-F, fold-QFilter}
use Rattle.dg_parse.specs.declared.query.QFunc.{QFunc}
use Rattle.dg_parse.specs.declared.query.QItem.{QItem, QItem-F, fold-QItem}
use Rattle.dg_parse.specs.declared.query.QOpt.{QOpt}
use Rattle.dg_parse.specs.declared.query.QPart.{QPart, QPart-F, fold-QPart}
use Rattle.dg_parse.specs.declared.query.Query.{Query}
use Rattle.dg_check.specs.declared.places.Place.{Place as Met}
use Rattle.dg_check.specs.declared.places.Place.TheVariants as met
use Rattle.dg_check.specs.declared.places.Source.{Source as From}
use Rattle.dg_check.specs.declared.places.Source.TheVariants as from

-- what a variable stands for: the nodes of a list, the number of objects of each, or what an edge leads to
pub data Source : Type 0 where
  listed : Source
  counted : QEdge → Source
  followed : QEdge → Source

-- a variable is defined; the function of a root; a function in a filter; the arguments of a list; the options of a
-- recursion; an edge that a field follows or counts; the value of a variable is shown; a variable is aggregated
pub data Place : Type 0 where
  defined : List ℕ → Source → Place
  root : QFunc → Place
  tested : QFunc → Place
  arguments : List QArg → Place
  recursion : List QOpt → Place
  edge : QEdge → Place
  shown : List ℕ → Place
  aggregated : AggOp → List ℕ → Place

-- ---- in a filter: its functions

-- a part of a filter, from the places of those in it
abbrev pub step_of_part : QPart-F (List Place) (List Place) → List Place
step_of_part (QPart-F.Or parts) = flat_map (λ places. places) parts
step_of_part (QPart-F.And parts) = flat_map (λ places. places) parts
step_of_part (QPart-F.Func f) = tested f ∷ []

-- a part with `not` before it or without
abbrev pub step_of_filter : QFilter-F (List Place) (List Place) → List Place
step_of_filter filter = filter.part

-- the functions of a part of a filter
abbrev pub places_of_part : QPart → List Place
places_of_part = fold-QPart (List Place) (List Place) step_of_part step_of_filter

-- the functions of a filter
abbrev pub places_of_filter : QFilter → List Place
places_of_filter = fold-QFilter (List Place) (List Place) step_of_part step_of_filter

-- ---- in a directive

-- those of the filter, or the options of the recursion
abbrev pub places_of_dir : QDir → List Place
places_of_dir (dirs.Filter f) = places_of_filter f
places_of_dir dirs.Cascade = []
places_of_dir dirs.Normalize = []
places_of_dir (dirs.Recurse options) = recursion options ∷ []

-- ---- in a field: its `as`, and what its item has

-- the `as` of a variable, where there is one
abbrev pub place_of_var : Option (List ℕ) → Source → List Place
place_of_var None source = []
place_of_var (Some x) source = defined x source ∷ []

-- what a variable before an item stands for, and the places of the item
pub record Walked : Type 0 where
  pub source : Source
  pub places : List Place

-- the fields in braces, where there are any
abbrev pub places_of_braces : Option (List (List Place)) → List Place
places_of_braces None = []
places_of_braces (Some fields) = flat_map (λ places. places) fields

-- what an item has, from what the fields in its braces have
abbrev pub step_of_item : QItem-F Walked (List Place) → Walked
step_of_item QItem-F.Uid = record { source = listed; places = [] }
step_of_item QItem-F.CountUid = record { source = listed; places = [] }
step_of_item (QItem-F.Count e) = record { source = counted e; places = edge e ∷ [] }
step_of_item (QItem-F.Val x) = record { source = listed; places = shown x ∷ [] }
step_of_item (QItem-F.Agg op x) = record { source = listed; places = aggregated op x ∷ [] }
step_of_item (QItem-F.Edge e args dirs fields) = record { source = followed e; places = edge e ∷ arguments args ∷ (flat_map places_of_dir dirs ++ places_of_braces fields) }

-- a field, from what its item has: `as` stands before the item
abbrev pub step_of_field : QField-F Walked (List Place) → List Place
step_of_field field = place_of_var field.var field.item.source ++ field.item.places

-- what an item has
abbrev pub walked_item : QItem → Walked
walked_item = fold-QItem Walked (List Place) step_of_item step_of_field

-- what a variable before an item stands for
abbrev pub source_of_item : QItem → Source
source_of_item item = (walked_item item).source

-- the places of a field
abbrev pub places_of_field : QField → List Place
places_of_field = fold-QField Walked (List Place) step_of_item step_of_field

-- ---- in a block

-- the function of a root, where there is one
abbrev pub place_of_root : Option QFunc → List Place
place_of_root None = []
place_of_root (Some f) = root f ∷ []

-- the block's variable, its root, its arguments, its directives and its fields
abbrev pub places_of_block : QBlock → List Place
places_of_block block = place_of_var block.var listed ++ (place_of_root block.func ++ arguments block.args ∷ (flat_map places_of_dir block.dirs ++ flat_map places_of_field block.fields))

-- the places of a query, block by block
abbrev pub places_of_query : Query → List Place
places_of_query query = flat_map places_of_block query.blocks

-- ---- as the code borrows them

-- what a variable stands for, without the borrow
abbrev pub source_met : From → Source
source_met from.Listed = listed
source_met (from.Counted e) = counted e.now
source_met (from.Followed e) = followed e.now

-- a place, without the borrow
abbrev pub place_met : Met → Place
place_met (met.Defined x source) = defined x.now (source_met source)
place_met (met.Root f) = root f.now
place_met (met.Tested f) = tested f.now
place_met (met.Arguments args) = arguments args.now
place_met (met.Recursion options) = recursion options.now
place_met (met.Edge e) = edge e.now
place_met (met.Shown x) = shown x.now
place_met (met.Aggregated op x) = aggregated op x.now

-- places, without the borrow
abbrev pub places_met : List Met → List Place
places_met = map place_met

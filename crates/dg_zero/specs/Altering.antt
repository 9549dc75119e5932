-- All that an alter makes before anything changes.
use Rattle.std.specs.Prelude.{◌≡◌, ℕ, List, ◌++◌, map}
use Rattle.dg_schema.specs.declared.definition.PredDef.{PredDef}
use Rattle.dg_schema.specs.Definitions.{AreDistinct}
use Rattle.dg_zero.specs.declared.alter.Altered.{Altered}
use Rattle.dg_zero.specs.declared.fresh.Fresh.{Fresh}
use Rattle.dg_zero.specs.declared.tablets.Place.{Place}
use Rattle.dg_zero.specs.Places.{fresh, fresh_place, tally}

-- of the tablets before and new definitions: the tablets that these bring, and how many each of n groups owns then
pub record IsFresh (n : ℕ) (places : List Place) (newer : List PredDef) (made : Fresh) : Type 0 where
  pub tablets_are : made.tablets.items ≡ fresh n places newer
  pub counts_are : made.counts.items ≡ tally n (places ++ map fresh_place (fresh n places newer))

-- the same, with the definitions, and with the tablets as each who keeps them wants them
pub record IsAltered (n : ℕ) (places : List Place) (newer : List PredDef) (a : Altered) : Type 0 where
  pub newer_are : a.newer ≡ newer
  pub distinct : AreDistinct newer
  pub fresh_are : a.fresh ≡ fresh n places newer
  pub places_are : a.places.items ≡ map fresh_place (fresh n places newer)
  pub owners_are : a.owners.items ≡ fresh n places newer
  pub counts_are : a.counts.items ≡ tally n (places ++ map fresh_place (fresh n places newer))

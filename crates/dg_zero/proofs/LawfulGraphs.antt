-- The graphs of legal histories are lawful.
use Rattle.std.proofs.Common.{◌≡◌, ℕ, ◌≤◌, Bool, true, false, cond, List, [], ◌∷◌, ◌++◌, refl, subst, sym, arith}
use Rattle.std.specs.Prelude.{nat_le}
use Rattle.std.proofs.lemmas.Grind.{common_steps}
use Rattle.dg_schema.specs.declared.definition.PredDef.{PredDef}
use Rattle.dg_graph.specs.Graphs.{IsLawful}
use Rattle.dg_graph.specs.Changes.{AllFit}
use Rattle.dg_graph.proofs.GraphLaws.{stays_lawful}
use Rattle.dg_zero.specs.declared.entry.Entry.{Entry}
use Rattle.dg_zero.specs.declared.entry.Event.{Event}
use Rattle.dg_zero.specs.declared.entry.Event.TheVariants.{Commit, Alter}
use Rattle.dg_zero.specs.Counters.{last}
use Rattle.dg_zero.specs.Worlds.{World, world, world_after, world_at, stamp, schema, schema_at, graph_at, changes_of}
use Rattle.dg_zero.specs.Legal.{Fits, IsLegal}
use Rattle.dg_zero.specs.Laws.{GraphsAreLawful}
use Rattle.dg_zero.proofs.LawsOfHistories.{kept_from, anyone, world_push, world_at_push, present_is_last}
use Rattle.dg_zero.proofs.SchemasStay.{schemas_stay}
use Rattle.dg_zero.proofs.SoundOffers.{sound_fits}
use Rattle.dg_zero.proofs.NewDefinitions.{lawful_under}

abbrev pub IsLawfulWorld : World → Type 0
IsLawfulWorld w = IsLawful w.schema w.graph

-- ---- the present world

lawful_next : (n : ℕ) (g : List Entry) (author : ℕ) (event : Event) → IsLegal n g → Fits n g author event → IsLawfulWorld (world g) → IsLawfulWorld (world_after (world g) event)
lawful_next n g author (Commit start preds keys asked written) l f w =
    stays_lawful (schema g) (world g).graph (changes_of written.parts)
    (subst (λ (s : List PredDef). AllFit s (changes_of written.parts)) (schemas_stay n g start author l f.active) (sound_fits (schema_at g start) (graph_at g start []) preds keys written.parts f.sound))
    w
lawful_next n g author (Alter start newer written) l f w = lawful_under (schema g) newer (world g).graph f.1.kinds w
lawful_next n g author event l f w = w

pub present_lawful : (n : ℕ) (h : List Entry) → IsLegal n h → IsLawfulWorld (world h)
present_lawful n h l = kept_from n (λ a. Unit {0}) (λ g. IsLawfulWorld (world g)) step [] h tt l (anyone h) (record { ascend = tt; fit = tt; single = refl })
  where
    step : (g : List Entry) (e : Entry) → Unit {0} → IsLegal n g → Fits n g e.author e.event → IsLawfulWorld (world g) → IsLawfulWorld (world (g ++ e ∷ []))
    step g e o l f w = subst IsLawfulWorld (sym (world_push g e)) (lawful_next n g e.author e.event l f w)

-- ---- the world at a timestamp

-- a commit or an alter at or below a timestamp comes after all before it
stamped : (n : ℕ) (g : List Entry) (author : ℕ) (event : Event) (at : ℕ) → Fits n g author event → (v : Bool) → nat_le (stamp event) at ≡ v → (last g ≤ at → world_at g at ≡ world g) → IsLawfulWorld (world_at g at) → IsLawfulWorld (world_after (world g) event) → IsLawfulWorld (cond v (world_after (world_at g at) event) (world_at g at))
stamped n g author event at f false e same w p = w
stamped n g author (Commit start preds keys asked written) at f true e same w p =
    let le : last g ≤ at = grind (arith, common_steps, f.ts) in
    subst (λ (v : World). IsLawfulWorld (world_after v (Commit start preds keys asked written))) (sym (same le)) p
stamped n g author (Alter start newer written) at f true e same w p =
    let le : last g ≤ at = grind (arith, common_steps, f.1.ts, f.1.start_is) in
    subst (λ (v : World). IsLawfulWorld (world_after v (Alter start newer written))) (sym (same le)) p
stamped n g author event at f true e same w p = w

pub world_lawful : (n : ℕ) (h : List Entry) (at : ℕ) → IsLegal n h → IsLawfulWorld (world_at h at)
world_lawful n h at l = kept_from n (λ a. Unit {0}) (λ g. IsLawfulWorld (world_at g at)) step [] h tt l (anyone h) (record { ascend = tt; fit = tt; single = refl })
  where
    step : (g : List Entry) (e : Entry) → Unit {0} → IsLegal n g → Fits n g e.author e.event → IsLawfulWorld (world_at g at) → IsLawfulWorld (world_at (g ++ e ∷ []) at)
    step g e o l f w =
        subst IsLawfulWorld (sym (world_at_push g e at))
        (stamped n g e.author e.event at f (nat_le (stamp e.event) at) refl (λ le. present_is_last n g at l le) w (lawful_next n g e.author e.event l f (present_lawful n g l)))

pub graphs_are_lawful : GraphsAreLawful
graphs_are_lawful n h at l = world_lawful n h at l

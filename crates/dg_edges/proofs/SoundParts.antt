-- The parts of a sound offer are of triples that fit the schema, and their keys are named.
use Rattle.std.proofs.Common.{◌≡◌, ℕ, true, List, [], ◌∙◌}
use Rattle.std.specs.List.{AllByRecursion}
use Rattle.dg_values.specs.Ascending.{has, ascending}
use Rattle.dg_sets.proofs.Sets.{at, from_each, has_more, all_with}
use Rattle.dg_schema.specs.declared.definition.PredDef.{PredDef}
use Rattle.dg_graph.specs.declared.change.Triple.{Triple}
use Rattle.dg_graph.specs.Graphs.{fits, after_changes, IsLawful}
use Rattle.dg_graph.specs.Changes.{changed}
use Rattle.dg_keys.specs.declared.conflict.ConflictKey.{ConflictKey}
use Rattle.dg_keys.specs.declared.record.Part.{Part}
use Rattle.dg_keys.specs.KeyOrder.{conflict_order}
use Rattle.dg_keys.specs.Conflicts.{conflict_cmp}
use Rattle.dg_zero.specs.Worlds.{changes_of}
use Rattle.dg_zero.specs.Offers.{IsSound}
use Rattle.dg_zero.specs.Listings.{keys_of_changes}
use Rattle.dg_edges.specs.Deltas.{AreFitting}
use Rattle.dg_edges.specs.Laws.{IsKeyed}
use Rattle.dg_edges.proofs.AnyKeys.{data_among}
use Rattle.dg_edges.proofs.OfferLaws.{IsOfDifference, gains_differ, differing_fits}

-- ---- each change of a sound offer is of a triple that differs

pub sound_differ : (schema : List PredDef) (graph : List Triple) (preds : List (List ℕ)) (ks : List ConflictKey) (parts : List Part) → IsLawful schema graph → IsSound schema graph preds ks parts → AllByRecursion (IsOfDifference graph (after_changes schema graph (changes_of parts))) (changes_of parts)
sound_differ schema graph preds ks parts l s = gains_differ schema graph (after_changes schema graph (changes_of parts)) parts l s.lawful s.parts_are

-- so it fits
pub sound_changes_fit : (schema : List PredDef) (graph : List Triple) (preds : List (List ℕ)) (ks : List ConflictKey) (parts : List Part) → IsLawful schema graph → IsSound schema graph preds ks parts → AreFitting schema (changes_of parts)
sound_changes_fit schema graph preds ks parts l s =
    let goal = after_changes schema graph (changes_of parts) in
    all_with (IsOfDifference graph goal) (λ d. fits schema (changed d) ≡ true) (changes_of parts) (λ d i. differing_fits schema graph goal (changed d) l s.lawful i.differs) (sound_differ schema graph preds ks parts l s)

-- ---- and the offer's keys name it

-- what holds of the same in ascending order
pub each_ascending : (P : ConflictKey → Type 0) (ks : List ConflictKey) → AllByRecursion P (ascending conflict_cmp ks) → AllByRecursion P ks
each_ascending P ks a =
    from_each conflict_cmp conflict_order P ks (λ key h. at conflict_cmp conflict_order P (ascending conflict_cmp ks) key a (has_more conflict_cmp conflict_order [] ks key ∙ h))

pub sound_keyed : (schema : List PredDef) (graph : List Triple) (preds : List (List ℕ)) (ks : List ConflictKey) (parts : List Part) → IsLawful schema graph → IsSound schema graph preds ks parts → IsKeyed schema (record { changes = changes_of parts; keys = ks })
sound_keyed schema graph preds ks parts l s =
    let fit = sound_changes_fit schema graph preds ks parts l s in
    record {
      fitting = fit;
      named = data_among (λ key. has conflict_cmp ks key ≡ true) schema graph (changes_of parts) fit (each_ascending (λ key. has conflict_cmp ks key ≡ true) (keys_of_changes schema graph (changes_of parts)) s.keys_named);
    }

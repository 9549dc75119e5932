use Rattle.std.proofs.Common.{◌≡◌, List, ◌∙◌}
use Rattle.std.specs.List.Sorted.{IsPermutation}
use Rattle.dg_values.specs.Ascending.{Ascends}
use Rattle.dg_schema.specs.declared.definition.PredDef.{PredDef}
use Rattle.dg_schema.specs.Definitions.{with_definitions}
use Rattle.dg_keys.specs.declared.key.Key.{Key}
use Rattle.dg_keys.specs.declared.record.Part.{Part}
use Rattle.dg_keys.specs.Keys.{part_cmp, ops_at}
use Rattle.dg_zero.specs.Listings.{AreGainsAndLosses}
use Rattle.dg_edges.specs.Altering.{altered_keys, altered_parts, filed_under_schema}
use Rattle.dg_edges.specs.declared.filing.Filed.{Filed}
use Rattle.dg_edges.proofs.AlteredKeys.{AreOfFilings, alter_apart, alter_gains}
use Rattle.dg_edges.proofs.ListLaws.{ok_all_with}
use Rattle.dg_edges.proofs.altering.schema_deltas.Goals as goal

pub returns : goal.returns
returns g c =
    let graph = g.S.Snapshot.graph c.args.snap.now in
    let schema = g.S.Snapshot.declared c.args.snap.now in
    let newer = c.args.newer.now in
    let lawful = c.requires.lawful in
    let distinct = c.definitions.ensures.distinct in
    let made : c.in_ok-keys.keys.items ≡ altered_keys schema graph newer = ◌∙◌ {A = List Key} c.in_ok-keys.ensures (λ i. altered_keys schema graph (c.definitions.ensures.items i)) in
    let read : c.as_slice.result.now ≡ altered_keys schema graph newer = ◌∙◌ {A = List Key} c.as_slice.ensures.value made in
    let later : c.in_ok-later.later ≡ with_definitions schema newer = ◌∙◌ {A = List PredDef} c.in_ok-later.ensures (λ i. with_definitions (c.schema.ensures i) newer) in
    let before : c.in_ok-found.found.before.items ≡ filed_under_schema schema graph (altered_keys schema graph newer) = ◌∙◌ {A = List Filed} c.in_ok-found.ensures.before (λ i. filed_under_schema schema graph (read i)) in
    let after : c.in_ok-found.found.after.items ≡ filed_under_schema (with_definitions schema newer) graph (altered_keys schema graph newer) = ◌∙◌ {A = List Filed} c.in_ok-found.ensures.after (λ i. filed_under_schema (later i) graph (read i)) in
    let whole : AreOfFilings schema graph lawful newer c.in_ok-parts.parts.items = ◌∙◌ {A = List Part} c.in_ok-parts.ensures (λ i. altered_parts (c.schema-2.ensures i) (later i) (before i) (after i)) in
    let ascend = c.sorted.ensures.ascend (alter_apart schema graph lawful newer c.in_ok-parts.parts.items distinct whole) in
    record {
      exact = ok_all_with c.sorted.result (λ v. IsPermutation c.in_ok-parts.parts.items v.items) (λ v. Ascends part_cmp v.items) (λ v. (key : Key) → ops_at v.items key ≡ ops_at c.in_ok-parts.parts.items key) (λ v. AreGainsAndLosses schema graph (with_definitions schema newer) graph v.items)
          (λ v moved up same. alter_gains schema graph lawful newer c.in_ok-parts.parts.items v.items distinct whole moved up same)
          c.sorted.ensures.moved ascend c.sorted.ensures.same;
    }

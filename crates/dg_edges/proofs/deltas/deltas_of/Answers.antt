use Rattle.std.proofs.Common.{◌≡◌, ◌+◌, ◌++◌, List, flat_map, length, map, subst, sym, ◌∙◌, arith}
use Rattle.std.specs.Prelude.{sum_by}
use Rattle.std.specs.List.Sorted.{IsPermutation}
use Rattle.dg_values.specs.Ascending.{Ascends}
use Rattle.dg_graph.specs.Graphs.{after_changes}
use Rattle.dg_keys.specs.declared.key.Key.{Key}
use Rattle.dg_keys.specs.declared.record.Part.{Part}
use Rattle.dg_keys.specs.Keys.{key_cmp, part_cmp, ops_at}
use Rattle.dg_zero.specs.Listings.{AreGainsAndLosses}
use Rattle.dg_delta.specs.Ops.{changes_between}
use Rattle.dg_edges.specs.Deltas.{parts_at, data_keys}
use Rattle.dg_edges.specs.Filing.{filed_at, filed_parts, filed_after, counted_parts}
use Rattle.dg_edges.specs.Lists.{Lists, objects_at, reads_at, lists_after}
use Rattle.dg_edges.specs.declared.filing.Filed.{Filed}
use Rattle.dg_edges.proofs.EdgeLaws.{data_keys_ascend}
use Rattle.dg_edges.proofs.FilingLaws.{filed_all}
use Rattle.dg_edges.proofs.ListLaws.{ok_with, ok_all_with, before_are, after_are, all_read}
use Rattle.dg_edges.proofs.NumberParts.{numbers_in}
use Rattle.dg_edges.proofs.WholeParts.{IsWhole, data_parts, listed_parts, numbered_parts, changed_numbers, changed_apart, changed_exact, changed_counted}
use Rattle.dg_edges.proofs.deltas.deltas_of.Goals as goal

pub lists_of-requires-clause-ascend : goal.lists_of-requires-clause-ascend
lists_of-requires-clause-ascend g c = subst (λ (ks : List Key). Ascends key_cmp ks) (sym (c.as_slice.ensures.value ∙ c.in_ok-keys.ensures)) (data_keys_ascend c.args.changes.now)

pub returns : goal.returns
returns g c =
    let graph = g.S.Snapshot.graph c.args.snap.now in
    let schema = g.S.Snapshot.declared c.args.snap.now in
    let changes = c.args.changes.now in
    let later = after_changes schema graph changes in
    let lawful = c.requires.lawful in
    let made_keys : c.in_ok-keys.keys.items ≡ data_keys changes = c.in_ok-keys.ensures in
    let first : c.as_slice.result.now ≡ data_keys changes = c.as_slice.ensures.value ∙ made_keys in
    let second : c.as_slice-2.result.now ≡ data_keys changes = c.as_slice-2.ensures.value ∙ made_keys in
    let fourth : c.as_slice-4.result.now ≡ data_keys changes = c.as_slice-4.ensures.value ∙ made_keys in
    let one_lists : c.as_slice-3.result.now ≡ map (lists_after schema graph changes) c.as_slice-2.result.now = ◌∙◌ {A = List Lists} c.as_slice-3.ensures.value (◌∙◌ {A = List Lists} c.in_ok-lists.ensures.lists (λ i. map (lists_after schema graph changes) ((first ∙ sym second) i))) in
    let two_lists : c.as_slice-5.result.now ≡ map (lists_after schema graph changes) c.as_slice-4.result.now = ◌∙◌ {A = List Lists} c.as_slice-5.ensures.value (◌∙◌ {A = List Lists} c.in_ok-lists.ensures.lists (λ i. map (lists_after schema graph changes) ((first ∙ sym fourth) i))) in
    let own : c.in_ok-own.own.items ≡ data_parts (data_keys changes) graph later = ◌∙◌ {A = List Part} (c.in_ok-own.ensures (lists_after schema graph changes) one_lists) (λ i. parts_at (λ k. changes_between (before_are schema graph changes k i) (after_are schema graph changes k lawful.ascend i)) (second i)) in
    let before : c.in_ok-found.found.before.items ≡ filed_all schema (objects_at graph) (data_keys changes) = ◌∙◌ {A = List Filed} (c.in_ok-found.ensures.before (lists_after schema graph changes) two_lists) (λ i. flat_map (λ k. filed_at (c.schema.ensures i) k (before_are schema graph changes k i)) (fourth i)) in
    let after : c.in_ok-found.found.after.items ≡ filed_all schema (objects_at later) (data_keys changes) = ◌∙◌ {A = List Filed} (c.in_ok-found.ensures.after (lists_after schema graph changes) two_lists) (λ i. flat_map (λ k. filed_at (c.schema.ensures i) k (after_are schema graph changes k lawful.ascend i)) (fourth i)) in
    let listed : c.in_ok-listed.listed.items ≡ listed_parts schema (data_keys changes) graph later = ◌∙◌ {A = List Part} c.in_ok-listed.ensures (λ i. filed_parts (before i) (after i)) in
    let slice : c.as_slice-6.result.now ≡ listed_parts schema (data_keys changes) graph later = ◌∙◌ {A = List Part} c.as_slice-6.ensures.value listed in
    let old : c.in_ok-numbers.numbers.before.items ≡ numbers_in schema graph (listed_parts schema (data_keys changes) graph later) = ◌∙◌ {A = List Filed} c.in_ok-numbers.ensures.before (λ i. numbers_in schema graph (slice i)) in
    let new : c.in_ok-numbers.numbers.after.items ≡ numbers_in schema later (listed_parts schema (data_keys changes) graph later) = ◌∙◌ {A = List Filed} c.in_ok-numbers.ensures.after (◌∙◌ {A = List Filed} (λ i. flat_map (λ part. filed_after schema graph part.key part.ops) (slice i)) (changed_numbers schema graph changes c.requires.fitting lawful)) in
    let numbered : c.in_ok-numbered.numbered.items ≡ numbered_parts schema (data_keys changes) graph later = ◌∙◌ {A = List Part} c.in_ok-numbered.ensures (λ i. filed_parts (old i) (new i)) in
    let whole : IsWhole schema graph changes c.in_ok-parts.parts.items = ◌∙◌ {A = List Part} c.in_ok-parts.ensures (λ i. (own i ++ listed i) ++ numbered i) in
    let ascend = c.sorted.ensures.ascend (changed_apart schema graph changes c.requires.fitting lawful c.in_ok-parts.parts.items whole) in
    let one = c.in_ok-lists.ensures.reads in
    let two = c.in_ok-numbers.ensures.reads in
    let subjects : sum_by reads_at c.as_slice.result.now ≡ length (data_keys changes) = (λ i. sum_by reads_at (first i)) ∙ all_read changes in
    let nodes : counted_parts schema c.as_slice-6.result.now ≡ counted_parts schema (listed_parts schema (data_keys changes) graph later) = λ i. counted_parts schema (slice i) in
    record {
      exact = ok_all_with c.sorted.result (λ v. IsPermutation c.in_ok-parts.parts.items v.items) (λ v. Ascends part_cmp v.items) (λ v. (key : Key) → ops_at v.items key ≡ ops_at c.in_ok-parts.parts.items key) (λ v. AreGainsAndLosses schema graph schema later v.items)
          (λ v moved up same. changed_exact schema graph changes c.requires.fitting lawful c.in_ok-parts.parts.items v.items whole moved up same)
          c.sorted.ensures.moved ascend c.sorted.ensures.same;
      reads = ok_with c.sorted.result (λ v. IsPermutation c.in_ok-parts.parts.items v.items) (λ v. c.numbers_of.new.reads ≡ c.args.reads.now + (length (data_keys changes) + counted_parts schema v.items))
          (λ v moved. let counted = changed_counted schema graph changes c.requires.fitting lawful c.in_ok-parts.parts.items v.items whole moved in omega (arith, one, two, subjects, nodes, counted))
          c.sorted.ensures.moved;
    }

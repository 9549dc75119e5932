use Rattle.std.proofs.Common.{◌≡◌, IfOk, List, map, subst, sym, ◌∙◌}
use Rattle.dg_values.specs.declared.value.Posting.{Posting}
use Rattle.dg_keys.specs.declared.record.Part.{Part}
use Rattle.dg_delta.specs.Ops.{changes_between}
use Rattle.dg_edges.specs.Deltas.{parts_at}
use Rattle.dg_edges.specs.Filing.{nodes_under, filed_keys, filed_parts}
use Rattle.dg_edges.proofs.deltas.parts_by.Goals as goal

pub returns : goal.returns
returns c =
    let old = c.args.found.now.before.items in
    let new = c.args.found.now.after.items in
    let before : c.as_slice-before.result.now ≡ old = c.as_slice-before.ensures.value in
    let after : c.as_slice-after.result.now ≡ new = c.as_slice-after.ensures.value in
    let keys : c.in_ok-keys.keys.items ≡ filed_keys old new = c.in_ok-keys.ensures.keys ∙ λ i. filed_keys (before i) (after i) in
    let first : c.as_slice.result.now ≡ filed_keys old new = c.as_slice.ensures.value ∙ keys in
    let second : c.as_slice-2.result.now ≡ filed_keys old new = c.as_slice-2.ensures.value ∙ keys in
    let third : c.as_slice-3.result.now ≡ filed_keys old new = c.as_slice-3.ensures.value ∙ keys in
    let lost : c.as_slice-4.result.now ≡ map (nodes_under old) c.as_slice-3.result.now = ◌∙◌ {A = List (List Posting)} c.as_slice-4.ensures.value (◌∙◌ {A = List (List Posting)} c.in_ok-lost.ensures (λ i. map (nodes_under (before i)) ((first ∙ sym third) i))) in
    let gained : c.as_slice-5.result.now ≡ map (nodes_under new) c.as_slice-3.result.now = ◌∙◌ {A = List (List Posting)} c.as_slice-5.ensures.value (◌∙◌ {A = List (List Posting)} c.in_ok-gained.ensures (λ i. map (nodes_under (after i)) ((second ∙ sym third) i))) in
    let made = c.parts_between.ensures (nodes_under old) (nodes_under new) lost gained in
    let is : parts_at (λ k. changes_between (nodes_under old k) (nodes_under new k)) c.as_slice-3.result.now ≡ filed_parts old new = λ i. parts_at (λ k. changes_between (nodes_under old k) (nodes_under new k)) (third i) in
    subst (λ (x : List Part). IfOk c.parts_between.result (λ v. v.items ≡ x)) is made

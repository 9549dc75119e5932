use Rattle.std.proofs.Common.{◌≡◌, IfOk, List, ◌++◌, flat_map, map, subst, sym, ◌∙◌}
use Rattle.dg_values.specs.declared.value.Posting.{Posting}
use Rattle.dg_keys.specs.declared.record.Part.{Part}
use Rattle.dg_delta.specs.Ops.{changes_between}
use Rattle.dg_edges.specs.Altering.{filed_long, numbers_from, altered_parts}
use Rattle.dg_edges.specs.Deltas.{parts_at}
use Rattle.dg_edges.specs.Filing.{nodes_under, filed_keys, filed_parts}
use Rattle.dg_edges.specs.declared.filing.Filed.{Filed}
use Rattle.dg_edges.proofs.altering.parts_under.Goals as goal

pub returns : goal.returns
returns c =
    let schema = c.args.old.now in
    let later = c.args.new.now in
    let old = c.args.found.now.before.items in
    let new = c.args.found.now.after.items in
    let before : c.as_slice-before.result.now ≡ old = c.as_slice-before.ensures.value in
    let after : c.as_slice-after.result.now ≡ new = c.as_slice-after.ensures.value in
    let keys : c.in_ok-keys.keys.items ≡ filed_keys old new = c.in_ok-keys.ensures.keys ∙ λ i. filed_keys (before i) (after i) in
    let first : c.as_slice.result.now ≡ filed_keys old new = c.as_slice.ensures.value ∙ keys in
    let second : c.as_slice-2.result.now ≡ filed_keys old new = c.as_slice-2.ensures.value ∙ keys in
    let third : c.as_slice-3.result.now ≡ filed_keys old new = c.as_slice-3.ensures.value ∙ keys in
    let sixth : c.as_slice-6.result.now ≡ filed_keys old new = c.as_slice-6.ensures.value ∙ keys in
    let eighth : c.as_slice-8.result.now ≡ filed_keys old new = c.as_slice-8.ensures.value ∙ keys in
    let lost : c.as_slice-4.result.now ≡ map (nodes_under old) c.as_slice-3.result.now = ◌∙◌ {A = List (List Posting)} c.as_slice-4.ensures.value (◌∙◌ {A = List (List Posting)} c.in_ok-lost.ensures (λ i. map (nodes_under (before i)) ((first ∙ sym third) i))) in
    let gained : c.as_slice-5.result.now ≡ map (nodes_under new) c.as_slice-3.result.now = ◌∙◌ {A = List (List Posting)} c.as_slice-5.ensures.value (◌∙◌ {A = List (List Posting)} c.in_ok-gained.ensures (λ i. map (nodes_under (after i)) ((second ∙ sym third) i))) in
    let fewer : c.as_slice-7.result.now ≡ map (nodes_under old) c.as_slice-6.result.now = ◌∙◌ {A = List (List Posting)} c.as_slice-7.ensures.value (◌∙◌ {A = List (List Posting)} c.in_ok-lost.ensures (λ i. map (nodes_under (before i)) ((first ∙ sym sixth) i))) in
    let further : c.as_slice-9.result.now ≡ map (nodes_under new) c.as_slice-8.result.now = ◌∙◌ {A = List (List Posting)} c.as_slice-9.ensures.value (◌∙◌ {A = List (List Posting)} c.in_ok-gained.ensures (λ i. map (nodes_under (after i)) ((second ∙ sym eighth) i))) in
    let listed : c.in_ok-listed.listed.items ≡ filed_parts old new = ◌∙◌ {A = List Part} (c.in_ok-listed.ensures (nodes_under old) (nodes_under new) lost gained) (λ i. parts_at (λ k. changes_between (nodes_under old k) (nodes_under new k)) (third i)) in
    let less : c.in_ok-less.less.items ≡ numbers_from schema (filed_keys old new) old = ◌∙◌ {A = List Filed} (c.in_ok-less.ensures (nodes_under old) fewer) (λ i. flat_map (λ k. filed_long schema k (nodes_under old k)) (sixth i)) in
    let more : c.in_ok-more.more.items ≡ numbers_from later (filed_keys old new) new = ◌∙◌ {A = List Filed} (c.in_ok-more.ensures (nodes_under new) further) (λ i. flat_map (λ k. filed_long later k (nodes_under new k)) (eighth i)) in
    let numbered : c.in_ok-numbered.numbered.items ≡ filed_parts (numbers_from schema (filed_keys old new) old) (numbers_from later (filed_keys old new) new) = ◌∙◌ {A = List Part} c.in_ok-numbered.ensures (λ i. filed_parts (less i) (more i)) in
    let is : c.in_ok-listed.listed.items ++ c.in_ok-numbered.numbered.items ≡ altered_parts schema later old new = λ i. listed i ++ numbered i in
    subst (λ (x : List Part). IfOk c.both.result (λ v. v.items ≡ x)) is c.both.ensures

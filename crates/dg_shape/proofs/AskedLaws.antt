-- What fields ask, and what an edge leaves of what stands under it.
use Rattle.std.proofs.Common.{◌≡◌, List, ap, refl, ◌∙◌}
use Rattle.std.specs.Prelude.{Option, Some, map, unwrap_or}
use Rattle.dg_tree.specs.declared.tree.Tree.{Tree}
use Rattle.dg_parse.specs.declared.query.QArg.{QArg}
use Rattle.dg_parse.specs.declared.query.QDir.{QDir}
use Rattle.dg_parse.specs.declared.query.QEdge.{QEdge}
use Rattle.dg_parse.specs.declared.query.QField.{QField}
use Rattle.dg_parse.specs.declared.query.QItem.{QItem}
use Rattle.dg_parse.specs.declared.query.QItem.TheVariants as items
use Rattle.dg_parse.specs.declared.query.QItem.TheOpen.{QItem-F}
use Rattle.dg_parse.specs.declared.query.QItem.TheViews.{out-QItem}
use Rattle.dg_parse.specs.declared.query.QItem.TheFolds.{fold_out-QItem, fold_out-QField}
use Rattle.dg_parse.specs.Keys.{shown_key, key_of}
use Rattle.dg_shape.specs.Keyed.{is_number}
use Rattle.dg_shape.specs.Asked.{Asked, step_of_item, step_of_field, asked_by, asked_by_item}

-- what the fields in its braces leave
pub edge_leaves : (below : List Asked → Tree → Option Tree) (item : QItem) (edge : QEdge) (args : List QArg) (dirs : List QDir) (fields : List QField) (t : Tree)
    → item ≡ items.Edge edge args dirs (Some fields) → (asked_by_item below item).left t ≡ below (map (asked_by below) fields) t
edge_leaves below item edge args dirs fields t e =
    ap (λ a. (asked_by_item below a).left t) e
    ∙ (ap (λ a. a.left t) (fold_out-QItem Asked Asked (step_of_item below) step_of_field (items.Edge edge args dirs (Some fields))) ∙ rw (items.outs-Edge edge args dirs (Some fields)) refl)

module _ (below : List Asked → Tree → Option Tree) where
  key_at : (item : QItem) (y : QItem-F QItem QField) → out-QItem item ≡ y → (asked_by_item below item).key ≡ shown_key y
  key_at item QItem-F.Uid e = ap (λ a. a.key) (fold_out-QItem Asked Asked (step_of_item below) step_of_field item) ∙ rw e refl
  key_at item QItem-F.CountUid e = ap (λ a. a.key) (fold_out-QItem Asked Asked (step_of_item below) step_of_field item) ∙ rw e refl
  key_at item (QItem-F.Count edge) e = ap (λ a. a.key) (fold_out-QItem Asked Asked (step_of_item below) step_of_field item) ∙ rw e refl
  key_at item (QItem-F.Val x) e = ap (λ a. a.key) (fold_out-QItem Asked Asked (step_of_item below) step_of_field item) ∙ rw e refl
  key_at item (QItem-F.Agg op x) e = ap (λ a. a.key) (fold_out-QItem Asked Asked (step_of_item below) step_of_field item) ∙ rw e refl
  key_at item (QItem-F.Edge edge args dirs fields) e = ap (λ a. a.key) (fold_out-QItem Asked Asked (step_of_item below) step_of_field item) ∙ rw e refl

  -- the key of a field
  pub asked_key : (q : QField) → (asked_by below q).key ≡ key_of q
  asked_key q = ap (λ a. a.key) (fold_out-QField Asked Asked (step_of_item below) step_of_field q) ∙ λ i. unwrap_or q.alias (key_at q.item (out-QItem q.item) refl i)

  -- what is left under a field is what is left under its item
  pub asked_left : (q : QField) (t : Tree) → (asked_by below q).left t ≡ (asked_by_item below q.item).left t
  asked_left q t = ap (λ a. a.left t) (fold_out-QField Asked Asked (step_of_item below) step_of_field q)

  number_at : (item : QItem) (y : QItem-F QItem QField) → out-QItem item ≡ y → (asked_by_item below item).numbers ≡ is_number y
  number_at item QItem-F.Uid e = ap (λ a. a.numbers) (fold_out-QItem Asked Asked (step_of_item below) step_of_field item) ∙ rw e refl
  number_at item QItem-F.CountUid e = ap (λ a. a.numbers) (fold_out-QItem Asked Asked (step_of_item below) step_of_field item) ∙ rw e refl
  number_at item (QItem-F.Count edge) e = ap (λ a. a.numbers) (fold_out-QItem Asked Asked (step_of_item below) step_of_field item) ∙ rw e refl
  number_at item (QItem-F.Val x) e = ap (λ a. a.numbers) (fold_out-QItem Asked Asked (step_of_item below) step_of_field item) ∙ rw e refl
  number_at item (QItem-F.Agg op x) e = ap (λ a. a.numbers) (fold_out-QItem Asked Asked (step_of_item below) step_of_field item) ∙ rw e refl
  number_at item (QItem-F.Edge edge args dirs fields) e = ap (λ a. a.numbers) (fold_out-QItem Asked Asked (step_of_item below) step_of_field item) ∙ rw e refl

  -- whether a field is the number of nodes
  pub asked_number : (q : QField) → (asked_by below q).numbers ≡ is_number (out-QItem q.item)
  asked_number q = ap (λ a. a.numbers) (fold_out-QField Asked Asked (step_of_item below) step_of_field q) ∙ number_at q.item (out-QItem q.item) refl

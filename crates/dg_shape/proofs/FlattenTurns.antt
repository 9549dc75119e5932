-- One turn of the loop that makes the flat objects of a node.
use Rattle.std.proofs.Common.{◌≡◌, ℕ, suc, ◌+◌, ◌<◌, ◌≤◌, Bool, true, false, cond, List, [], ◌∷◌, length, get_or, drop, refl, ap, sym, ◌∙◌, drop-cons, add-one}
use Rattle.std.specs.Prelude.{Some, is_some, unwrap_or, bytes_eq}
use Rattle.std.proofs.lemmas.List.{drop_all}
use Rattle.dg_tree.specs.declared.tree.Field.{Field}
use Rattle.dg_tree.specs.declared.tree.Tree.TheViews.{out-Tree}
use Rattle.dg_parse.specs.declared.query.QArg.{QArg}
use Rattle.dg_parse.specs.declared.query.QDir.{QDir}
use Rattle.dg_parse.specs.declared.query.QEdge.{QEdge}
use Rattle.dg_parse.specs.declared.query.QItem.TheVariants as items
use Rattle.dg_parse.specs.declared.query.QField.{QField}
use Rattle.dg_parse.specs.declared.query.QItem.{QItem}
use Rattle.dg_parse.specs.declared.query.QItem.TheOpen.{QItem-F}
use Rattle.dg_parse.specs.declared.query.QItem.TheViews.{out-QItem}
use Rattle.dg_parse.specs.declared.query.QItem.TheFolds.{fold_out-QItem, fold_out-QField}
use Rattle.dg_parse.specs.Keys.{shown_key, key_of}
use Rattle.dg_shape.specs.Normalize.{Flattened, FlattenedItem, step_of_item, step_of_field, flattened, flattened_item, after_fields, after_edge, to_flatten}

key_at : (item : QItem) (y : QItem-F QItem QField) → out-QItem item ≡ y → (flattened_item item).key ≡ shown_key y
key_at item QItem-F.Uid e = ap (λ a. a.key) (fold_out-QItem FlattenedItem Flattened step_of_item step_of_field item) ∙ rw e refl
key_at item QItem-F.CountUid e = ap (λ a. a.key) (fold_out-QItem FlattenedItem Flattened step_of_item step_of_field item) ∙ rw e refl
key_at item (QItem-F.Count edge) e = ap (λ a. a.key) (fold_out-QItem FlattenedItem Flattened step_of_item step_of_field item) ∙ rw e refl
key_at item (QItem-F.Val x) e = ap (λ a. a.key) (fold_out-QItem FlattenedItem Flattened step_of_item step_of_field item) ∙ rw e refl
key_at item (QItem-F.Agg op x) e = ap (λ a. a.key) (fold_out-QItem FlattenedItem Flattened step_of_item step_of_field item) ∙ rw e refl
key_at item (QItem-F.Edge edge args dirs fields) e = ap (λ a. a.key) (fold_out-QItem FlattenedItem Flattened step_of_item step_of_field item) ∙ rw e refl

-- the key of a field
pub flattened_key : (q : QField) → (flattened q).key ≡ key_of q
flattened_key q = ap (λ a. a.key) (fold_out-QField FlattenedItem Flattened step_of_item step_of_field q) ∙ λ i. unwrap_or q.alias (key_at q.item (out-QItem q.item) refl i)

-- the objects behind a field are those behind its item
pub flattened_after : (q : QField) (f : Field) (objects : List (List Field)) → (flattened q).after f objects ≡ (flattened_item q.item).after (is_some q.alias) f objects
flattened_after q f objects = ap (λ a. a.after f objects) (fold_out-QField FlattenedItem Flattened step_of_item step_of_field q)

nothing_left : (asked : List Flattened) (objects : List (List Field)) → after_fields asked [] objects ≡ objects
nothing_left [] objects = refl
nothing_left (a ∷ asked) objects = refl

pub after_last : (fields : List Field) (at : ℕ) (asked : Flattened) (more : List Flattened) (objects : List (List Field)) → length fields ≤ at → after_fields (asked ∷ more) (drop at fields) objects ≡ after_fields more (drop at fields) objects
after_last fields at asked more objects le =
    let none : drop at fields ≡ [] = drop_all at fields le in
    (λ i. after_fields (asked ∷ more) (none i) objects) ∙ (sym (nothing_left more objects) ∙ λ i. after_fields more (sym none i) objects)

pub after_other : (fields : List Field) (at : ℕ) (asked : Flattened) (more : List Flattened) (objects : List (List Field)) (f : Field) → at < length fields → f ≡ get_or fields at f → bytes_eq f.key asked.key ≡ false
    → after_fields (asked ∷ more) (drop at fields) objects ≡ after_fields more (drop at fields) objects
after_other fields at asked more objects f lt e key =
    let split : drop at fields ≡ f ∷ drop (suc at) fields = drop-cons fields at f lt ∙ λ i. sym e i ∷ drop (suc at) fields in
    (λ i. after_fields (asked ∷ more) (split i) objects)
    ∙ ((λ i. cond (key i) (after_fields more (drop (suc at) fields) (asked.after f objects)) (after_fields more (f ∷ drop (suc at) fields) objects))
    ∙ λ i. after_fields more (sym split i) objects)

pub after_own : (fields : List Field) (at : ℕ) (asked : Flattened) (more : List Flattened) (objects : List (List Field)) (f : Field) → at < length fields → f ≡ get_or fields at f → bytes_eq f.key asked.key ≡ true
    → (made : List (List Field)) → made ≡ asked.after f objects → after_fields (asked ∷ more) (drop at fields) objects ≡ after_fields more (drop (at + 1) fields) made
after_own fields at asked more objects f lt e key made is =
    let split : drop at fields ≡ f ∷ drop (suc at) fields = drop-cons fields at f lt ∙ λ i. sym e i ∷ drop (suc at) fields in
    let next : drop (suc at) fields ≡ drop (at + 1) fields = ap (λ n. drop n fields) (sym (add-one at)) in
    (λ i. after_fields (asked ∷ more) (split i) objects)
    ∙ ((λ i. cond (key i) (after_fields more (drop (suc at) fields) (asked.after f objects)) (after_fields more (f ∷ drop (suc at) fields) objects))
    ∙ λ i. after_fields more (next i) (sym is i))

-- the objects behind an edge
pub edge_after : (item : QItem) (edge : QEdge) (args : List QArg) (dirs : List QDir) (fields : List QField) (alias : Bool) (f : Field) (objects : List (List Field))
    → item ≡ items.Edge edge args dirs (Some fields) → (flattened_item item).after alias f objects ≡ after_edge (to_flatten fields) alias f objects (out-Tree f.tree)
edge_after item edge args dirs fields alias f objects e =
    ap (λ a. (flattened_item a).after alias f objects) e
    ∙ (ap (λ a. a.after alias f objects) (fold_out-QItem FlattenedItem Flattened step_of_item step_of_field (items.Edge edge args dirs (Some fields))) ∙ rw (items.outs-Edge edge args dirs (Some fields)) refl)

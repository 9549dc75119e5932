-- Fields that define no variable make nothing known.
use Rattle.std.proofs.Common.{◌≡◌, ℕ, zero, suc, ◌+◌, ◌<◌, ◌≤◌, Bool, false, ◌⊎◌, inl, inr, List, [], ◌∷◌, ◌++◌, map, drop, length, get_or, refl, sym, ap, subst, ◌∙◌, arith, true≢false}
use Rattle.std.specs.Prelude.{◌||◌, Option, Some, None, is_some}
use Rattle.std.specs.List.{list_any}
use Rattle.dg_schema.specs.declared.definition.PredDef.{PredDef}
use Rattle.dg_schema.specs.Definitions.{definition_of}
use Rattle.dg_graph.specs.declared.change.Triple.{Triple}
use Rattle.dg_parse.specs.declared.query.QField.{QField}
use Rattle.dg_parse.specs.declared.query.QItem.{QItem, QItem-F}
use Rattle.dg_parse.specs.declared.query.QItem.TheFolds.{map-QItem, fold_out-QItem}
use Rattle.dg_parse.specs.declared.query.QItem.TheViews.{out-QItem}
use Rattle.dg_check.specs.declared.parts.Field.{Field as Kept}
use Rattle.dg_check.specs.declared.parts.Filter.{Filter}
use Rattle.dg_check.specs.declared.parts.Item.{Item}
use Rattle.dg_check.specs.declared.parts.Item.TheOpen.{Item-F}
use Rattle.dg_check.specs.declared.parts.Item.TheFolds.{fold-roll-Item, fold_out-Field}
use Rattle.dg_check.specs.declared.parts.Item.TheVariants as kept
use Rattle.dg_check.specs.declared.parts.Item.TheViews.{out-Item}
use Rattle.dg_check.specs.declared.parts.OrderKey.{OrderKey}
use Rattle.dg_check.specs.declared.vars.Variable.{Variable}
use Rattle.dg_level.specs.Shown.{sort_of}
use Rattle.dg_level.specs.Planned.{list_by}
use Rattle.dg_level.specs.Given.{nodes_in_braces}
use Rattle.dg_level.specs.PlannedGiven.{PlannedHas, PlannedGives, edge_kept_inside, planned_inside, step_of_item, step_of_field, at_place, planned_given}
use Rattle.dg_level.specs.Defining.{defines_inside, defines_there, field_defines, item_defines, given_item, FieldGivesNothing, InsideGivesNothing, FieldsGiveNothing}
use Rattle.dg_level.proofs.GivenLaws.{field_gives}

-- ---- what defines a variable, part by part

any_mapped : {X Y : Type 0} (p : Y → Bool) (f : X → Y) (xs : List X) → list_any p (map f xs) ≡ list_any (λ x. p (f x)) xs
any_mapped p f [] = refl
any_mapped p f (x ∷ xs) = ap (λ b. p (f x) || b) (any_mapped p f xs)

pub plain_defines : item_defines kept.Plain ≡ false
plain_defines = ap item_defines (sym kept.rolls-Plain) ∙ fold-roll-Item Bool Bool defines_inside defines_there Item-F.Plain

pub val_defines : (place : ℕ) → item_defines (kept.Val place) ≡ false
val_defines place = ap item_defines (sym (kept.rolls-Val place)) ∙ fold-roll-Item Bool Bool defines_inside defines_there (Item-F.Val place)

pub edge_defines : (orders : List OrderKey) (filters : List Filter) (inner : List Kept) → item_defines (kept.Edge orders filters inner) ≡ list_any field_defines inner
edge_defines orders filters inner =
    ap item_defines (sym (kept.rolls-Edge orders filters inner))
    ∙ (fold-roll-Item Bool Bool defines_inside defines_there (Item-F.Edge orders filters inner) ∙ any_mapped (λ b. b) field_defines inner)

pub defined_there : (k : Kept) → field_defines k ≡ (is_some k.var || item_defines k.item)
defined_there k = fold_out-Field Bool Bool defines_inside defines_there k

-- ---- what makes nothing known

-- a field without a variable of its own, where its braces don't
pub field_nothing : (k : Kept) → k.var ≡ None → InsideGivesNothing k.item → FieldGivesNothing k
field_nothing k unset inside schema graph vars text nodes =
    field_gives schema graph vars text k nodes
    ∙ ((λ j. at_place (unset j) ((given_item schema graph vars text.item).has k.item nodes) ++ (given_item schema graph vars text.item).inside k.item nodes) ∙ inside schema graph vars text.item nodes)

module _ (schema : List PredDef) (graph : List Triple) (vars : List Variable) (k : Item) (nodes : List ℕ) where
  abbrev layer_of : QItem-F QItem QField → QItem-F PlannedHas PlannedGives
  layer_of = map-QItem QItem QField PlannedHas PlannedGives (given_item schema graph vars) (planned_given schema graph vars)

  by_layer : ((layer : QItem-F QItem QField) → planned_inside schema graph vars (layer_of layer) k nodes ≡ []) → (text : QItem) → (given_item schema graph vars text).inside k nodes ≡ []
  by_layer each text =
      ap (λ (p : PlannedHas). p.inside k nodes) (fold_out-QItem PlannedHas PlannedGives (step_of_item schema graph vars) step_of_field text)
      ∙ each (out-QItem text)

  plain_layer : k ≡ kept.Plain → (layer : QItem-F QItem QField) → planned_inside schema graph vars (layer_of layer) k nodes ≡ []
  plain_layer is QItem-F.Uid = refl
  plain_layer is QItem-F.CountUid = refl
  plain_layer is (QItem-F.Count e) = refl
  plain_layer is (QItem-F.Val x) = refl
  plain_layer is (QItem-F.Agg op x) = refl
  plain_layer is (QItem-F.Edge e args dirs None) =
      λ j. edge_kept_inside graph vars e args [] (sort_of (definition_of schema e.pred) e.back) ((ap out-Item is ∙ kept.outs-Plain) j) nodes
  plain_layer is (QItem-F.Edge e args dirs (Some braces)) =
      λ j. edge_kept_inside graph vars e args (map (planned_given schema graph vars) braces) (sort_of (definition_of schema e.pred) e.back) ((ap out-Item is ∙ kept.outs-Plain) j) nodes

  val_layer : (place : ℕ) → k ≡ kept.Val place → (layer : QItem-F QItem QField) → planned_inside schema graph vars (layer_of layer) k nodes ≡ []
  val_layer place is QItem-F.Uid = refl
  val_layer place is QItem-F.CountUid = refl
  val_layer place is (QItem-F.Count e) = refl
  val_layer place is (QItem-F.Val x) = refl
  val_layer place is (QItem-F.Agg op x) = refl
  val_layer place is (QItem-F.Edge e args dirs None) =
      λ j. edge_kept_inside graph vars e args [] (sort_of (definition_of schema e.pred) e.back) ((ap out-Item is ∙ kept.outs-Val place) j) nodes
  val_layer place is (QItem-F.Edge e args dirs (Some braces)) =
      λ j. edge_kept_inside graph vars e args (map (planned_given schema graph vars) braces) (sort_of (definition_of schema e.pred) e.back) ((ap out-Item is ∙ kept.outs-Val place) j) nodes

  module _ (orders : List OrderKey) (filters : List Filter) (inner : List Kept) (is : k ≡ kept.Edge orders filters inner) (none : FieldsGiveNothing inner) where
    edge_layer : (layer : QItem-F QItem QField) → planned_inside schema graph vars (layer_of layer) k nodes ≡ []
    edge_layer QItem-F.Uid = refl
    edge_layer QItem-F.CountUid = refl
    edge_layer (QItem-F.Count e) = refl
    edge_layer (QItem-F.Val x) = refl
    edge_layer (QItem-F.Agg op x) = refl
    edge_layer (QItem-F.Edge e args dirs None) =
        λ j. edge_kept_inside graph vars e args [] (sort_of (definition_of schema e.pred) e.back) ((ap out-Item is ∙ kept.outs-Edge orders filters inner) j) nodes
    edge_layer (QItem-F.Edge e args dirs (Some braces)) =
        (λ j. edge_kept_inside graph vars e args (map (planned_given schema graph vars) braces) (sort_of (definition_of schema e.pred) e.back) ((ap out-Item is ∙ kept.outs-Edge orders filters inner) j) nodes)
        ∙ none schema graph vars braces (nodes_in_braces (sort_of (definition_of schema e.pred) e.back) (list_by graph vars e args (sort_of (definition_of schema e.pred) e.back) orders filters) nodes)

-- what stands in the braces of an item without any
pub plain_nothing : (k : Item) → (k ≡ kept.Plain) ⊎ ((place : ℕ) × (k ≡ kept.Val place)) → InsideGivesNothing k
plain_nothing k (inl is) schema graph vars text nodes = by_layer schema graph vars k nodes (plain_layer schema graph vars k nodes is) text
plain_nothing k (inr a) schema graph vars text nodes = by_layer schema graph vars k nodes (val_layer schema graph vars k nodes a.0 a.1) text

-- and of an edge, where its fields don't
pub edge_nothing : (k : Item) (orders : List OrderKey) (filters : List Filter) (inner : List Kept) → k ≡ kept.Edge orders filters inner → FieldsGiveNothing inner → InsideGivesNothing k
edge_nothing k orders filters inner is none schema graph vars text nodes = by_layer schema graph vars k nodes (edge_layer schema graph vars k nodes orders filters inner is none) text

-- no field
pub none_nothing : FieldsGiveNothing []
none_nothing schema graph vars [] nodes = refl
none_nothing schema graph vars (q ∷ text) nodes = refl

-- one field more
pub more_nothing : (k : Kept) (ks : List Kept) → FieldGivesNothing k → FieldsGiveNothing ks → FieldsGiveNothing (k ∷ ks)
more_nothing k ks here rest schema graph vars [] nodes = refl
more_nothing k ks here rest schema graph vars (q ∷ text) nodes = λ j. here schema graph vars q nodes j ++ rest schema graph vars text nodes j

from_next : (ks : List Kept) (i : ℕ) (k : Kept) → i < length ks → k ≡ get_or ks i k → FieldGivesNothing k → FieldsGiveNothing (drop (suc i) ks) → FieldsGiveNothing (drop i ks)
from_next [] i k lt is here rest = absurd (omega (arith, lt))
from_next (p ∷ ks) zero k lt is here rest = more_nothing p ks (λ schema graph vars text nodes. (λ j. planned_given schema graph vars text (sym is j) nodes) ∙ here schema graph vars text nodes) rest
from_next (p ∷ ks) (suc i) k lt is here rest = from_next ks i k (omega (arith, lt)) is here rest

-- the fields from a place on
pub from_nothing : (ks : List Kept) (i : ℕ) (k : Kept) → i < length ks → k ≡ get_or ks i k → FieldGivesNothing k → FieldsGiveNothing (drop (i + 1) ks) → FieldsGiveNothing (drop i ks)
from_nothing ks i k lt is here rest =
    let e : i + 1 ≡ suc i = omega arith in
    from_next ks i k lt is here (subst (λ n. FieldsGiveNothing (drop n ks)) e rest)

-- all fields
pub all_nothing : (ks : List Kept) (i : ℕ) → length ks ≤ i → FieldsGiveNothing (drop i ks)
all_nothing [] zero le = none_nothing
all_nothing [] (suc i) le = none_nothing
all_nothing (k ∷ ks) zero le = absurd (omega (arith, le))
all_nothing (k ∷ ks) (suc i) le = all_nothing ks i (omega (arith, le))

-- a number that isn't there
pub unset : (var : Option ℕ) → is_some var ≡ false → var ≡ None
unset None e = refl
unset (Some place) e = absurd (true≢false e)

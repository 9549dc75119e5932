-- What is known of the nodes that a cascade leaves.
use Rattle.std.proofs.Common.{◌≡◌, ℕ, zero, suc, ◌+◌, ◌<◌, ◌⊎◌, inl, inr, Bool, true, false, List, [], ◌∷◌, ◌++◌, map, flat_map, drop, length, get_or, slice_get, filter, Option, Some, Result, Ok, Err, IfOk, IfSome, refl, sym, ap, subst, ◌∙◌, arith}
use Rattle.std.specs.Prelude.{◌&&◌, ◌||◌}
use Rattle.std.specs.Ordering.{nat_cmp, is_eq}
use Rattle.std.proofs.lemmas.Option.{slice_get_read}
use Rattle.dg_values.specs.declared.value.Value.{Value}
use Rattle.dg_values.specs.Ascending.{ascending, has}
use Rattle.dg_sets.proofs.MadeOrders.{nat_order}
use Rattle.dg_sets.proofs.Sets.{is_itself, is_one, has_joined, has_passed}
use Rattle.dg_schema.specs.declared.definition.PredDef.{PredDef}
use Rattle.dg_schema.specs.Definitions.{definition_of}
use Rattle.dg_graph.specs.declared.change.Triple.{Triple}
use Rattle.dg_parse.specs.declared.query.QArg.{QArg}
use Rattle.dg_parse.specs.declared.query.QDir.{QDir}
use Rattle.dg_parse.specs.declared.query.QEdge.{QEdge}
use Rattle.dg_parse.specs.declared.query.QField.{QField}
use Rattle.dg_parse.specs.declared.query.QItem.{QItem, QItem-F}
use Rattle.dg_parse.specs.declared.query.QItem.TheVariants as items
use Rattle.dg_parse.specs.declared.query.QItem.TheViews.{out-QItem}
use Rattle.dg_check.specs.declared.parts.Field.{Field as Kept}
use Rattle.dg_check.specs.declared.parts.Filter.{Filter}
use Rattle.dg_check.specs.declared.parts.Item.{Item, Item-F}
use Rattle.dg_check.specs.declared.parts.Item.TheVariants as kept
use Rattle.dg_check.specs.declared.parts.Item.TheViews.{out-Item}
use Rattle.dg_check.specs.declared.parts.OrderKey.{OrderKey}
use Rattle.dg_check.specs.declared.vars.Variable.{Variable}
use Rattle.dg_funcs.proofs.PassLaws.{or_true, and_true, filter_same}
use Rattle.dg_level.specs.declared.left.Left.{Left, Left-F}
use Rattle.dg_level.specs.declared.left.Left.TheVariants as lefts
use Rattle.dg_level.specs.declared.left.Left.TheViews.{out-Left}
use Rattle.dg_level.specs.Known.{KnowsLists, values_by, KnowsValues, KnowsItem}
use Rattle.dg_level.specs.Shown.{sort_of, in_braces}
use Rattle.dg_level.specs.Planned.{is_single, planned_there}
use Rattle.dg_level.specs.Levels.{list_of}
use Rattle.dg_level.specs.Left.{first_left, after_first, TellsWhole, TellsIn, IsLeft, unknown, values, nodes, AreLeft, IsLeftBelow, IsLeftOf, IsLeftIn}
use Rattle.dg_level.proofs.ListLaws.{ascending_has, map_within}

-- what follows of an answer follows where there is one
pub if_ok : {A E : Type 0} (r : Result A E) (P Q : A → Type 0) → ((x : A) → P x → Q x) → IfOk r P → IfOk r Q
if_ok (Ok x) P Q f h = f x h
if_ok (Err e) P Q f h = tt

-- and where there is something
pub if_some : {A : Type 0} (o : Option A) (x : A) (P : A → Type 0) → o ≡ Some x → IfSome o P → P x
if_some {A} o x P is h = subst (λ (p : Option A). IfSome p P) is h

-- ---- nodes of lists

or_left : (a b : Bool) → a ≡ true → (a || b) ≡ true
or_left true b e = refl
or_left false b e = absurd (cc)

-- a node of one of the lists is a node of the list of some node
from_list : (list : ℕ → List ℕ) (ns : List ℕ) (P : Type 0) (m : ℕ) → ((n : ℕ) → has nat_cmp ns n ≡ true → has nat_cmp (list n) m ≡ true → P) → has nat_cmp (flat_map list ns) m ≡ true → P
from_list list [] P m each h = absurd (cc)
from_list list (n ∷ ns) P m each h =
    by (has nat_cmp (list n) m) refl (sym (has_joined nat_cmp nat_order (list n) (flat_map list ns) m) ∙ h) (λ k. from_list list ns P m (λ u f g. each u (or_true (is_eq (nat_cmp n u)) (has nat_cmp ns u) f) g) k)
  where
    by : (b : Bool) → has nat_cmp (list n) m ≡ b → (b || has nat_cmp (flat_map list ns) m) ≡ true → (has nat_cmp (flat_map list ns) m ≡ true → P) → P
    by true e h rest = each n (or_left (is_eq (nat_cmp n n)) (has nat_cmp ns n) (is_itself nat_cmp nat_order n)) e
    by false e h rest = rest h

-- and the other way round
in_lists : (list : ℕ → List ℕ) (ns : List ℕ) (n m : ℕ) → has nat_cmp ns n ≡ true → has nat_cmp (list n) m ≡ true → has nat_cmp (flat_map list ns) m ≡ true
in_lists list [] n m h k = absurd (cc)
in_lists list (x ∷ ns) n m h k = has_joined nat_cmp nat_order (list x) (flat_map list ns) m ∙ by (is_eq (nat_cmp x n)) refl h (λ g. in_lists list ns n m g k)
  where
    by : (b : Bool) → is_eq (nat_cmp x n) ≡ b → (b || has nat_cmp ns n) ≡ true → (has nat_cmp ns n ≡ true → has nat_cmp (flat_map list ns) m ≡ true) → (has nat_cmp (list x) m || has nat_cmp (flat_map list ns) m) ≡ true
    by true e h rest = or_left (has nat_cmp (list x) m) (has nat_cmp (flat_map list ns) m) ((λ i. has nat_cmp (list (is_one nat_cmp nat_order x n e i)) m) ∙ k)
    by false e h rest = or_true (has nat_cmp (list x) m) (has nat_cmp (flat_map list ns) m) (rest h)

-- ---- sets that tell which nodes are whole

module _ (there : ℕ → Bool) where
  -- those of the lists of a level's nodes
  pub told_in : (list : ℕ → List ℕ) (level whole : List ℕ) (lists : List (List ℕ)) → lists ≡ map list level → TellsWhole there list level whole → TellsIn there lists whole
  told_in list level whole lists are tells m h =
      from_list list level (has nat_cmp whole m ≡ there m) m (λ n k l. tells n m k l) ((λ i. has nat_cmp (joined level i) m) ∙ ((λ i. has nat_cmp (flat_map (λ l. l) (sym are i)) m) ∙ h))
    where
      joined : (ns : List ℕ) → flat_map list ns ≡ flat_map (λ l. l) (map list ns)
      joined [] = refl
      joined (n ∷ ns) = ap (λ ms. list n ++ ms) (joined ns)

  -- those that pass of all nodes of lists
  pub passed_tell : (level : List ℕ) (lists : List (List ℕ)) (whole : List ℕ) → level ≡ ascending nat_cmp (flat_map (λ l. l) lists) → whole ≡ filter there level → TellsIn there lists whole
  passed_tell level lists whole is made m h =
      (λ i. has nat_cmp (made i) m) ∙ (has_passed nat_cmp nat_order there level m ∙ ((λ i. there m && (ap (λ l. has nat_cmp l m) is ∙ (ascending_has (flat_map (λ l. l) lists) m ∙ h)) i) ∙ and_true (there m)))

  -- and of the lists of a level's nodes
  pub passed_whole : (list : ℕ → List ℕ) (ns level whole : List ℕ) → level ≡ ascending nat_cmp (flat_map list ns) → whole ≡ filter there level → TellsWhole there list ns whole
  passed_whole list ns level whole is made n m h k =
      (λ i. has nat_cmp (made i) m)
      ∙ (has_passed nat_cmp nat_order there level m
      ∙ ((λ i. there m && (ap (λ l. has nat_cmp l m) is ∙ (ascending_has (flat_map list ns) m ∙ in_lists list ns n m h k)) i) ∙ and_true (there m)))

  -- what such a set leaves of the lists
  pub told_left : (lists : List (List ℕ)) (whole : List ℕ) → TellsIn there lists whole → map (filter (has nat_cmp whole)) lists ≡ map (filter there) lists
  told_left lists whole tells =
      map_within (filter (has nat_cmp whole)) (filter there) (flat_map (λ l. l) lists) lists (λ cs sub. filter_same (has nat_cmp whole) there cs (λ u h. tells u (sub u h))) (λ u h. h)

-- those of a set that pass are in it
pub passed_in : (p : ℕ → Bool) (level made : List ℕ) → made ≡ filter p level → (n : ℕ) → has nat_cmp made n ≡ true → has nat_cmp level n ≡ true
passed_in p level made is n h = second (p n) (has nat_cmp level n) (sym (has_passed nat_cmp nat_order p level n) ∙ ((λ i. has nat_cmp (sym is i) n) ∙ h))
  where
    second : (a b : Bool) → (a && b) ≡ true → b ≡ true
    second true b e = e
    second false b e = absurd (cc)

-- all nodes that a set leaves of lists are in it
pub left_inside : (lists : List (List ℕ)) (whole : List ℕ) (m : ℕ) → has nat_cmp (ascending nat_cmp (flat_map (λ l. l) (map (filter (has nat_cmp whole)) lists))) m ≡ true → has nat_cmp whole m ≡ true
left_inside lists whole m h = each lists (sym (ascending_has (flat_map (λ l. l) (map (filter (has nat_cmp whole)) lists)) m) ∙ h)
  where
    first : (a b : Bool) → (a && b) ≡ true → a ≡ true
    first true b e = refl
    first false b e = absurd (cc)

    each : (ls : List (List ℕ)) → has nat_cmp (flat_map (λ l. l) (map (filter (has nat_cmp whole)) ls)) m ≡ true → has nat_cmp whole m ≡ true
    each [] h = absurd (cc)
    each (l ∷ ls) h = by (has nat_cmp (filter (has nat_cmp whole) l) m) refl (sym (has_joined nat_cmp nat_order (filter (has nat_cmp whole) l) (flat_map (λ l. l) (map (filter (has nat_cmp whole)) ls)) m) ∙ h) (λ k. each ls k)
      where
        by : (b : Bool) → has nat_cmp (filter (has nat_cmp whole) l) m ≡ b → (b || has nat_cmp (flat_map (λ l. l) (map (filter (has nat_cmp whole)) ls)) m) ≡ true → (has nat_cmp (flat_map (λ l. l) (map (filter (has nat_cmp whole)) ls)) m ≡ true → has nat_cmp whole m ≡ true) → has nat_cmp whole m ≡ true
        by true e h rest = first (has nat_cmp whole m) (has nat_cmp l m) (sym (has_passed nat_cmp nat_order (has nat_cmp whole) l m) ∙ e)
        by false e h rest = rest h

-- and of one list
pub left_here : (list whole : List ℕ) (m : ℕ) → has nat_cmp (ascending nat_cmp (filter (has nat_cmp whole) list)) m ≡ true → has nat_cmp whole m ≡ true
left_here list whole m h = first (has nat_cmp whole m) (has nat_cmp list m) (sym (has_passed nat_cmp nat_order (has nat_cmp whole) list m) ∙ (sym (ascending_has (filter (has nat_cmp whole) list) m) ∙ h))
  where
    first : (a b : Bool) → (a && b) ≡ true → a ≡ true
    first true b e = refl
    first false b e = absurd (cc)

-- ---- what is known under items

-- nothing tells no values
pub unknown_values : (f : ℕ → List Value) → KnowsValues f lefts.Unknown
unknown_values f of all left_is =
    let g : Left-F.Unknown ≡ Left-F.Values of all = sym lefts.outs-Unknown ∙ (ap out-Left left_is ∙ lefts.outs-Values of all) in absurd (cc)

module _ (schema : List PredDef) (graph : List Triple) (vars : List Variable) where
  -- it is known for fewer nodes too
  pub fewer : (q : QItem) (k : Item) (level more : List ℕ) (left : Left) → ((n : ℕ) → has nat_cmp level n ≡ true → has nat_cmp more n ≡ true) → IsLeft schema graph vars q k more left → IsLeft schema graph vars q k level left
  fewer _ _ level more _ sub (unknown q k _) = unknown q k level
  fewer _ _ level more _ sub (values e args dirs braces k _ of all read) = values e args dirs braces k level of all read
  fewer _ _ level more _ sub (nodes e args dirs braces orders filters inner _ of lists whole inside tells are read) = nodes e args dirs braces orders filters inner level of lists whole inside (λ n m h k. tells n m (sub n h) k) are read

  pub all_fewer : (fields : List QField) (kept : List Kept) (level more : List ℕ) (left : List Left) → ((n : ℕ) → has nat_cmp level n ≡ true → has nat_cmp more n ≡ true) → AreLeft schema graph vars fields kept more left → AreLeft schema graph vars fields kept level left
  all_fewer fields kept level more left sub are i q k l f p h = fewer q.item k.item level more l sub (are i q k l f p h)

  -- nothing is known under no field
  pub none_known : (fields : List QField) (kept : List Kept) (level : List ℕ) → AreLeft schema graph vars fields kept level []
  none_known fields kept level i q k l f p h = absurd (cc)

  -- ---- edges

  -- what is known under an edge, of which one knows what it is and what is kept of it
  pub of_edge : (q : QItem) (k : Item) (level : List ℕ) (left : Left) → IsLeft schema graph vars q k level left → (e : QEdge) (args : List QArg) (dirs : List QDir) (braces : List QField) → q ≡ items.Edge e args dirs (Some braces)
      → IsLeftOf schema graph vars (is_single (sort_of (definition_of schema e.pred) e.back)) e args braces k level left
  of_edge _ _ level _ (unknown q k _) e args dirs braces is orders filters inner kept_is of lists whole inside left_is =
      let f : Left-F.Unknown ≡ Left-F.Nodes of lists whole inside = sym lefts.outs-Unknown ∙ (ap out-Left left_is ∙ lefts.outs-Nodes of lists whole inside) in absurd (cc)
  of_edge _ _ level _ (values e1 args1 dirs1 braces1 k1 _ of1 all1 read) e args dirs braces is orders filters inner kept_is of lists whole inside left_is =
      let f : Left-F.Values of1 all1 ≡ Left-F.Nodes of lists whole inside = sym (lefts.outs-Values of1 all1) ∙ (ap out-Left left_is ∙ lefts.outs-Nodes of lists whole inside) in absurd (cc)
  of_edge _ _ level _ (nodes e1 args1 dirs1 braces1 orders1 filters1 inner1 _ of1 lists1 whole1 inside1 tells are read) e args dirs braces is orders filters inner kept_is of lists whole inside left_is =
      let f : QItem-F.Edge e1 args1 dirs1 braces1 ≡ QItem-F.Edge e args dirs (Some braces) = sym (items.outs-Edge e1 args1 dirs1 braces1) ∙ (ap out-QItem is ∙ items.outs-Edge e args dirs (Some braces)) in
      let g : Item-F.Edge orders1 filters1 inner1 ≡ Item-F.Edge orders filters inner = sym (kept.outs-Edge orders1 filters1 inner1) ∙ (ap out-Item kept_is ∙ kept.outs-Edge orders filters inner) in
      let h : Left-F.Nodes of1 lists1 whole1 inside1 ≡ Left-F.Nodes of lists whole inside = sym (lefts.outs-Nodes of1 lists1 whole1 inside1) ∙ (ap out-Left left_is ∙ lefts.outs-Nodes of lists whole inside) in
      let same_e : e1 ≡ e = cc in
      let same_args : args1 ≡ args = cc in
      let same_braces : braces1 ≡ Some braces = cc in
      let same_orders : orders1 ≡ orders = cc in
      let same_filters : filters1 ≡ filters = cc in
      let same_inner : inner1 ≡ inner = cc in
      let same_of : of1 ≡ of = cc in
      let same_lists : lists1 ≡ lists = cc in
      let same_whole : whole1 ≡ whole = cc in
      let same_inside : inside1 ≡ inside = cc in (
        λ n m a b.
            (λ i. has nat_cmp (sym same_whole i) m)
            ∙ (tells n m a ((λ i. has nat_cmp (list_of graph vars (same_e i) (same_args i) (same_orders i) (same_filters i) (is_single (sort_of (definition_of schema (same_e i).pred) (same_e i).back)) n) m) ∙ b)
            ∙ (λ i. planned_there schema graph vars (in_braces (same_braces i)) (same_inner i) m)),
        λ i q k l a b c.
            subst (λ (w : List ℕ). IsLeft schema graph vars q.item k.item w l) same_whole
            (are i q k l ((λ j. slice_get (in_braces (same_braces j)) i) ∙ a) ((λ j. slice_get (same_inner j) i) ∙ b) ((λ j. slice_get (same_inside j) i) ∙ c)),
        sym same_lists ∙ (read ∙ (λ i. map (list_of graph vars (same_e i) (same_args i) (same_orders i) (same_filters i) (is_single (sort_of (definition_of schema (same_e i).pred) (same_e i).back))) (same_of i))),
      )

  -- what is known of the values of an edge
  pub knows_item : (q : QItem) (k : Item) (level : List ℕ) (left : Left) → IsLeft schema graph vars q k level left → KnowsItem graph q left
  knows_item _ _ level _ (unknown q k _) e args dirs braces is of all left_is =
      let f : Left-F.Unknown ≡ Left-F.Values of all = sym lefts.outs-Unknown ∙ (ap out-Left left_is ∙ lefts.outs-Values of all) in absurd (cc)
  knows_item _ _ level _ (values e1 args1 dirs1 braces1 k1 _ of1 all1 read) e args dirs braces is of all left_is =
      let f : QItem-F.Edge e1 args1 dirs1 braces1 ≡ QItem-F.Edge e args dirs braces = sym (items.outs-Edge e1 args1 dirs1 braces1) ∙ (ap out-QItem is ∙ items.outs-Edge e args dirs braces) in
      let h : Left-F.Values of1 all1 ≡ Left-F.Values of all = sym (lefts.outs-Values of1 all1) ∙ (ap out-Left left_is ∙ lefts.outs-Values of all) in
      let same_e : e1 ≡ e = cc in
      let same_of : of1 ≡ of = cc in
      let same_all : all1 ≡ all = cc in
      sym same_all ∙ (read ∙ (λ i. map (values_by graph (same_e i).pred) (same_of i)))
  knows_item _ _ level _ (nodes e1 args1 dirs1 braces1 orders1 filters1 inner1 _ of1 lists1 whole1 inside1 tells are read) e args dirs braces is of all left_is =
      let f : Left-F.Nodes of1 lists1 whole1 inside1 ≡ Left-F.Values of all = sym (lefts.outs-Nodes of1 lists1 whole1 inside1) ∙ (ap out-Left left_is ∙ lefts.outs-Values of all) in absurd (cc)

  -- what is learned of values
  pub learned_values : (e : QEdge) (args : List QArg) (dirs : List QDir) (fields : Option (List QField)) (k : Item) (level of : List ℕ) (all : List (List Value)) (p : List ℕ) → e.pred ≡ p → all ≡ map (values_by graph p) of
      → IsLeft schema graph vars (items.Edge e args dirs fields) k level (lefts.Values of all)
  learned_values e args dirs fields k level of all p is read = values e args dirs fields k level of all (read ∙ (λ i. map (values_by graph (sym is i)) of))

  -- what is learned under an edge
  pub learned : (e : QEdge) (args : List QArg) (dirs : List QDir) (fields : Option (List QField)) (braces : List QField) (k : Item) (orders : List OrderKey) (filters : List Filter) (inner : List Kept) (ns : List ℕ) (lists : List (List ℕ)) (level whole : List ℕ) (inside : List Left)
      → in_braces fields ≡ braces → k ≡ kept.Edge orders filters inner
      → lists ≡ map (list_of graph vars e args orders filters (is_single (sort_of (definition_of schema e.pred) e.back))) ns
      → level ≡ ascending nat_cmp (flat_map (list_of graph vars e args orders filters (is_single (sort_of (definition_of schema e.pred) e.back))) ns) → whole ≡ filter (planned_there schema graph vars braces inner) level
      → AreLeft schema graph vars braces inner whole inside → IsLeft schema graph vars (items.Edge e args dirs fields) k ns (lefts.Nodes ns lists whole inside)
  learned e args dirs fields braces k orders filters inner ns lists level whole inside in_them is read level_is made are =
      subst (λ (one : Item). IsLeft schema graph vars (items.Edge e args dirs fields) one ns (lefts.Nodes ns lists whole inside)) (sym is)
      (nodes e args dirs fields orders filters inner ns ns lists whole inside
      (passed_whole (planned_there schema graph vars (in_braces fields) inner) (list_of graph vars e args orders filters (is_single (sort_of (definition_of schema e.pred) e.back))) ns level whole level_is (made ∙ (λ i. filter (planned_there schema graph vars (sym in_them i) inner) level)))
      (λ i q k l a b c. are i q k l ((λ j. slice_get (sym in_them j) i) ∙ a) b c) read)

  -- below an edge, by the lists of the nodes
  pub in_these : (list : ℕ → List ℕ) (braces : List QField) (inner : List Kept) (level : List ℕ) (lists : List (List ℕ)) (left : Left) → lists ≡ map list level → IsLeftBelow schema graph vars list braces inner level left → IsLeftIn schema graph vars braces inner lists left
  in_these list braces inner level lists left are known of read whole inside is =
      let both = known of read whole inside is in (told_in (planned_there schema graph vars braces inner) list level whole lists are both.0, both.1)

  -- what lists are known there
  pub knows_lists : (list : ℕ → List ℕ) (braces : List QField) (inner : List Kept) (level : List ℕ) (left : Left) → IsLeftBelow schema graph vars list braces inner level left → KnowsLists list left
  knows_lists list braces inner level left known of lists whole inside is = (known of lists whole inside is).2

  -- ---- fields one after another

  placed : (ls : List Left) (l x : Left) (j : ℕ) → slice_get (ls ++ l ∷ []) j ≡ Some x → (slice_get ls j ≡ Some x) ⊎ ((j ≡ length ls) × (l ≡ x))
  placed [] l x zero e = inr (refl, cc)
  placed [] l x (suc j) e = absurd (cc)
  placed (y ∷ ls) l x zero e = inl e
  placed (y ∷ ls) l x (suc j) e = by (placed ls l x j e)
    where
      by : (slice_get ls j ≡ Some x) ⊎ ((j ≡ length ls) × (l ≡ x)) → (slice_get ls j ≡ Some x) ⊎ ((suc j ≡ suc (length ls)) × (l ≡ x))
      by (inl a) = inl a
      by (inr b) = inr (ap suc b.0, b.1)

  some_same : {X : Type 0} (a b : X) → Some a ≡ Some b → a ≡ b
  some_same a b e = cc

  module _ (fields : List QField) (kept : List Kept) (i : ℕ) (field : QField) (part : Kept) (lt : i < length fields) (lk : i < length kept) (is : field ≡ get_or fields i field) (has_part : part ≡ get_or kept i part) where
    field_here : slice_get fields i ≡ Some field
    field_here = slice_get_read fields (length fields) i field refl lt is

    part_here : slice_get kept i ≡ Some part
    part_here = slice_get_read kept (length kept) i part refl lk has_part

    -- under one field more
    pub one_learned : (level : List ℕ) (left more : List Left) (l : Left) → length left ≡ i → more ≡ left ++ l ∷ [] → AreLeft schema graph vars fields kept level left → IsLeft schema graph vars field.item part.item level l → AreLeft schema graph vars fields kept level more
    one_learned level left more l many pushed are here j q k x a b c = by (placed left l x j ((λ i. slice_get (sym pushed i) j) ∙ c))
      where
        by : (slice_get left j ≡ Some x) ⊎ ((j ≡ length left) × (l ≡ x)) → IsLeft schema graph vars q.item k.item level x
        by (inl old) = are j q k x a b old
        by (inr new) =
            let at : i ≡ j = sym (new.0 ∙ many) in
            let one : field ≡ q = some_same field q (sym field_here ∙ (ap (slice_get fields) at ∙ a)) in
            let two : part ≡ k = some_same part k (sym part_here ∙ (ap (slice_get kept) at ∙ b)) in
            subst (λ (f : QField). IsLeft schema graph vars f.item k.item level x) one
            (subst (λ (p : Kept). IsLeft schema graph vars field.item p.item level x) two (subst (λ (y : Left). IsLeft schema graph vars field.item part.item level y) new.1 here))

    -- under the next field
    pub next_known : (level : List ℕ) (left : List Left) → AreLeft schema graph vars fields kept level left → IsLeft schema graph vars field.item part.item level (first_left (drop i left))
    next_known level left are = by left i (λ l h. are i field part l field_here part_here h)
      where
        by : (ls : List Left) (j : ℕ) → ((l : Left) → slice_get ls j ≡ Some l → IsLeft schema graph vars field.item part.item level l) → IsLeft schema graph vars field.item part.item level (first_left (drop j ls))
        by [] zero each = unknown field.item part.item level
        by [] (suc j) each = unknown field.item part.item level
        by (l ∷ ls) zero each = each l refl
        by (l ∷ ls) (suc j) each = by ls j each

-- what is known under the fields behind
pub known_behind : (i : ℕ) (left : List Left) → after_first (drop i left) ≡ drop (i + 1) left
known_behind i left = by i left ∙ (λ j. drop (e j) left)
  where
    e : suc i ≡ i + 1
    e = omega arith

    by : (i : ℕ) (left : List Left) → after_first (drop i left) ≡ drop (suc i) left
    by zero [] = refl
    by (suc i) [] = refl
    by zero (l ∷ left) = refl
    by (suc i) (l ∷ left) = by i left

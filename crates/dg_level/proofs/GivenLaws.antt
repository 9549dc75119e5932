-- What items make known over the nodes of a level, item by item.
use Rattle.std.proofs.Common.{◌≡◌, ℕ, zero, suc, ◌+◌, ◌<◌, ◌≤◌, true, false, ◌⊎◌, inl, inr, List, [], ◌∷◌, ◌++◌, map, fold, take, drop, length, get_or, refl, sym, ap, ◌∙◌, arith, true≢false}
use Rattle.std.specs.Prelude.{Option, Some, None, is_some, filter, filter_map, pos}
use Rattle.std.proofs.lemmas.List.{append-nil}
use Rattle.std.proofs.lemmas.List.Sums.{fold_more}
use Rattle.dg_values.specs.declared.value.Value.TheVariants as values
use Rattle.dg_schema.specs.declared.definition.PredDef.{PredDef}
use Rattle.dg_graph.specs.declared.change.Triple.{Triple}
use Rattle.dg_parse.specs.declared.query.AggOp.{AggOp}
use Rattle.dg_parse.specs.declared.query.QArg.{QArg}
use Rattle.dg_parse.specs.declared.query.QBlock.{QBlock}
use Rattle.dg_parse.specs.declared.query.QDir.{QDir}
use Rattle.dg_parse.specs.declared.query.QEdge.{QEdge}
use Rattle.dg_parse.specs.declared.query.QField.{QField}
use Rattle.dg_parse.specs.declared.query.QItem.{QItem, QItem-F, fold-roll-QItem}
use Rattle.dg_parse.specs.declared.query.QItem.TheFolds.{fold_out-QField}
use Rattle.dg_parse.specs.declared.query.QItem.TheVariants as items
use Rattle.dg_check.specs.declared.parts.Field.{Field as Kept}
use Rattle.dg_check.specs.declared.parts.Item.{Item}
use Rattle.dg_check.specs.declared.parts.Item.TheViews.{out-Item}
use Rattle.dg_check.specs.declared.parts.Parts.{Parts}
use Rattle.dg_check.specs.declared.vars.Variable.{Variable}
use Rattle.dg_funcs.specs.Truth.{count_along}
use Rattle.dg_level.specs.declared.sorts.Sort.{Sort}
use Rattle.dg_level.specs.declared.sorts.Sort.TheVariants as sorts
use Rattle.dg_level.specs.Given.{of_nodes, unknown, of_values, nodes_in_braces, level_below, Known}
use Rattle.dg_level.specs.PlannedGiven.{PlannedHas, PlannedGives, step_of_item, step_of_field, at_place, planned_given, planned_fields, planned_at_place}
use Rattle.dg_level.specs.Levels.{leads_to_nodes}
use Rattle.dg_level.specs.Defining.{given_item, item_gives, edge_gives}

-- ---- values that each node has

all_pass : {X Y : Type 0} (f : X → Y) (xs : List X) → xs ≡ filter (λ x. is_some (Some (f x))) xs
all_pass f [] = refl
all_pass f (x ∷ xs) = ap (λ ys. x ∷ ys) (all_pass f xs)

all_have : {X Y : Type 0} (f : X → Y) (xs : List X) → map f xs ≡ filter_map (λ x. Some (f x)) xs
all_have f [] = refl
all_have f (x ∷ xs) = ap (λ ys. f x ∷ ys) (all_have f xs)

-- nodes, each with its number
pub counted : (graph : List Triple) (e : QEdge) (nodes : List ℕ)
    → ◌≡◌ {A = Variable} (record { nodes = nodes; values = map (λ n. values.Int (pos (count_along graph e n))) nodes }) (of_values (λ n. Some (values.Int (pos (count_along graph e n)))) nodes)
counted graph e nodes =
    λ i. record {
      nodes = all_pass (λ n. values.Int (pos (count_along graph e n))) nodes i;
      values = all_have (λ n. values.Int (pos (count_along graph e n))) nodes i;
    }

-- ---- the nodes below an edge

pub none_under : (sort : Sort) (list : ℕ → List ℕ) (nodes : List ℕ) → leads_to_nodes sort ≡ false → [] ≡ nodes_in_braces sort list nodes
none_under sorts.Nothing list nodes e = refl
none_under sorts.Values list nodes e = refl
none_under sorts.Node list nodes e = absurd (true≢false e)
none_under sorts.Nodes list nodes e = absurd (true≢false e)

pub all_under : (sort : Sort) (list : ℕ → List ℕ) (nodes : List ℕ) → leads_to_nodes sort ≡ true → level_below list nodes ≡ nodes_in_braces sort list nodes
all_under sorts.Nothing list nodes e = absurd (true≢false (sym e))
all_under sorts.Values list nodes e = absurd (true≢false (sym e))
all_under sorts.Node list nodes e = refl
all_under sorts.Nodes list nodes e = refl

-- ---- blocks in their order

-- one block more
pub one_run : (schema : List PredDef) (graph : List Triple) (blocks : List QBlock) (kept : List Parts) (none : List Variable) (order : List ℕ) (i : ℕ) → i < length order → (before after : List Variable)
    → before ≡ fold (planned_at_place schema graph blocks kept) none (take i order) → after ≡ planned_at_place schema graph blocks kept before (get_or order i 0)
    → after ≡ fold (planned_at_place schema graph blocks kept) none (take (i + 1) order)
one_run schema graph blocks kept none order i lt before after so_far now =
    now
    ∙ ((λ j. planned_at_place schema graph blocks kept (so_far j) (get_or order i 0))
    ∙ sym (fold_more (planned_at_place schema graph blocks kept) none order i 0 lt))

module _ (schema : List PredDef) (graph : List Triple) (vars : List Variable) where
  -- ---- items, by their steps

  module _ (q : QItem) where
    given_uid : q ≡ items.Uid → given_item schema graph vars q ≡ step_of_item schema graph vars QItem-F.Uid
    given_uid is =
        ap (λ i. given_item schema graph vars i) (is ∙ sym items.rolls-Uid)
        ∙ fold-roll-QItem PlannedHas PlannedGives (step_of_item schema graph vars) step_of_field QItem-F.Uid

    given_count_uid : q ≡ items.CountUid → given_item schema graph vars q ≡ step_of_item schema graph vars QItem-F.CountUid
    given_count_uid is =
        ap (λ i. given_item schema graph vars i) (is ∙ sym items.rolls-CountUid)
        ∙ fold-roll-QItem PlannedHas PlannedGives (step_of_item schema graph vars) step_of_field QItem-F.CountUid

    given_count : (e : QEdge) → q ≡ items.Count e → given_item schema graph vars q ≡ step_of_item schema graph vars (QItem-F.Count e)
    given_count e is =
        ap (λ i. given_item schema graph vars i) (is ∙ sym (items.rolls-Count e))
        ∙ fold-roll-QItem PlannedHas PlannedGives (step_of_item schema graph vars) step_of_field (QItem-F.Count e)

    given_val : (x : List ℕ) → q ≡ items.Val x → given_item schema graph vars q ≡ step_of_item schema graph vars (QItem-F.Val x)
    given_val x is =
        ap (λ i. given_item schema graph vars i) (is ∙ sym (items.rolls-Val x))
        ∙ fold-roll-QItem PlannedHas PlannedGives (step_of_item schema graph vars) step_of_field (QItem-F.Val x)

    given_agg : (op : AggOp) (x : List ℕ) → q ≡ items.Agg op x → given_item schema graph vars q ≡ step_of_item schema graph vars (QItem-F.Agg op x)
    given_agg op x is =
        ap (λ i. given_item schema graph vars i) (is ∙ sym (items.rolls-Agg op x))
        ∙ fold-roll-QItem PlannedHas PlannedGives (step_of_item schema graph vars) step_of_field (QItem-F.Agg op x)

    given_edge : (e : QEdge) (args : List QArg) (dirs : List QDir) (braces : List QField) → q ≡ items.Edge e args dirs (Some braces)
        → given_item schema graph vars q ≡ step_of_item schema graph vars (QItem-F.Edge e args dirs (Some (map (planned_given schema graph vars) braces)))
    given_edge e args dirs braces is =
        ap (λ i. given_item schema graph vars i) (is ∙ sym (items.rolls-Edge e args dirs (Some braces)))
        ∙ fold-roll-QItem PlannedHas PlannedGives (step_of_item schema graph vars) step_of_field (QItem-F.Edge e args dirs (Some braces))

    given_bare : (e : QEdge) (args : List QArg) (dirs : List QDir) → q ≡ items.Edge e args dirs None → given_item schema graph vars q ≡ step_of_item schema graph vars (QItem-F.Edge e args dirs None)
    given_bare e args dirs is =
        ap (λ i. given_item schema graph vars i) (is ∙ sym (items.rolls-Edge e args dirs None))
        ∙ fold-roll-QItem PlannedHas PlannedGives (step_of_item schema graph vars) step_of_field (QItem-F.Edge e args dirs None)

    -- ---- what they make known

    module _ (var : Option ℕ) (k : Item) (nodes : List ℕ) where
      abbrev gives : PlannedHas → List Known
      gives p = at_place var (p.has k nodes) ++ p.inside k nodes

      -- the nodes themselves
      pub gives_nodes : q ≡ items.Uid → at_place var (of_nodes nodes) ≡ item_gives schema graph vars q var k nodes
      gives_nodes is = sym (ap gives (given_uid is) ∙ append-nil (at_place var (of_nodes nodes)))

      -- a number of each
      pub gives_counts : (e : QEdge) → q ≡ items.Count e → at_place var (of_values (λ n. Some (values.Int (pos (count_along graph e n)))) nodes) ≡ item_gives schema graph vars q var k nodes
      gives_counts e is = sym (ap gives (given_count e is) ∙ append-nil (at_place var (of_values (λ n. Some (values.Int (pos (count_along graph e n)))) nodes)))

      -- nothing
      pub gives_unknown : (q ≡ items.CountUid) ⊎ (((x : List ℕ) × (q ≡ items.Val x)) ⊎ ((op : AggOp) × (x : List ℕ) × (q ≡ items.Agg op x))) → at_place var unknown ≡ item_gives schema graph vars q var k nodes
      gives_unknown (inl is) = sym (ap gives (given_count_uid is) ∙ append-nil (at_place var unknown))
      gives_unknown (inr (inl a)) = sym (ap gives (given_val a.0 a.1) ∙ append-nil (at_place var unknown))
      gives_unknown (inr (inr a)) = sym (ap gives (given_agg a.0 a.1 a.2) ∙ append-nil (at_place var unknown))

      -- what an edge does
      pub gives_edge : (e : QEdge) (args : List QArg) (dirs : List QDir) (braces : List QField) → q ≡ items.Edge e args dirs (Some braces)
          → edge_gives schema graph vars e args braces var (out-Item k) nodes ≡ item_gives schema graph vars q var k nodes
      gives_edge e args dirs braces is = sym (ap gives (given_edge e args dirs braces is))

      pub gives_bare : (e : QEdge) (args : List QArg) (dirs : List QDir) → q ≡ items.Edge e args dirs None
          → edge_gives schema graph vars e args [] var (out-Item k) nodes ≡ item_gives schema graph vars q var k nodes
      gives_bare e args dirs is = sym (ap gives (given_bare e args dirs is))

  -- ---- fields

  -- a field makes known what its item does
  pub field_gives : (q : QField) (k : Kept) (nodes : List ℕ) → planned_given schema graph vars q k nodes ≡ item_gives schema graph vars q.item k.var k.item nodes
  field_gives q k nodes = ap (λ (g : PlannedGives). g k nodes) (fold_out-QField PlannedHas PlannedGives (step_of_item schema graph vars) step_of_field q)

  all_passed : {X : Type 0} (i : ℕ) (xs : List X) → length xs ≤ i → drop i xs ≡ []
  all_passed zero [] le = refl
  all_passed zero (x ∷ xs) le = absurd (omega (arith, le))
  all_passed (suc i) [] le = refl
  all_passed (suc i) (x ∷ xs) le = all_passed i xs (omega (arith, le))

  none_kept : (fields : List QField) (nodes : List ℕ) → planned_fields schema graph vars fields [] nodes ≡ []
  none_kept [] nodes = refl
  none_kept (q ∷ fields) nodes = refl

  next_given : (fields : List QField) (kept : List Kept) (i : ℕ) (q : QField) (k : Kept) → i < length fields → i < length kept → (nodes : List ℕ) → planned_fields schema graph vars (drop i fields) (drop i kept) nodes
      ≡ item_gives schema graph vars (get_or fields i q).item (get_or kept i k).var (get_or kept i k).item nodes ++ planned_fields schema graph vars (drop (suc i) fields) (drop (suc i) kept) nodes
  next_given [] kept i q k lt lk nodes = absurd (omega (arith, lt))
  next_given (f ∷ fields) [] i q k lt lk nodes = absurd (omega (arith, lk))
  next_given (f ∷ fields) (p ∷ kept) zero q k lt lk nodes = ap (λ known. known ++ planned_fields schema graph vars fields kept nodes) (field_gives f p nodes)
  next_given (f ∷ fields) (p ∷ kept) (suc i) q k lt lk nodes = next_given fields kept i q k (omega (arith, lt)) (omega (arith, lk)) nodes

  module _ (fields : List QField) (kept : List Kept) (i : ℕ) (nodes : List ℕ) where
    -- what one field more makes known
    pub one_more : (field : QField) (part : Kept) → i < length fields → i < length kept → field ≡ get_or fields i field → part ≡ get_or kept i part
        → planned_fields schema graph vars (drop i fields) (drop i kept) nodes ≡ item_gives schema graph vars field.item part.var part.item nodes ++ planned_fields schema graph vars (drop (i + 1) fields) (drop (i + 1) kept) nodes
    one_more field part lt lk is has =
        let e : suc i ≡ i + 1 = omega arith in
        next_given fields kept i field part lt lk nodes
        ∙ (λ j. item_gives schema graph vars (sym is j).item (sym has j).var (sym has j).item nodes ++ planned_fields schema graph vars (drop (e j) fields) (drop (e j) kept) nodes)

    -- where fields or what is kept of them end, nothing more is
    pub no_field : length fields ≤ i → planned_fields schema graph vars (drop i fields) (drop i kept) nodes ≡ []
    no_field past = λ j. planned_fields schema graph vars (all_passed i fields past j) (drop i kept) nodes

    pub no_kept : length kept ≤ i → planned_fields schema graph vars (drop i fields) (drop i kept) nodes ≡ []
    no_kept past = (λ j. planned_fields schema graph vars (drop i fields) (all_passed i kept past j) nodes) ∙ none_kept (drop i fields) nodes

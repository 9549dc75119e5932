-- The nodes that a cascade leaves.
use Rattle.std.proofs.Common.{◌≡◌, ℕ, zero, suc, ◌+◌, ◌<◌, ◌≤◌, Bool, true, false, cond, List, [], ◌∷◌, ◌++◌, map, flat_map, take, drop, length, get_or, append-nil, refl, sym, ap, ◌∙◌, arith, true≢false}
use Rattle.std.specs.Prelude.{◌&&◌, ◌||◌, Option, Some, None, is_some, option_to_list, filter}
use Rattle.std.specs.List.{list_any}
use Rattle.std.specs.Ordering.{nat_cmp, is_eq}
use Rattle.dg_values.specs.Ascending.{ascending, has}
use Rattle.dg_values.specs.declared.kind.Kind.{Kind}
use Rattle.dg_values.specs.declared.kind.Kind.TheVariants as kinds
use Rattle.dg_values.specs.declared.value.Posting.{Posting}
use Rattle.std.proofs.lemmas.List.{take_more}
use Rattle.dg_sets.proofs.MadeOrders.{nat_order}
use Rattle.dg_sets.proofs.Sets.{is_itself, has_joined, has_passed}
use Rattle.dg_schema.specs.declared.definition.PredDef.{PredDef}
use Rattle.dg_schema.specs.Definitions.{definition_of}
use Rattle.dg_graph.specs.declared.change.Triple.{Triple}
use Rattle.dg_graph.specs.Graphs.{objects}
use Rattle.dg_parse.specs.declared.query.QArg.{QArg}
use Rattle.dg_parse.specs.declared.query.QEdge.{QEdge}
use Rattle.dg_parse.specs.declared.query.QField.{QField}
use Rattle.dg_check.specs.declared.parts.Field.{Field as Kept}
use Rattle.dg_check.specs.declared.parts.Filter.{Filter}
use Rattle.dg_check.specs.declared.parts.Item.{Item, Item-F}
use Rattle.dg_check.specs.declared.parts.Item.TheVariants as kept
use Rattle.dg_check.specs.declared.parts.Item.TheViews.{out-Item}
use Rattle.dg_check.specs.declared.parts.OrderKey.{OrderKey}
use Rattle.dg_check.specs.declared.vars.Variable.{Variable}
use Rattle.dg_funcs.proofs.PassLaws.{or_true, and_true, filter_same, filter_twice, filter_true}
use Rattle.dg_tree.specs.declared.tree.Tree.{Tree}
use Rattle.dg_level.specs.declared.sorts.Sort.{Sort}
use Rattle.dg_level.specs.declared.sorts.Sort.TheVariants as sorts
use Rattle.dg_level.specs.Answers.{shown}
use Rattle.dg_level.specs.Shown.{sort_of_kind, sort_of, remaining, some_trees, edge_there}
use Rattle.dg_level.specs.Planned.{is_single, planned_there}
use Rattle.dg_level.specs.Levels.{planned_item, list_of, leads_to_nodes, kept_there}
use Rattle.dg_level.proofs.ListLaws.{ascending_has, map_itself, narrow}
use Rattle.dg_level.proofs.PlannedLaws.{field_there}

-- ---- tests over lists

or_left : (a b : Bool) → a ≡ true → (a || b) ≡ true
or_left true b e = refl
or_left false b e = absurd (true≢false (sym e))

-- where two tests agree on each element
any_same : (p q : ℕ → Bool) (xs : List ℕ) → ((u : ℕ) → has nat_cmp xs u ≡ true → p u ≡ q u) → list_any p xs ≡ list_any q xs
any_same p q [] e = refl
any_same p q (x ∷ xs) e =
    let here : p x ≡ q x = e x (λ i. is_itself nat_cmp nat_order x i || has nat_cmp xs x) in
    let rest : list_any p xs ≡ list_any q xs = any_same p q xs (λ u h. e u (or_true (is_eq (nat_cmp x u)) (has nat_cmp xs u) h)) in
    λ i. here i || rest i

-- where they agree on each node whose list is in the level below
filter_each : (p q : ℕ → Bool) (list : ℕ → List ℕ) (level nodes : List ℕ) → ((n : ℕ) → ((u : ℕ) → has nat_cmp (list n) u ≡ true → has nat_cmp level u ≡ true) → p n ≡ q n)
    → ((u : ℕ) → has nat_cmp (flat_map list nodes) u ≡ true → has nat_cmp level u ≡ true) → filter p nodes ≡ filter q nodes
filter_each p q list level [] same sub = refl
filter_each p q list level (n ∷ nodes) same sub =
    let first : p n ≡ q n = same n (λ u h. sub u (has_joined nat_cmp nat_order (list n) (flat_map list nodes) u ∙ or_left (has nat_cmp (list n) u) (has nat_cmp (flat_map list nodes) u) h)) in
    let rest : filter p nodes ≡ filter q nodes =
    filter_each p q list level nodes same (λ u h. sub u (has_joined nat_cmp nat_order (list n) (flat_map list nodes) u ∙ or_true (has nat_cmp (list n) u) (has nat_cmp (flat_map list nodes) u) h)) in
    λ j. cond (first j) (n ∷ rest j) (rest j)

-- of nodes of a level those are left that pass
seen : (p : ℕ → Bool) (level cs : List ℕ) → ((u : ℕ) → has nat_cmp cs u ≡ true → has nat_cmp level u ≡ true) → (u : ℕ) → has nat_cmp cs u ≡ true → has nat_cmp (filter p level) u ≡ p u
seen p level cs sub u h = has_passed nat_cmp nat_order p level u ∙ ((λ i. p u && sub u h i) ∙ and_true (p u))

filter_false : (xs : List ℕ) → filter (λ n. false) xs ≡ []
filter_false [] = refl
filter_false (x ∷ xs) = filter_false xs

-- where no node passes none is left, and where each does all are
pub none_pass : (p : ℕ → Bool) → ((n : ℕ) → p n ≡ false) → (nodes : List ℕ) → [] ≡ filter p nodes
none_pass p e nodes = sym ((λ i. filter (λ n. e n i) nodes) ∙ filter_false nodes)

pub all_pass : (p : ℕ → Bool) → ((n : ℕ) → p n ≡ true) → (nodes : List ℕ) → nodes ≡ filter p nodes
all_pass p e nodes = sym ((λ i. filter (λ n. e n i) nodes) ∙ filter_true nodes)

-- there are trees where there is one
pub some_there : (tree : Option Tree) → is_some tree ≡ some_trees (option_to_list tree)
some_there None = refl
some_there (Some tree) = refl

-- a node stands behind others where it passes, and doesn't where it doesn't
pub noted : (p : ℕ → Bool) (found : List ℕ) (node : ℕ) → true ≡ p node → found ++ node ∷ [] ≡ found ++ filter p (node ∷ [])
noted p found node e = λ i. found ++ cond (e i) (node ∷ []) []

pub not_noted : (p : ℕ → Bool) (found : List ℕ) (node : ℕ) → false ≡ p node → found ≡ found ++ filter p (node ∷ [])
not_noted p found node e = sym (append-nil found) ∙ (λ i. found ++ cond (e i) (node ∷ []) [])

-- one node more, where it passes or doesn't
pub one_noted : (p : ℕ → Bool) (xs : List ℕ) (i : ℕ) (found more : List ℕ) → i < length xs → found ≡ filter p (take i xs) → more ≡ found ++ filter p (get_or xs i 0 ∷ []) → more ≡ filter p (take (i + 1) xs)
one_noted p xs i found more lt so_far made =
    made ∙ ((λ j. so_far j ++ filter p (get_or xs i 0 ∷ [])) ∙ (sym (passed_both (take i xs) (get_or xs i 0 ∷ [])) ∙ ap (filter p) (sym (take_more xs i 0 lt))))
  where
    passed_both : (xs bs : List ℕ) → filter p (xs ++ bs) ≡ filter p xs ++ filter p bs
    passed_both [] bs = refl
    passed_both (a ∷ xs) bs = by (p a) (passed_both xs bs)
      where
        by : (b : Bool) → filter p (xs ++ bs) ≡ filter p xs ++ filter p bs → cond b (a ∷ filter p (xs ++ bs)) (filter p (xs ++ bs)) ≡ cond b (a ∷ filter p xs) (filter p xs) ++ filter p bs
        by true e = ap (λ l. a ∷ l) e
        by false e = e

-- ---- what remains

module _ (p : ℕ → Bool) (level whole : List ℕ) (made : whole ≡ filter p level) where
  -- a node leads to one that is whole where one of its list is
  led : (list : ℕ → List ℕ) (nodes : List ℕ) → level ≡ ascending nat_cmp (flat_map list nodes) → filter (λ n. list_any (has nat_cmp whole) (list n)) nodes ≡ filter (λ n. list_any p (list n)) nodes
  led list nodes is =
      (λ i. filter (λ n. list_any (has nat_cmp (made i)) (list n)) nodes)
      ∙ filter_each (λ n. list_any (has nat_cmp (filter p level)) (list n)) (λ n. list_any p (list n)) list level nodes
      (λ n sub. any_same (has nat_cmp (filter p level)) p (list n) (seen p level (list n) sub))
      (λ u h. ap (λ l. has nat_cmp l u) is ∙ (ascending_has (flat_map list nodes) u ∙ h))

  -- the nodes of a list
  pub list_left : (nodes : List ℕ) → level ≡ ascending nat_cmp nodes → filter (has nat_cmp whole) nodes ≡ filter p nodes
  list_left nodes is =
      (λ i. filter (has nat_cmp (made i)) nodes)
      ∙ filter_same (has nat_cmp (filter p level)) p nodes (seen p level nodes (λ u h. ap (λ l. has nat_cmp l u) is ∙ (ascending_has nodes u ∙ h)))

  -- and of lists
  pub lists_left : (lists : List (List ℕ)) → level ≡ ascending nat_cmp (flat_map (λ l. l) lists) → map (filter (has nat_cmp whole)) lists ≡ map (filter p) lists
  lists_left lists is = (λ i. map (filter (has nat_cmp ((made ∙ ap (filter p) is) i))) lists) ∙ narrow p lists

-- where nothing is dropped all are left
pub none_dropped : (p : ℕ → Bool) (lists : List (List ℕ)) → lists ≡ map (remaining false p) lists
none_dropped p lists = sym (map_itself (λ l. l) (λ l. refl) lists)

-- ---- edges

nodes_there : (sort : Sort) (values : List Tree) (whole : ℕ → Bool) (list : List ℕ) → leads_to_nodes sort ≡ true → edge_there sort values whole list ≡ list_any whole list
nodes_there sorts.Nothing values whole list e = absurd (true≢false (sym e))
nodes_there sorts.Values values whole list e = absurd (true≢false (sym e))
nodes_there sorts.Node values whole list e = refl
nodes_there sorts.Nodes values whole list e = refl

values_of_kind : (kind : Kind) (several : Bool) (values : List Tree) (whole : ℕ → Bool) (list : List ℕ) → leads_to_nodes (sort_of_kind kind several) ≡ false → edge_there (sort_of_kind kind several) values whole list ≡ some_trees values
values_of_kind kinds.Uid true values whole list e = absurd (true≢false e)
values_of_kind kinds.Uid false values whole list e = absurd (true≢false e)
values_of_kind kinds.Int several values whole list e = refl
values_of_kind kinds.Text several values whole list e = refl
values_of_kind kinds.Default several values whole list e = refl
values_of_kind kinds.Bool several values whole list e = refl
values_of_kind kinds.Time several values whole list e = refl

values_there : (d : Option PredDef) (back : Bool) (os : List Posting) (whole : ℕ → Bool) (list : List ℕ) → leads_to_nodes (sort_of d back) ≡ false → edge_there (sort_of d back) (shown d os) whole list ≡ some_trees (shown d os)
values_there None back os whole list e = refl
values_there (Some d) true os whole list e = absurd (true≢false e)
values_there (Some d) false os whole list e = values_of_kind d.kind d.list (shown (Some d) os) whole list e

module _ (schema : List PredDef) (graph : List Triple) (vars : List Variable) where
  module _ (e : QEdge) (args : List QArg) (braces : List QField) (k : Item) where
    module _ (orders : List OrderKey) (filters : List Filter) (inner : List Kept) (is : k ≡ kept.Edge orders filters inner) where
      abbrev list_here : ℕ → List ℕ
      list_here = list_of graph vars e args orders filters (is_single (sort_of (definition_of schema e.pred) e.back))

      as_kept : (nodes : List ℕ) → filter (kept_there schema graph vars e args braces (out-Item k)) nodes ≡ filter (kept_there schema graph vars e args braces (Item-F.Edge orders filters inner)) nodes
      as_kept nodes = λ i. filter (kept_there schema graph vars e args braces ((ap out-Item is ∙ kept.outs-Edge orders filters inner) i)) nodes

      -- an edge to values is missing where there is none
      pub values_left : leads_to_nodes (sort_of (definition_of schema e.pred) e.back) ≡ false → (nodes : List ℕ)
          → filter (λ n. some_trees (shown (definition_of schema e.pred) (objects graph e.pred n))) nodes ≡ filter (kept_there schema graph vars e args braces (out-Item k)) nodes
      values_left none nodes =
          sym (as_kept nodes ∙ (λ i. filter (λ n. values_there (definition_of schema e.pred) e.back (objects graph e.pred n) (planned_there schema graph vars braces inner) (list_here n) none i) nodes))

      -- one to nodes where none of its list is whole
      pub nodes_left : leads_to_nodes (sort_of (definition_of schema e.pred) e.back) ≡ true → (nodes level whole : List ℕ) → level ≡ ascending nat_cmp (flat_map list_here nodes)
          → whole ≡ filter (planned_there schema graph vars braces inner) level → filter (λ n. list_any (has nat_cmp whole) (list_here n)) nodes ≡ filter (kept_there schema graph vars e args braces (out-Item k)) nodes
      nodes_left some nodes level whole is made =
          led (planned_there schema graph vars braces inner) level whole made list_here nodes is
          ∙ sym (as_kept nodes
          ∙ (λ i. filter (λ n. nodes_there (sort_of (definition_of schema e.pred) e.back) (shown (definition_of schema e.pred) (objects graph e.pred n)) (planned_there schema graph vars braces inner) (list_here n) some i) nodes))

  -- ---- fields

  all_passed : {X : Type 0} (i : ℕ) (xs : List X) → length xs ≤ i → drop i xs ≡ []
  all_passed zero [] le = refl
  all_passed zero (x ∷ xs) le = absurd (omega (arith, le))
  all_passed (suc i) [] le = refl
  all_passed (suc i) (x ∷ xs) le = all_passed i xs (omega (arith, le))

  none_kept : (fields : List QField) (n : ℕ) → planned_there schema graph vars fields [] n ≡ true
  none_kept [] n = refl
  none_kept (q ∷ fields) n = refl

  next_there : (fields : List QField) (kept : List Kept) (i : ℕ) (q : QField) (k : Kept) → i < length fields → i < length kept → (n : ℕ) → planned_there schema graph vars (drop i fields) (drop i kept) n
      ≡ ((planned_item schema graph vars (get_or fields i q).item).there (get_or kept i k).item n && planned_there schema graph vars (drop (suc i) fields) (drop (suc i) kept) n)
  next_there [] kept i q k lt lk n = absurd (omega (arith, lt))
  next_there (f ∷ fields) [] i q k lt lk n = absurd (omega (arith, lk))
  next_there (f ∷ fields) (p ∷ kept) zero q k lt lk n = ap (λ b. b && planned_there schema graph vars fields kept n) (field_there schema graph vars f p n)
  next_there (f ∷ fields) (p ∷ kept) (suc i) q k lt lk n = next_there fields kept i q k (omega (arith, lt)) (omega (arith, lk)) n

  module _ (fields : List QField) (kept : List Kept) (i : ℕ) (left : List ℕ) where
    -- what one field more leaves
    pub one_more : (field : QField) (part : Kept) → i < length fields → i < length kept → field ≡ get_or fields i field → part ≡ get_or kept i part → (now : List ℕ)
        → now ≡ filter ((planned_item schema graph vars field.item).there part.item) left
        → filter (planned_there schema graph vars (drop i fields) (drop i kept)) left ≡ filter (planned_there schema graph vars (drop (i + 1) fields) (drop (i + 1) kept)) now
    one_more field part lt lk is has now made =
        let e : suc i ≡ i + 1 = omega arith in
        let this = (planned_item schema graph vars field.item).there part.item in
        let rest = planned_there schema graph vars (drop (suc i) fields) (drop (suc i) kept) in
        (λ j. filter (λ n. next_there fields kept i field part lt lk n j) left)
        ∙ ((λ j. filter (λ n. (planned_item schema graph vars (sym is j).item).there (sym has j).item n && rest n) left)
        ∙ (sym (filter_twice rest this left)
        ∙ (ap (filter rest) (sym made) ∙ (λ j. filter (planned_there schema graph vars (drop (e j) fields) (drop (e j) kept)) now))))

    -- where fields or what is kept of them end, these are left
    pub no_field : length fields ≤ i → filter (planned_there schema graph vars (drop i fields) (drop i kept)) left ≡ left
    no_field past = (λ j. filter (planned_there schema graph vars (all_passed i fields past j) (drop i kept)) left) ∙ filter_true left

    pub no_kept : length kept ≤ i → filter (planned_there schema graph vars (drop i fields) (drop i kept)) left ≡ left
    no_kept past = (λ j. filter (planned_there schema graph vars (drop i fields) (all_passed i kept past j)) left) ∙ ((λ j. filter (λ n. none_kept (drop i fields) n j) left) ∙ filter_true left)

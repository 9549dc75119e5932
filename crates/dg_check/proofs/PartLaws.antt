-- How what was read is taken apart along the tree of a query, and that all variables that are read are defined.
use Rattle.std.proofs.Common.{◌≡◌, ℕ, ◌+◌, ◌<◌, length, take, drop, get_or, arith, Bool, true, false, cond, List, [], ◌∷◌, ◌++◌, refl, sym, ap, ◌∙◌, subst}
use Rattle.std.specs.Prelude.{Option, Some, None, ◌||◌, if◌then◌else◌, IfOk, map, flat_map, filter, filter_map, find, option_map, option_to_list, slice_get, Result, Ok}
use Rattle.std.specs.Option.{option_or}
use Rattle.std.specs.List.{list_all, position_or_len}
use Rattle.std.proofs.lemmas.Grind.{common_steps}
use Rattle.std.proofs.lemmas.List.Concat.{flat_map-append}
use Rattle.std.proofs.lemmas.List.Elements.{filter_map-append}
use Rattle.std.proofs.lemmas.List.Folds.{list_all-append, find_at}
use Rattle.dg_values.specs.declared.memory.OutOfMemory.{OutOfMemory}
use Rattle.dg_values.specs.Order.{text_cmp, same_text}
use Rattle.dg_schema.specs.declared.definition.PredDef.{PredDef}
use Rattle.dg_sets.proofs.MadeOrders.{text_order}
use Rattle.dg_sets.proofs.Sets.{is_one, is_itself}
use Rattle.dg_parse.specs.declared.query.AggOp.{AggOp}
use Rattle.dg_parse.specs.declared.query.QArg.{QArg}
use Rattle.dg_parse.specs.declared.query.QBlock.{QBlock}
use Rattle.dg_parse.specs.declared.query.QDir.{QDir}
use Rattle.dg_parse.specs.declared.query.QEdge.{QEdge}
use Rattle.dg_parse.specs.declared.query.QField.{QField}
use Rattle.dg_parse.specs.declared.query.QFilter.{QFilter}
use Rattle.dg_parse.specs.declared.query.QFunc.{QFunc}
use Rattle.dg_parse.specs.declared.query.QItem.{QItem-F, fold-roll-QItem}
use Rattle.dg_parse.specs.declared.query.QItem.TheFolds.{fold_out-QField}
use Rattle.dg_parse.specs.declared.query.QItem.TheVariants as items
use Rattle.dg_parse.specs.declared.query.QPart.{QPart-F, fold-roll-QPart}
use Rattle.dg_parse.specs.declared.query.QPart.TheFolds.{fold_out-QFilter}
use Rattle.dg_parse.specs.declared.query.QPart.TheVariants as said
use Rattle.dg_check.specs.declared.fault.CheckFault.{CheckFault}
use Rattle.dg_check.specs.declared.fault.CheckFault.TheVariants as faults
use Rattle.dg_check.specs.declared.parts.Field.{Field}
use Rattle.dg_check.specs.declared.parts.Filter.{Filter}
use Rattle.dg_check.specs.declared.parts.OrderKey.{OrderKey}
use Rattle.dg_check.specs.declared.parts.Parts.{Parts}
use Rattle.dg_check.specs.declared.plan.Read.{Read}
use Rattle.dg_check.specs.declared.plan.Read.TheVariants as reads
use Rattle.dg_check.specs.Names.{is_name_in}
use Rattle.dg_check.specs.Places.{Place, defined, root, tested, arguments, recursion, edge, shown, aggregated, Walked, step_of_part, step_of_filter, step_of_item, step_of_field, places_of_filter, places_of_dir, place_of_var, source_of_item, walked_item, places_of_field}
use Rattle.dg_check.specs.Variables.{Definition, definitions_in, has_values, names_for, Use, of_values, uses_in, uses_of_func, uses_of_arg}
use Rattle.dg_check.specs.Faults.{first_of, unknown, among_two, first_again, twice}
use Rattle.dg_check.specs.Plans.{Asked, of_func, of_args, of_name, asked_at, asked_in, key_of, keys_of, AreReadOf}
use Rattle.dg_check.specs.Parts.{AreKnown, IsFuncOf, AreKeysOf, IsPlaceOf, IsFilterOf, AreFiltersOf, no_filter, more_filters, filters_at, filters_in, IsFieldOf, AreFieldsOf, no_field, more_fields, IsBlockOf, AreBlocksOf, Takes, orders_in, val_in, func_first, orders_first, val_first, asked_of_var, asked_of_filter, asked_of_part, asked_of_dir, asked_of_item, asked_of_field}
use Rattle.dg_check.proofs.OrderLaws.{left_part, right_of, both_of}
use Rattle.dg_check.proofs.ReachLaws.{or_left, or_right}
use Rattle.dg_check.proofs.PlaceLaws.{places_or, places_and, places_edge}

-- ---- lists

pub flat_flat : {A B C : Type 0} (f : B → List C) (g : A → List B) (xs : List A) → flat_map f (flat_map g xs) ≡ flat_map (λ x. flat_map f (g x)) xs
flat_flat f g [] = refl
flat_flat f g (x ∷ xs) = flat_map-append f (g x) (flat_map g xs) ∙ ap (λ l. flat_map f (g x) ++ l) (flat_flat f g xs)

behind_it : {X : Type 0} (xs : List X) (i : ℕ) (x : X) → i < length xs → drop i xs ≡ get_or xs i x ∷ drop (i + 1) xs
behind_it xs i x lt = grind (arith, common_steps)

taken : {X : Type 0} (xs : List X) (i : ℕ) (x : X) → i < length xs → take (i + 1) xs ≡ take i xs ++ get_or xs i x ∷ []
taken xs i x lt = grind (arith, common_steps)

none_behind : {X : Type 0} (xs : List X) → xs ++ [] ≡ xs
none_behind [] = refl
none_behind (x ∷ xs) = ap (λ l. x ∷ l) (none_behind xs)

-- an order key more, if an argument is one
pub keys_more : (ds : List Definition) (args : List QArg) (i : ℕ) (arg : QArg) (before after : List OrderKey) → i < length args → before ≡ keys_of ds (take i args) → after ≡ before ++ option_to_list (key_of ds (get_or args i arg)) → after ≡ keys_of ds (take (i + 1) args)
keys_more ds args i arg before after lt e f =
    f ∙ (ap (λ l. l ++ option_to_list (key_of ds (get_or args i arg))) e
    ∙ (ap (λ l. keys_of ds (take i args) ++ l) (sym (by (key_of ds (get_or args i arg))))
    ∙ (sym (filter_map-append (key_of ds) (take i args) (get_or args i arg ∷ [])) ∙ ap (keys_of ds) (sym (taken args i arg lt)))))
  where
    by : (o : Option OrderKey) → filter_map (λ (p : Option OrderKey). p) (o ∷ []) ≡ option_to_list o
    by None = refl
    by (Some key) = refl

pub at_ok : {X E : Type 0} (r : Result X E) (x : X) (P : X → Type 0) → r ≡ Ok x → IfOk r P → P x
at_ok {X = X} {E = E} r x P e h = subst (λ (o : Result X E). IfOk o P) e h

-- ---- variables that are defined

pub known_front : (ds : List Definition) (us vs : List Use) → AreKnown ds (us ++ vs) → AreKnown ds us
known_front ds us vs e = left_part (list_all (λ u. is_name_in (names_for false ds) u.name) us) (list_all (λ u. is_name_in (names_for false ds) u.name) vs) (sym (list_all-append (λ u. is_name_in (names_for false ds) u.name) us vs) ∙ e)

known_back : (ds : List Definition) (us vs : List Use) → AreKnown ds (us ++ vs) → AreKnown ds vs
known_back ds us vs e = right_of (list_all (λ u. is_name_in (names_for false ds) u.name) us) (list_all (λ u. is_name_in (names_for false ds) u.name) vs) (sym (list_all-append (λ u. is_name_in (names_for false ds) u.name) us vs) ∙ e)

pub first_none : (a b : Option CheckFault) → option_or a b ≡ None → a ≡ None
first_none None b e = refl
first_none (Some fault) b e = absurd (cc)

pub last_none : (a b : Option CheckFault) → option_or a b ≡ None → b ≡ None
last_none None b e = e
last_none (Some fault) b e = absurd (cc)

-- a variable that has values is one of all
valued_in : (ds : List Definition) (x : List ℕ) → is_name_in (names_for true ds) x ≡ true → is_name_in (names_for false ds) x ≡ true
valued_in [] x e = e
valued_in (d ∷ ds) x e = by (has_values d.content) e (valued_in ds x)
  where
    by : (v : Bool) → is_name_in (map (λ o. o.name) (cond v (d ∷ filter (λ o. has_values o.content) ds) (filter (λ o. has_values o.content) ds))) x ≡ true → (is_name_in (names_for true ds) x ≡ true → is_name_in (names_for false ds) x ≡ true)
        → (same_text x d.name || is_name_in (names_for false ds) x) ≡ true
    by true f rest = at_once (same_text x d.name) f
      where
        at_once : (w : Bool) → (w || is_name_in (names_for true ds) x) ≡ true → (w || is_name_in (names_for false ds) x) ≡ true
        at_once true g = refl
        at_once false g = rest g
    by false f rest = or_right (same_text x d.name) (is_name_in (names_for false ds) x) (rest f)

known_one : (ds : List Definition) (u : Use) → unknown ds u ≡ None → is_name_in (names_for false ds) u.name ≡ true
known_one ds u e = by u.values (is_name_in (among_two (names_for true ds) (names_for false ds) u.values) u.name) refl e
  where
    wide : (values : Bool) → is_name_in (among_two (names_for true ds) (names_for false ds) values) u.name ≡ true → is_name_in (names_for false ds) u.name ≡ true
    wide true f = valued_in ds u.name f
    wide false f = f

    by : (values v : Bool) → is_name_in (among_two (names_for true ds) (names_for false ds) values) u.name ≡ v → (if v then None else Some (faults.UnknownVariable u.name)) ≡ None → is_name_in (names_for false ds) u.name ≡ true
    by values true f g = wide values f
    by values false f g = absurd (cc)

-- where no use is unknown, all are of variables that are defined
pub none_unknown : (ds : List Definition) (uses : List Use) → first_of (unknown ds) uses ≡ None → AreKnown ds uses
none_unknown ds [] e = refl
none_unknown ds (u ∷ uses) e = both_of (is_name_in (names_for false ds) u.name) (list_all (λ o. is_name_in (names_for false ds) o.name) uses) (known_one ds u (first_none (unknown ds u) (first_of (unknown ds) uses) e)) (none_unknown ds uses (last_none (unknown ds u) (first_of (unknown ds) uses) e))

pub none_again : (ds : List Definition) → twice ds ≡ None → first_again [] (names_for false ds) ≡ None
none_again ds e = by (first_again [] (names_for false ds)) e
  where
    by : (o : Option (List ℕ)) → option_map faults.VariableTwice o ≡ None → o ≡ None
    by None f = refl
    by (Some x) f = absurd (cc)

-- the names don't depend on the schema
pub names_alike : (schema : List PredDef) (places : List Place) → names_for false (definitions_in schema places) ≡ names_for false (definitions_in [] places)
names_alike schema [] = refl
names_alike schema (defined x source ∷ places) = ap (λ l. x ∷ l) (names_alike schema places)
names_alike schema (root f ∷ places) = names_alike schema places
names_alike schema (tested f ∷ places) = names_alike schema places
names_alike schema (arguments args ∷ places) = names_alike schema places
names_alike schema (recursion options ∷ places) = names_alike schema places
names_alike schema (edge e ∷ places) = names_alike schema places
names_alike schema (shown x ∷ places) = names_alike schema places
names_alike schema (aggregated op x ∷ places) = names_alike schema places

found_itself : (names : List (List ℕ)) (x : List ℕ) → is_name_in names x ≡ true → find (same_text x) names ≡ Some x
found_itself [] x e = absurd (cc)
found_itself (y ∷ names) x e = by (same_text x y) refl e (found_itself names x)
  where
    by : (v : Bool) → same_text x y ≡ v → (v || is_name_in names x) ≡ true → (is_name_in names x ≡ true → find (same_text x) names ≡ Some x) → cond v (Some y) (find (same_text x) names) ≡ Some x
    by true f g rest = ap Some (sym (is_one text_cmp text_order x y f))
    by false f g rest = rest g

-- the first place of a name has that name
pub named_at : (names : List (List ℕ)) (x : List ℕ) → is_name_in names x ≡ true → slice_get names (position_or_len (same_text x) names) ≡ Some x
named_at names x e = sym (find_at (same_text x) names) ∙ found_itself names x e

-- ---- what was read, of variables that are defined

pub all_known : (schema : List PredDef) (ds : List Definition) (places : List Place) (read : List Read) → ((x : List ℕ) → is_name_in (names_for false (definitions_in schema places)) x ≡ true → is_name_in (names_for false ds) x ≡ true) → AreReadOf schema ds (asked_in places) read → AreKnown ds (uses_in places) → Takes schema ds (asked_in places) read []
all_known schema ds [] [] here are known = refl
all_known schema ds [] (r ∷ rs) here are known = absurd are
all_known schema ds (defined x source ∷ places) [] here are known = absurd are
all_known schema ds (defined x source ∷ places) (r ∷ rs) here are known = (
  are.0,
  both_of (is_name_in (names_for false ds) x) true (here x (or_left (same_text x x) (is_name_in (names_for false (definitions_in schema places)) x) (is_itself text_cmp text_order x))) refl,
  all_known schema ds places rs (λ y e. here y (or_right (same_text y x) (is_name_in (names_for false (definitions_in schema places)) y) e)) are.1 known,
)
all_known schema ds (root f ∷ places) [] here are known = absurd are
all_known schema ds (root f ∷ places) (r ∷ rs) here are known = (are.0, known_front ds (uses_of_func f) (uses_in places) known, all_known schema ds places rs here are.1 (known_back ds (uses_of_func f) (uses_in places) known))
all_known schema ds (tested f ∷ places) [] here are known = absurd are
all_known schema ds (tested f ∷ places) (r ∷ rs) here are known = (are.0, known_front ds (uses_of_func f) (uses_in places) known, all_known schema ds places rs here are.1 (known_back ds (uses_of_func f) (uses_in places) known))
all_known schema ds (arguments args ∷ places) [] here are known = absurd are
all_known schema ds (arguments args ∷ places) (r ∷ rs) here are known = (are.0, known_front ds (flat_map uses_of_arg args) (uses_in places) known, all_known schema ds places rs here are.1 (known_back ds (flat_map uses_of_arg args) (uses_in places) known))
all_known schema ds (recursion options ∷ places) read here are known = all_known schema ds places read here are known
all_known schema ds (edge e ∷ places) read here are known = all_known schema ds places read here are known
all_known schema ds (shown x ∷ places) [] here are known = absurd are
all_known schema ds (shown x ∷ places) (r ∷ rs) here are known = (are.0, known_front ds (of_values x ∷ []) (uses_in places) known, all_known schema ds places rs here are.1 (known_back ds (of_values x ∷ []) (uses_in places) known))
all_known schema ds (aggregated op x ∷ places) [] here are known = absurd are
all_known schema ds (aggregated op x ∷ places) (r ∷ rs) here are known = (are.0, known_front ds (of_values x ∷ []) (uses_in places) known, all_known schema ds places rs here are.1 (known_back ds (of_values x ∷ []) (uses_in places) known))

-- ---- what is read of the parts of a tree

pub asked_or : (fs : List QFilter) → asked_of_part (said.Or fs) ≡ flat_map asked_of_filter fs
asked_or fs = ap asked_in (places_or fs) ∙ flat_flat asked_at places_of_filter fs

pub asked_and : (fs : List QFilter) → asked_of_part (said.And fs) ≡ flat_map asked_of_filter fs
asked_and fs = ap asked_in (places_and fs) ∙ flat_flat asked_at places_of_filter fs

pub asked_func : (q : QFunc) → asked_of_part (said.Func q) ≡ of_func q ∷ []
asked_func q = ap asked_of_part (sym (said.rolls-Func q)) ∙ ap asked_in (fold-roll-QPart (List Place) (List Place) step_of_part step_of_filter (QPart-F.Func q))

pub asked_uid : asked_of_item items.Uid ≡ []
asked_uid = ap asked_of_item (sym items.rolls-Uid) ∙ ap (λ w. asked_in w.places) (fold-roll-QItem Walked (List Place) step_of_item step_of_field QItem-F.Uid)

pub asked_count_uid : asked_of_item items.CountUid ≡ []
asked_count_uid = ap asked_of_item (sym items.rolls-CountUid) ∙ ap (λ w. asked_in w.places) (fold-roll-QItem Walked (List Place) step_of_item step_of_field QItem-F.CountUid)

pub asked_count : (e : QEdge) → asked_of_item (items.Count e) ≡ []
asked_count e = ap asked_of_item (sym (items.rolls-Count e)) ∙ ap (λ w. asked_in w.places) (fold-roll-QItem Walked (List Place) step_of_item step_of_field (QItem-F.Count e))

pub asked_val : (x : List ℕ) → asked_of_item (items.Val x) ≡ of_name x ∷ []
asked_val x = ap asked_of_item (sym (items.rolls-Val x)) ∙ ap (λ w. asked_in w.places) (fold-roll-QItem Walked (List Place) step_of_item step_of_field (QItem-F.Val x))

pub asked_agg : (op : AggOp) (x : List ℕ) → asked_of_item (items.Agg op x) ≡ of_name x ∷ []
asked_agg op x = ap asked_of_item (sym (items.rolls-Agg op x)) ∙ ap (λ w. asked_in w.places) (fold-roll-QItem Walked (List Place) step_of_item step_of_field (QItem-F.Agg op x))

-- of a list of nodes: its order keys, its filters and its fields
pub listed_parts : (args : List QArg) (list : List QDir) (fields : List QField) → asked_in (arguments args ∷ (flat_map places_of_dir list ++ flat_map places_of_field fields)) ≡ of_args args ∷ (flat_map asked_of_dir list ++ flat_map asked_of_field fields)
listed_parts args list fields = ap (λ l. of_args args ∷ l) (flat_map-append asked_at (flat_map places_of_dir list) (flat_map places_of_field fields) ∙ (λ i. flat_flat asked_at places_of_dir list i ++ flat_flat asked_at places_of_field fields i))

pub asked_edge : (e : QEdge) (args : List QArg) (list : List QDir) (fields : List QField) → asked_of_item (items.Edge e args list (Some fields)) ≡ of_args args ∷ (flat_map asked_of_dir list ++ flat_map asked_of_field fields)
asked_edge e args list fields = ap asked_in (places_edge e args list fields) ∙ listed_parts args list fields

pub asked_bare : (e : QEdge) (args : List QArg) (list : List QDir) → asked_of_item (items.Edge e args list None) ≡ of_args args ∷ (flat_map asked_of_dir list ++ [])
asked_bare e args list =
    ap asked_of_item (sym (items.rolls-Edge e args list None))
    ∙ (ap (λ w. asked_in w.places) (fold-roll-QItem Walked (List Place) step_of_item step_of_field (QItem-F.Edge e args list None))
    ∙ listed_parts args list [])

-- a filter asks what its part does
pub asked_filter : (filter : QFilter) → asked_of_filter filter ≡ asked_of_part filter.part
asked_filter filter = ap asked_in (fold_out-QFilter (List Place) (List Place) step_of_part step_of_filter filter)

-- a field asks its variable and what its item does
pub asked_field : (field : QField) → asked_of_field field ≡ asked_of_var field.var ++ asked_of_item field.item
asked_field field = ap asked_in (fold_out-QField Walked (List Place) step_of_item step_of_field field) ∙ by field.var
  where
    by : (o : Option (List ℕ)) → asked_in (place_of_var o (source_of_item field.item) ++ (walked_item field.item).places) ≡ asked_of_var o ++ asked_of_item field.item
    by None = refl
    by (Some x) = refl

-- ---- taken one after another

module _ (schema : List PredDef) (ds : List Definition) where
  pub takes_apart : (xs ys : List Asked) (before after : List Read) → Takes schema ds (xs ++ ys) before after → (mid : List Read) × Takes schema ds xs before mid × Takes schema ds ys mid after
  takes_apart [] ys before after t = (before, refl, t)
  takes_apart (x ∷ xs) ys [] after t = absurd t
  takes_apart (x ∷ xs) ys (r ∷ rs) after t = from (takes_apart xs ys rs after t.2)
    where
      from : (mid : List Read) × Takes schema ds xs rs mid × Takes schema ds ys mid after → (mid : List Read) × Takes schema ds (x ∷ xs) (r ∷ rs) mid × Takes schema ds ys mid after
      from (mid, u, v) = (mid, (t.0, t.1, u), v)

  pub took_func : (q : QFunc) (rest : List Asked) (before after : List Read) → Takes schema ds (of_func q ∷ rest) before after → IsFuncOf schema ds q (func_first before) × Takes schema ds rest (drop 1 before) after
  took_func q rest [] after t = absurd t
  took_func q rest (reads.Func f ∷ rs) after t = ((t.0, t.1), t.2)
  took_func q rest (reads.Orders keys ∷ rs) after t = absurd t.0
  took_func q rest (reads.Val place ∷ rs) after t = absurd t.0

  pub took_orders : (args : List QArg) (rest : List Asked) (before after : List Read) → Takes schema ds (of_args args ∷ rest) before after → AreKeysOf ds args (orders_first before) × Takes schema ds rest (drop 1 before) after
  took_orders args rest [] after t = absurd t
  took_orders args rest (r ∷ rs) after t = ((ap orders_in t.0, t.1), t.2)

  pub took_val : (x : List ℕ) (rest : List Asked) (before after : List Read) → Takes schema ds (of_name x ∷ rest) before after → IsPlaceOf ds x (val_first before) × Takes schema ds rest (drop 1 before) after
  took_val x rest [] after t = absurd t
  took_val x rest (r ∷ rs) after t = ((ap val_in t.0, t.1), t.2)

  -- what was made of the items so far, and what is left of what was read
  abbrev pub IsSoFar : {Q M : Type 0} → (Q → List Asked) → (List Q → List M → Type 0) → List Q → List Read → ℕ → List M → List Read → Type 0
  IsSoFar asks Are qs first i out before = (after : List Read) → Takes schema ds (flat_map asks qs) first after → Are (take i qs) out × Takes schema ds (flat_map asks (drop i qs)) before after

  -- a turn of a loop over items, of each of which something is made and added
  module _ {Q M N : Type 0} (asks : Q → List Asked) (Is : Q → N → Type 0) (Are : List Q → List M → Type 0) (one : N → List M)
      (grows : (qs : List Q) (ms : List M) (q : Q) (n : N) → Are qs ms → Is q n → Are (qs ++ q ∷ []) (ms ++ one n)) where
    pub turn : (qs : List Q) (i : ℕ) (q : Q) (n : N) (r : Result N OutOfMemory) (out more : List M) (first before new : List Read) → i < length qs → q ≡ get_or qs i q → r ≡ Ok n
        → ((after : List Read) → Takes schema ds (asks q) before after → IfOk r (λ m. Is q m × (new ≡ after))) → more ≡ out ++ one n → IsSoFar asks Are qs first i out before → IsSoFar asks Are qs first (i + 1) more new
    turn qs i q n r out more first before new lt e was told pushed so after t = from (so after t)
      where
        next : drop i qs ≡ q ∷ drop (i + 1) qs
        next = behind_it qs i q lt ∙ ap (λ p. p ∷ drop (i + 1) qs) (sym e)

        longer : take i qs ++ q ∷ [] ≡ take (i + 1) qs
        longer = ap (λ p. take i qs ++ p ∷ []) e ∙ sym (taken qs i q lt)

        with_it : Are (take i qs) out → (mid : List Read) × Takes schema ds (asks q) before mid × Takes schema ds (flat_map asks (drop (i + 1) qs)) mid after → Are (take (i + 1) qs) more × Takes schema ds (flat_map asks (drop (i + 1) qs)) new after
        with_it are (mid, u, v) =
            let given : Is q n × (new ≡ mid) = at_ok r n (λ m. Is q m × (new ≡ mid)) was (told mid u) in (
              subst (λ (l : List Q). Are l more) longer (subst (λ (l : List M). Are (take i qs ++ q ∷ []) l) (sym pushed) (grows (take i qs) out q n are given.0)),
              subst (λ (l : List Read). Takes schema ds (flat_map asks (drop (i + 1) qs)) l after) (sym given.1) v,
            )

        from : Are (take i qs) out × Takes schema ds (flat_map asks (drop i qs)) before after → Are (take (i + 1) qs) more × Takes schema ds (flat_map asks (drop (i + 1) qs)) new after
        from (are, left) = with_it are (takes_apart (asks q) (flat_map asks (drop (i + 1) qs)) before after (subst (λ (l : List Q). Takes schema ds (flat_map asks l) before after) next left))

  -- ---- lists of parts that grow

  pub filters_apart : (qs rs : List QFilter) (fs gs : List Filter) → AreFiltersOf schema ds qs fs → AreFiltersOf schema ds rs gs → AreFiltersOf schema ds (qs ++ rs) (fs ++ gs)
  filters_apart qs rs fs gs no_filter more = more
  filters_apart qs rs fs gs (more_filters q f qs' fs' is_ rest) more = more_filters q f (qs' ++ rs) (fs' ++ gs) is_ (filters_apart qs' rs fs' gs rest more)

  pub filter_added : (qs : List QFilter) (fs : List Filter) (q : QFilter) (f : Filter) → AreFiltersOf schema ds qs fs → IsFilterOf schema ds q f → AreFiltersOf schema ds (qs ++ q ∷ []) (fs ++ f ∷ [])
  filter_added qs fs q f are is_ = filters_apart qs (q ∷ []) fs (f ∷ []) are (more_filters q f [] [] is_ no_filter)

  pub dir_added : (list : List QDir) (fs : List Filter) (dir : QDir) (o : Option Filter) → AreFiltersOf schema ds (filters_in list) fs → AreFiltersOf schema ds (filters_at dir) (option_to_list o) → AreFiltersOf schema ds (filters_in (list ++ dir ∷ [])) (fs ++ option_to_list o)
  dir_added list fs dir o are is_ = subst (λ (l : List QFilter). AreFiltersOf schema ds l (fs ++ option_to_list o)) (sym (flat_map-append filters_at list (dir ∷ []) ∙ ap (λ l. filters_in list ++ l) (none_behind (filters_at dir)))) (filters_apart (filters_in list) (filters_at dir) fs (option_to_list o) are is_)

  pub field_added : (qs : List QField) (fs : List Field) (q : QField) (f : Field) → AreFieldsOf schema ds qs fs → IsFieldOf schema ds q f → AreFieldsOf schema ds (qs ++ q ∷ []) (fs ++ f ∷ [])
  field_added qs fs q f no_field is_ = more_fields q f [] [] is_.0 is_.1 no_field
  field_added qs fs q f (more_fields p g qs' fs' own inner rest) is_ = more_fields p g (qs' ++ q ∷ []) (fs' ++ f ∷ []) own inner (field_added qs' fs' q f rest is_)

  pub block_added : (bs : List QBlock) (ks : List Parts) (b : QBlock) (k : Parts) → AreBlocksOf schema ds bs ks → IsBlockOf schema ds b k → AreBlocksOf schema ds (bs ++ b ∷ []) (ks ++ k ∷ [])
  block_added [] [] b k are is_ = (is_, tt)
  block_added [] (l ∷ ks) b k are is_ = absurd are
  block_added (a ∷ bs) [] b k are is_ = absurd are
  block_added (a ∷ bs) (l ∷ ks) b k are is_ = (are.0, block_added bs ks b k are.1 is_)

-- What functions, filters and lists of nodes are depends on the variables that they use alone.
use Rattle.std.proofs.Common.{◌≡◌, ℕ, Bool, true, false, List, [], ◌∷◌, ◌++◌, map, flat_map, refl, sym, ap, ◌∙◌, subst}
use Rattle.std.specs.Prelude.{◌&&◌, Option, Some, None, option_to_list, filter, slice_get}
use Rattle.std.specs.List.{list_any, list_all}
use Rattle.std.specs.Ordering.{nat_cmp}
use Rattle.dg_values.specs.Ascending.{ascending, has}
use Rattle.dg_values.specs.Order.{text_cmp, same_text}
use Rattle.dg_sets.proofs.MadeOrders.{text_order}
use Rattle.dg_sets.proofs.Sets.{is_itself}
use Rattle.dg_graph.specs.declared.change.Triple.{Triple}
use Rattle.dg_parse.specs.declared.query.QArg.{QArg}
use Rattle.dg_parse.specs.declared.query.QArg.TheVariants as arguments
use Rattle.dg_parse.specs.declared.query.QDir.{QDir}
use Rattle.dg_parse.specs.declared.query.QDir.TheVariants as dirs
use Rattle.dg_parse.specs.declared.query.QEdge.{QEdge}
use Rattle.dg_parse.specs.declared.query.QFilter.{QFilter, QFilter-F, roll-QFilter, fold-roll-QFilter, map-QFilter}
use Rattle.dg_parse.specs.declared.query.QFunc.{QFunc}
use Rattle.dg_parse.specs.declared.query.QFunc.TheVariants as funcs
use Rattle.dg_parse.specs.declared.query.QOf.{QOf}
use Rattle.dg_parse.specs.declared.query.QOf.TheVariants as part
use Rattle.dg_parse.specs.declared.query.QOrder.{QOrder}
use Rattle.dg_parse.specs.declared.query.QOrder.TheVariants as orders
use Rattle.dg_parse.specs.declared.query.QPart.{QPart, QPart-F, roll-QPart, fold-roll-QPart}
use Rattle.dg_parse.specs.declared.query.QPart.TheFolds.{map-QPart, ind-QFilter}
use Rattle.dg_parse.specs.declared.query.UidArg.{UidArg}
use Rattle.dg_parse.specs.declared.query.UidArg.TheVariants as named
use Rattle.dg_check.specs.declared.vars.Variable.{Variable}
use Rattle.dg_check.specs.Names.{is_name_in}
use Rattle.dg_check.specs.Parts.{filters_in}
use Rattle.dg_check.specs.Places.{Place, step_of_part, step_of_filter, places_of_part, places_of_filter, places_of_dir, place_of_root}
use Rattle.dg_check.specs.Plans.{place_of}
use Rattle.dg_check.specs.Variables.{Definition, names_for, Use, uses_of_named, uses_of_part, uses_of_func, uses_of_order, uses_of_arg, uses_at, uses_in}
use Rattle.dg_check.specs.Vars.{nodes_by, value_by}
use Rattle.dg_check.proofs.ReachLaws.{or_left, or_right}
use Rattle.dg_funcs.specs.Truth.{nodes_along, negated}
use Rattle.dg_funcs.specs.Meaning.{text_stands_to_any, text_is_between, text_named_nodes, text_compared, text_holds_at, text_step_of_part, text_step_of_filter, text_passes, text_part_passes, text_nodes_of_part, text_candidates}
use Rattle.dg_shape.specs.Orders.{ordered, page}
use Rattle.dg_level.specs.Lists.{value_for, keys_for, passed_all, children}
use Rattle.dg_level.specs.Blocks.{nodes_at_root}

module _ (ds : List Definition) (vars others : List Variable) where
  -- ---- variables that stand for the same in both

  -- those that are used
  abbrev pub AreAlike : List Use → Type 0
  AreAlike [] = Unit {0}
  AreAlike (u ∷ uses) = (slice_get vars (place_of ds u.name) ≡ slice_get others (place_of ds u.name)) × AreAlike uses

  -- those that are used at places
  abbrev pub AreLocal : List Place → Type 0
  AreLocal [] = Unit {0}
  AreLocal (p ∷ places) = AreAlike (uses_at p) × AreLocal places

  pub alike_front : (us vs : List Use) → AreAlike (us ++ vs) → AreAlike us
  alike_front [] vs a = tt
  alike_front (u ∷ us) vs a = (a.0, alike_front us vs a.1)

  pub alike_back : (us vs : List Use) → AreAlike (us ++ vs) → AreAlike vs
  alike_back [] vs a = a
  alike_back (u ∷ us) vs a = alike_back us vs a.1

  pub local_front : (ps qs : List Place) → AreLocal (ps ++ qs) → AreLocal ps
  local_front [] qs a = tt
  local_front (p ∷ ps) qs a = (a.0, local_front ps qs a.1)

  pub local_back : (ps qs : List Place) → AreLocal (ps ++ qs) → AreLocal qs
  local_back [] qs a = a
  local_back (p ∷ ps) qs a = local_back ps qs a.1

  pub are_local : (places : List Place) → AreAlike (uses_in places) → AreLocal places
  are_local [] a = tt
  are_local (p ∷ places) a = (alike_front (uses_at p) (uses_in places) a, are_local places (alike_back (uses_at p) (uses_in places) a))

  -- all that are used are alike, if each of their names is
  pub alike_named : (uses : List Use) → ((x : List ℕ) → is_name_in (map (λ u. u.name) uses) x ≡ true → slice_get vars (place_of ds x) ≡ slice_get others (place_of ds x)) → AreAlike uses
  alike_named [] h = tt
  alike_named (u ∷ uses) h = (
    h u.name (or_left (same_text u.name u.name) (is_name_in (map (λ v. v.name) uses) u.name) (is_itself text_cmp text_order u.name)),
    alike_named uses (λ x e. h x (or_right (same_text x u.name) (is_name_in (map (λ v. v.name) uses) x) e)),
  )

  module _ (graph : List Triple) where
    -- ---- functions

    abbrev names : List (List ℕ)
    names = names_for false ds

    named_local : (uids : List UidArg) → AreAlike (flat_map uses_of_named uids) → text_named_nodes names vars uids ≡ text_named_nodes names others uids
    named_local [] a = refl
    named_local (named.Uid n ∷ uids) a = ap (λ ns. n ∷ ns) (named_local uids a)
    named_local (named.Var x ∷ uids) a = λ i. nodes_by (a.0 i) ++ named_local uids a.1 i

    compared_local : (o : QOf) → AreAlike (uses_of_part o) → (n : ℕ) → text_compared graph names vars o n ≡ text_compared graph names others o n
    compared_local (part.Pred p) a n = refl
    compared_local (part.Count e) a n = refl
    compared_local (part.Val x) a n = λ i. option_to_list (value_by (a.0 i) n)

    func_local : (f : QFunc) → AreAlike (uses_of_func f) → (n : ℕ) → text_holds_at graph names vars n f ≡ text_holds_at graph names others n f
    func_local (funcs.Uid uids) a n = ap (λ ns. has nat_cmp ns n) (named_local uids a)
    func_local (funcs.Cmp op o literals) a n = ap (list_any (text_stands_to_any op literals)) (compared_local o a n)
    func_local (funcs.Between o low high) a n = ap (list_any (text_is_between low high)) (compared_local o a n)
    func_local (funcs.Has e) a n = refl
    func_local (funcs.Terms all p text) a n = refl
    func_local (funcs.Regexp p pattern fold) a n = refl
    func_local (funcs.UidIn e uids) a n = ap (λ ns. list_any (has nat_cmp ns) (nodes_along graph e n)) (named_local uids a)

    asked_local : (o : QOf) → AreAlike (uses_of_part o) → text_nodes_of_part graph names vars o ≡ text_nodes_of_part graph names others o
    asked_local (part.Pred p) a = refl
    asked_local (part.Count e) a = refl
    asked_local (part.Val x) a = λ i. nodes_by (a.0 i)

    candidates_local : (f : QFunc) → AreAlike (uses_of_func f) → text_candidates graph names vars f ≡ text_candidates graph names others f
    candidates_local (funcs.Uid uids) a = ap (ascending nat_cmp) (named_local uids a)
    candidates_local (funcs.Cmp op o literals) a = asked_local o a
    candidates_local (funcs.Between o low high) a = asked_local o a
    candidates_local (funcs.Has e) a = refl
    candidates_local (funcs.Terms all p text) a = refl
    candidates_local (funcs.Regexp p pattern fold) a = refl
    candidates_local (funcs.UidIn e uids) a = refl

    -- the nodes at the root of a block
    pub root_local : (f : Option QFunc) → AreLocal (place_of_root f) → nodes_at_root graph ds vars f ≡ nodes_at_root graph ds others f
    root_local None a = refl
    root_local (Some f) a = λ i. filter (λ n. func_local f a.0 n i) (candidates_local f a.0 i)

    -- ---- filters

    -- what `not` stands before passes alike
    abbrev IsLocalPart : QPart → Type 0
    IsLocalPart p = AreLocal (places_of_part p) → (n : ℕ) → text_part_passes graph names vars n p ≡ text_part_passes graph names others n p

    -- a filter passes alike
    abbrev IsLocalFilter : QFilter → Type 0
    IsLocalFilter f = AreLocal (places_of_filter f) → (n : ℕ) → text_passes graph names vars n f ≡ text_passes graph names others n f

    abbrev filters_of : List ((f : QFilter) × IsLocalFilter f) → List QFilter
    filters_of fs = map (λ e. e.0) fs

    filters_local : (fs : List ((f : QFilter) × IsLocalFilter f)) → AreLocal (flat_map (λ places. places) (map places_of_filter (filters_of fs))) → (n : ℕ)
        → map (text_passes graph names vars n) (filters_of fs) ≡ map (text_passes graph names others n) (filters_of fs)
    filters_local [] a n = refl
    filters_local (e ∷ fs) a n =
        let own = places_of_filter e.0 in
        let more = flat_map (λ (places : List Place). places) (map places_of_filter (filters_of fs)) in
        let here = e.1 (local_front own more a) n in
        let rest = filters_local fs (local_back own more a) n in
        λ i. here i ∷ rest i

    -- a part, by its layer
    part_is : (given : List Variable) (n : ℕ) (layer : QPart-F QPart QFilter) → text_part_passes graph names given n (roll-QPart layer)
        ≡ text_step_of_part (text_holds_at graph names given n) (map-QPart QPart QFilter Bool Bool (text_part_passes graph names given n) (text_passes graph names given n) layer)
    part_is given n layer = fold-roll-QPart Bool Bool (text_step_of_part (text_holds_at graph names given n)) text_step_of_filter layer

    places_are : (layer : QPart-F QPart QFilter) → places_of_part (roll-QPart layer) ≡ step_of_part (map-QPart QPart QFilter (List Place) (List Place) places_of_part places_of_filter layer)
    places_are layer = fold-roll-QPart (List Place) (List Place) step_of_part step_of_filter layer

    filter_is : (given : List Variable) (n : ℕ) (layer : QFilter-F QPart QFilter) → text_passes graph names given n (roll-QFilter layer) ≡ negated layer.nots (text_part_passes graph names given n layer.part)
    filter_is given n layer = fold-roll-QFilter Bool Bool (text_step_of_part (text_holds_at graph names given n)) text_step_of_filter layer

    part_local : (y : QPart-F ((p : QPart) × IsLocalPart p) ((f : QFilter) × IsLocalFilter f)) → IsLocalPart (roll-QPart (map-QPart ((p : QPart) × IsLocalPart p) ((f : QFilter) × IsLocalFilter f) QPart QFilter (λ e. e.0) (λ e. e.0) y))
    part_local (QPart-F.Or fs) a n =
        let here = filters_local fs (subst AreLocal (places_are (QPart-F.Or (filters_of fs))) a) n in
        part_is vars n (QPart-F.Or (filters_of fs)) ∙ (ap (list_any (λ b. b)) here ∙ sym (part_is others n (QPart-F.Or (filters_of fs))))
    part_local (QPart-F.And fs) a n =
        let here = filters_local fs (subst AreLocal (places_are (QPart-F.And (filters_of fs))) a) n in
        part_is vars n (QPart-F.And (filters_of fs)) ∙ (ap (list_all (λ b. b)) here ∙ sym (part_is others n (QPart-F.And (filters_of fs))))
    part_local (QPart-F.Func f) a n =
        let here = func_local f (subst AreLocal (places_are (QPart-F.Func f)) a).0 n in
        part_is vars n (QPart-F.Func f) ∙ (here ∙ sym (part_is others n (QPart-F.Func f)))

    filter_step : (y : QFilter-F ((p : QPart) × IsLocalPart p) ((f : QFilter) × IsLocalFilter f)) → IsLocalFilter (roll-QFilter (map-QFilter ((p : QPart) × IsLocalPart p) ((f : QFilter) × IsLocalFilter f) QPart QFilter (λ e. e.0) (λ e. e.0) y))
    filter_step y a n =
        let layer = map-QFilter ((p : QPart) × IsLocalPart p) ((f : QFilter) × IsLocalFilter f) QPart QFilter (λ e. e.0) (λ e. e.0) y in
        let here = y.part.1 (subst AreLocal (fold-roll-QFilter (List Place) (List Place) step_of_part step_of_filter layer) a) n in
        filter_is vars n layer ∙ (ap (negated y.nots) here ∙ sym (filter_is others n layer))

    pub filter_local : (f : QFilter) → IsLocalFilter f
    filter_local = ind-QFilter IsLocalPart IsLocalFilter (λ x y is. subst (λ l. IsLocalPart (roll-QPart l)) is (part_local y)) (λ x y is. subst (λ l. IsLocalFilter (roll-QFilter l)) is (filter_step y))

    -- the filters of directives
    dirs_local : (list : List QDir) → AreLocal (flat_map places_of_dir list) → (n : ℕ) → list_all (text_passes graph names vars n) (filters_in list) ≡ list_all (text_passes graph names others n) (filters_in list)
    dirs_local [] a n = refl
    dirs_local (dirs.Filter f ∷ list) a n =
        let here = filter_local f (local_front (places_of_filter f) (flat_map places_of_dir list) a) n in
        let rest = dirs_local list (local_back (places_of_filter f) (flat_map places_of_dir list) a) n in
        λ i. here i && rest i
    dirs_local (dirs.Cascade ∷ list) a n = dirs_local list a n
    dirs_local (dirs.Normalize ∷ list) a n = dirs_local list a n
    dirs_local (dirs.Recurse options ∷ list) a n = dirs_local list a.1 n

    -- ---- lists

    value_local : (order : QOrder) → AreAlike (uses_of_order order) → value_for graph ds vars order ≡ value_for graph ds others order
    value_local (orders.Pred p) a = refl
    value_local (orders.Val x) a = λ i n. value_by (a.0 i) n

    keys_local : (args : List QArg) → AreAlike (flat_map uses_of_arg args) → keys_for graph ds vars args ≡ keys_for graph ds others args
    keys_local [] a = refl
    keys_local (arguments.First n ∷ args) a = keys_local args a
    keys_local (arguments.Offset n ∷ args) a = keys_local args a
    keys_local (arguments.After n ∷ args) a = keys_local args a
    keys_local (arguments.Asc order ∷ args) a =
        let here = value_local order (alike_front (uses_of_order order) (flat_map uses_of_arg args) a) in
        let rest = keys_local args (alike_back (uses_of_order order) (flat_map uses_of_arg args) a) in
        λ i. (false, here i) ∷ rest i
    keys_local (arguments.Desc order ∷ args) a =
        let here = value_local order (alike_front (uses_of_order order) (flat_map uses_of_arg args) a) in
        let rest = keys_local args (alike_back (uses_of_order order) (flat_map uses_of_arg args) a) in
        λ i. (true, here i) ∷ rest i

    -- a list of nodes, by its arguments and its directives
    pub listed_local : (args : List QArg) (list : List QDir) → AreAlike (flat_map uses_of_arg args) → AreLocal (flat_map places_of_dir list) → (nodes : List ℕ)
        → page args (ordered (keys_for graph ds vars args) (passed_all graph ds vars list nodes)) ≡ page args (ordered (keys_for graph ds others args) (passed_all graph ds others list nodes))
    listed_local args list a b nodes = λ i. page args (ordered (keys_local args a i) (filter (λ n. dirs_local list b n i) nodes))

    -- the list of a node under an edge
    pub children_local : (e : QEdge) (args : List QArg) (list : List QDir) → AreAlike (flat_map uses_of_arg args) → AreLocal (flat_map places_of_dir list) → children graph ds vars e args list ≡ children graph ds others e args list
    children_local e args list a b = λ i node. listed_local args list a b (nodes_along graph e node) i

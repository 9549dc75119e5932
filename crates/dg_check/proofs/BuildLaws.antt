-- A part of a plan is that of the text, where what was read begins with what is read of it.
use Rattle.std.proofs.Common.{◌≡◌, ℕ, drop, List, [], ◌∷◌, ◌++◌, inl, inr, refl, sym, ap, ◌∙◌, subst}
use Rattle.std.specs.Prelude.{Option, Some, None, ◌⊎◌, IfOk, flat_map, option_to_list, Result, Ok}
use Rattle.std.proofs.lemmas.List.Concat.{flat_map-append}
use Rattle.dg_values.specs.declared.memory.OutOfMemory.{OutOfMemory}
use Rattle.dg_schema.specs.declared.definition.PredDef.{PredDef}
use Rattle.dg_parse.specs.declared.query.AggOp.{AggOp}
use Rattle.dg_parse.specs.declared.query.QArg.{QArg}
use Rattle.dg_parse.specs.declared.query.QBlock.{QBlock}
use Rattle.dg_parse.specs.declared.query.QDir.{QDir}
use Rattle.dg_parse.specs.declared.query.QDir.TheVariants as dirs
use Rattle.dg_parse.specs.declared.query.QEdge.{QEdge}
use Rattle.dg_parse.specs.declared.query.QField.{QField}
use Rattle.dg_parse.specs.declared.query.QFilter.{QFilter}
use Rattle.dg_parse.specs.declared.query.QFunc.{QFunc}
use Rattle.dg_parse.specs.declared.query.QItem.{QItem}
use Rattle.dg_parse.specs.declared.query.QItem.TheVariants as items
use Rattle.dg_parse.specs.declared.query.QOpt.{QOpt}
use Rattle.dg_parse.specs.declared.query.QPart.{QPart}
use Rattle.dg_parse.specs.declared.query.QPart.TheVariants as said
use Rattle.dg_check.specs.declared.parts.Field.{Field}
use Rattle.dg_check.specs.declared.parts.Filter.{Filter}
use Rattle.dg_check.specs.declared.parts.Func.{Func}
use Rattle.dg_check.specs.declared.parts.Item.{Item}
use Rattle.dg_check.specs.declared.parts.Item.TheVariants as shown
use Rattle.dg_check.specs.declared.parts.OrderKey.{OrderKey}
use Rattle.dg_check.specs.declared.parts.Part.{Part}
use Rattle.dg_check.specs.declared.parts.Part.TheVariants as pieces
use Rattle.dg_check.specs.declared.parts.Parts.{Parts}
use Rattle.dg_check.specs.declared.plan.Read.{Read}
use Rattle.dg_check.specs.Places.{arguments, listed, places_of_dir, place_of_var, place_of_root, places_of_field}
use Rattle.dg_check.specs.Variables.{Definition}
use Rattle.dg_check.specs.Plans.{Asked, of_args, of_name, asked_at, asked_in}
use Rattle.dg_check.specs.Parts.{IsFuncOf, AreKeysOf, IsPlaceOf, IsVarOf, IsRootOf, IsFilterOf, negated, IsPartOf, any, each, one, AreFiltersOf, more_filters, no_filter, filters_at, filters_in, IsItemOf, uid, count_uid, count, val, agg, edge, IsFieldOf, AreFieldsOf, no_field, IsBlockOf, Takes, func_first, orders_first, val_first, asked_of_var, asked_of_root, asked_of_filter, asked_of_part, asked_of_dir, asked_of_item, asked_of_field, asked_of_block}
use Rattle.dg_check.proofs.PartLaws.{at_ok, asked_filter, asked_or, asked_and, asked_func, asked_uid, asked_count_uid, asked_count, asked_val, asked_agg, asked_edge, asked_bare, asked_field, listed_parts, takes_apart, took_func, took_orders, took_val}

-- what is read of a block: of its variable, of its root, and of its list of nodes
asked_block : (b : QBlock) → asked_of_block b ≡ asked_of_var b.var ++ (asked_of_root b.func ++ of_args b.args ∷ (flat_map asked_of_dir b.dirs ++ flat_map asked_of_field b.fields))
asked_block b = by b.var
  where
    behind : asked_in (place_of_root b.func ++ arguments b.args ∷ (flat_map places_of_dir b.dirs ++ flat_map places_of_field b.fields)) ≡ asked_of_root b.func ++ of_args b.args ∷ (flat_map asked_of_dir b.dirs ++ flat_map asked_of_field b.fields)
    behind = flat_map-append asked_at (place_of_root b.func) (arguments b.args ∷ (flat_map places_of_dir b.dirs ++ flat_map places_of_field b.fields)) ∙ ap (λ l. asked_of_root b.func ++ l) (listed_parts b.args b.dirs b.fields)

    by : (o : Option (List ℕ)) → asked_in (place_of_var o listed ++ (place_of_root b.func ++ arguments b.args ∷ (flat_map places_of_dir b.dirs ++ flat_map places_of_field b.fields))) ≡ asked_of_var o ++ (asked_of_root b.func ++ of_args b.args ∷ (flat_map asked_of_dir b.dirs ++ flat_map asked_of_field b.fields))
    by None = behind
    by (Some x) = ap (λ l. of_name x ∷ l) behind

module _ (schema : List PredDef) (ds : List Definition) where
  -- ---- filters

  pub filter_made : (q : QFilter) (f : Filter) (r : Result Part OutOfMemory) (p : Part) (before new : List Read) → r ≡ Ok p → f.nots ≡ q.nots → f.part ≡ p
      → ((after : List Read) → Takes schema ds (asked_of_part q.part) before after → IfOk r (λ m. IsPartOf schema ds q.part m × (new ≡ after)))
      → (after : List Read) → Takes schema ds (asked_of_filter q) before after → IsFilterOf schema ds q f × (new ≡ after)
  filter_made q f r p before new was n e told after t =
      let given : IsPartOf schema ds q.part p × (new ≡ after) = at_ok r p (λ m. IsPartOf schema ds q.part m × (new ≡ after)) was (told after (subst (λ (l : List Asked). Takes schema ds l before after) (asked_filter q) t)) in
      (negated q f n (subst (λ (o : Part). IsPartOf schema ds q.part o) (sym e) given.0), given.1)

  pub any_made : (q : QPart) (qs ss : List QFilter) (r : Result (List Filter) OutOfMemory) (fs : List Filter) (before new : List Read) → q ≡ said.Or qs → ss ≡ qs → r ≡ Ok fs
      → ((after : List Read) → Takes schema ds (flat_map asked_of_filter ss) before after → IfOk r (λ m. AreFiltersOf schema ds ss m × (new ≡ after)))
      → (after : List Read) → Takes schema ds (asked_of_part q) before after → IsPartOf schema ds q (pieces.Or fs) × (new ≡ after)
  any_made q qs ss r fs before new is_ same was told after t =
      let there = subst (λ (l : List Asked). Takes schema ds l before after) (ap asked_of_part is_ ∙ (asked_or qs ∙ ap (flat_map asked_of_filter) (sym same))) t in
      let given : AreFiltersOf schema ds ss fs × (new ≡ after) = at_ok r fs (λ m. AreFiltersOf schema ds ss m × (new ≡ after)) was (told after there) in
      (subst (λ (o : QPart). IsPartOf schema ds o (pieces.Or fs)) (sym is_) (any qs fs (subst (λ (l : List QFilter). AreFiltersOf schema ds l fs) same given.0)), given.1)

  pub each_made : (q : QPart) (qs ss : List QFilter) (r : Result (List Filter) OutOfMemory) (fs : List Filter) (before new : List Read) → q ≡ said.And qs → ss ≡ qs → r ≡ Ok fs
      → ((after : List Read) → Takes schema ds (flat_map asked_of_filter ss) before after → IfOk r (λ m. AreFiltersOf schema ds ss m × (new ≡ after)))
      → (after : List Read) → Takes schema ds (asked_of_part q) before after → IsPartOf schema ds q (pieces.And fs) × (new ≡ after)
  each_made q qs ss r fs before new is_ same was told after t =
      let there = subst (λ (l : List Asked). Takes schema ds l before after) (ap asked_of_part is_ ∙ (asked_and qs ∙ ap (flat_map asked_of_filter) (sym same))) t in
      let given : AreFiltersOf schema ds ss fs × (new ≡ after) = at_ok r fs (λ m. AreFiltersOf schema ds ss m × (new ≡ after)) was (told after there) in
      (subst (λ (o : QPart). IsPartOf schema ds o (pieces.And fs)) (sym is_) (each qs fs (subst (λ (l : List QFilter). AreFiltersOf schema ds l fs) same given.0)), given.1)

  pub one_made : (q : QPart) (own : QFunc) (f : Func) (before new : List Read) → q ≡ said.Func own → f ≡ func_first before → new ≡ drop 1 before
      → (after : List Read) → Takes schema ds (asked_of_part q) before after → IsPartOf schema ds q (pieces.Func f) × (new ≡ after)
  one_made q own f before new is_ e rest after t =
      let took = took_func schema ds own [] before after (subst (λ (l : List Asked). Takes schema ds l before after) (ap asked_of_part is_ ∙ asked_func own) t) in
      (subst (λ (o : QPart). IsPartOf schema ds o (pieces.Func f)) (sym is_) (one own f (subst (λ (g : Func). IsFuncOf schema ds own g) (sym e) took.0)), rest ∙ took.1)

  pub dir_made : (dir : QDir) (q : QFilter) (r : Result Filter OutOfMemory) (f : Filter) (before new : List Read) → dir ≡ dirs.Filter q → r ≡ Ok f
      → ((after : List Read) → Takes schema ds (asked_of_filter q) before after → IfOk r (λ m. IsFilterOf schema ds q m × (new ≡ after)))
      → (after : List Read) → Takes schema ds (asked_of_dir dir) before after → AreFiltersOf schema ds (filters_at dir) (option_to_list (Some f)) × (new ≡ after)
  dir_made dir q r f before new is_ was told after t =
      let given : IsFilterOf schema ds q f × (new ≡ after) = at_ok r f (λ m. IsFilterOf schema ds q m × (new ≡ after)) was (told after (subst (λ (d : QDir). Takes schema ds (asked_of_dir d) before after) is_ t)) in
      (subst (λ (d : QDir). AreFiltersOf schema ds (filters_at d) (f ∷ [])) (sym is_) (more_filters q f [] [] given.0 no_filter), given.1)

  no_dir_made : (dir : QDir) (before new : List Read) → filters_at dir ≡ [] → asked_of_dir dir ≡ [] → new ≡ before → (after : List Read) → Takes schema ds (asked_of_dir dir) before after → AreFiltersOf schema ds (filters_at dir) (option_to_list None) × (new ≡ after)
  no_dir_made dir before new e f same after t =
      (subst (λ (l : List QFilter). AreFiltersOf schema ds l []) (sym e) no_filter, same ∙ subst (λ (l : List Asked). Takes schema ds l before after) f t)

  pub no_dirs_made : (dir : QDir) (before : List Read) → (dir ≡ dirs.Cascade) ⊎ ((dir ≡ dirs.Normalize) ⊎ ((options : List QOpt) × (dir ≡ dirs.Recurse options)))
      → (after : List Read) → Takes schema ds (asked_of_dir dir) before after → AreFiltersOf schema ds (filters_at dir) (option_to_list None) × (before ≡ after)
  no_dirs_made dir before (inl e) = no_dir_made dir before before (ap filters_at e) (ap asked_of_dir e) refl
  no_dirs_made dir before (inr (inl e)) = no_dir_made dir before before (ap filters_at e) (ap asked_of_dir e) refl
  no_dirs_made dir before (inr (inr (options, e))) = no_dir_made dir before before (ap filters_at e) (ap asked_of_dir e) refl

  -- what filters are made of a slice, said of what the slice has
  pub dirs_at : (ss list : List QDir) (r : Result (List Filter) OutOfMemory) (first mid : List Read) → ss ≡ list → ((after : List Read) → Takes schema ds (flat_map asked_of_dir ss) first after → IfOk r (λ m. AreFiltersOf schema ds (filters_in ss) m × (mid ≡ after)))
      → (after : List Read) → Takes schema ds (flat_map asked_of_dir list) first after → IfOk r (λ m. AreFiltersOf schema ds (filters_in list) m × (mid ≡ after))
  dirs_at ss list r first mid e told = subst (λ (l : List QDir). (after : List Read) → Takes schema ds (flat_map asked_of_dir l) first after → IfOk r (λ m. AreFiltersOf schema ds (filters_in l) m × (mid ≡ after))) e told

  -- and what fields
  pub fields_at : (ss list : List QField) (r : Result (List Field) OutOfMemory) (mid new : List Read) → ss ≡ list → ((after : List Read) → Takes schema ds (flat_map asked_of_field ss) mid after → IfOk r (λ m. AreFieldsOf schema ds ss m × (new ≡ after)))
      → (after : List Read) → Takes schema ds (flat_map asked_of_field list) mid after → IfOk r (λ m. AreFieldsOf schema ds list m × (new ≡ after))
  fields_at ss list r mid new e told = subst (λ (l : List QField). (after : List Read) → Takes schema ds (flat_map asked_of_field l) mid after → IfOk r (λ m. AreFieldsOf schema ds l m × (new ≡ after))) e told

  -- ---- fields

  -- an item of which nothing is kept
  uid_made : (q : QItem) (before new : List Read) → q ≡ items.Uid → new ≡ before → (after : List Read) → Takes schema ds (asked_of_item q) before after → IsItemOf schema ds q shown.Plain × (new ≡ after)
  uid_made q before new is_ same after t = (subst (λ (o : QItem). IsItemOf schema ds o shown.Plain) (sym is_) uid, same ∙ subst (λ (l : List Asked). Takes schema ds l before after) (ap asked_of_item is_ ∙ asked_uid) t)

  count_uid_made : (q : QItem) (before new : List Read) → q ≡ items.CountUid → new ≡ before → (after : List Read) → Takes schema ds (asked_of_item q) before after → IsItemOf schema ds q shown.Plain × (new ≡ after)
  count_uid_made q before new is_ same after t = (subst (λ (o : QItem). IsItemOf schema ds o shown.Plain) (sym is_) count_uid, same ∙ subst (λ (l : List Asked). Takes schema ds l before after) (ap asked_of_item is_ ∙ asked_count_uid) t)

  count_made : (q : QItem) (e : QEdge) (before new : List Read) → q ≡ items.Count e → new ≡ before → (after : List Read) → Takes schema ds (asked_of_item q) before after → IsItemOf schema ds q shown.Plain × (new ≡ after)
  count_made q e before new is_ same after t = (subst (λ (o : QItem). IsItemOf schema ds o shown.Plain) (sym is_) (count e), same ∙ subst (λ (l : List Asked). Takes schema ds l before after) (ap asked_of_item is_ ∙ asked_count e) t)

  val_made : (q : QItem) (x : List ℕ) (place : ℕ) (before new : List Read) → q ≡ items.Val x → place ≡ val_first before → new ≡ drop 1 before
      → (after : List Read) → Takes schema ds (asked_of_item q) before after → IsItemOf schema ds q (shown.Val place) × (new ≡ after)
  val_made q x place before new is_ e rest after t =
      let took = took_val schema ds x [] before after (subst (λ (l : List Asked). Takes schema ds l before after) (ap asked_of_item is_ ∙ asked_val x) t) in
      (subst (λ (o : QItem). IsItemOf schema ds o (shown.Val place)) (sym is_) (val x place (subst (λ (p : ℕ). IsPlaceOf ds x p) (sym e) took.0)), rest ∙ took.1)

  agg_made : (q : QItem) (op : AggOp) (x : List ℕ) (place : ℕ) (before new : List Read) → q ≡ items.Agg op x → place ≡ val_first before → new ≡ drop 1 before
      → (after : List Read) → Takes schema ds (asked_of_item q) before after → IsItemOf schema ds q (shown.Val place) × (new ≡ after)
  agg_made q op x place before new is_ e rest after t =
      let took = took_val schema ds x [] before after (subst (λ (l : List Asked). Takes schema ds l before after) (ap asked_of_item is_ ∙ asked_agg op x) t) in
      (subst (λ (o : QItem). IsItemOf schema ds o (shown.Val place)) (sym is_) (agg op x place (subst (λ (p : ℕ). IsPlaceOf ds x p) (sym e) took.0)), rest ∙ took.1)

  pub nothing_made : (q : QItem) (before : List Read) → (q ≡ items.Uid) ⊎ ((q ≡ items.CountUid) ⊎ ((e : QEdge) × (q ≡ items.Count e))) → (after : List Read) → Takes schema ds (asked_of_item q) before after → IsItemOf schema ds q shown.Plain × (before ≡ after)
  nothing_made q before (inl is_) = uid_made q before before is_ refl
  nothing_made q before (inr (inl is_)) = count_uid_made q before before is_ refl
  nothing_made q before (inr (inr (e, is_))) = count_made q e before before is_ refl

  pub value_made : (q : QItem) (place : ℕ) (before new : List Read) → ((x : List ℕ) × (q ≡ items.Val x)) ⊎ ((op : AggOp) × (x : List ℕ) × (q ≡ items.Agg op x)) → place ≡ val_first before → new ≡ drop 1 before
      → (after : List Read) → Takes schema ds (asked_of_item q) before after → IsItemOf schema ds q (shown.Val place) × (new ≡ after)
  value_made q place before new (inl (x, is_)) e rest = val_made q x place before new is_ e rest
  value_made q place before new (inr (op, x, is_)) e rest = agg_made q op x place before new is_ e rest

  -- a variable that is defined
  pub var_made : (x : List ℕ) (place : ℕ) (before new : List Read) → place ≡ val_first before → new ≡ drop 1 before → (after : List Read) → Takes schema ds (asked_of_var (Some x)) before after → IsVarOf ds (Some x) (Some place) × (new ≡ after)
  var_made x place before new e rest after t =
      let took = took_val schema ds x [] before after t in
      (subst (λ (p : ℕ). IsPlaceOf ds x p) (sym e) took.0, rest ∙ took.1)

  -- a field: its variable, and what it shows
  pub field_made : (q : QField) (f : Field) (r : Result Item OutOfMemory) (item : Item) (start before new : List Read) → r ≡ Ok item → f.item ≡ item
      → ((after : List Read) → Takes schema ds (asked_of_var q.var) start after → IsVarOf ds q.var f.var × (before ≡ after))
      → ((after : List Read) → Takes schema ds (asked_of_item q.item) before after → IfOk r (λ m. IsItemOf schema ds q.item m × (new ≡ after)))
      → (after : List Read) → Takes schema ds (asked_of_field q) start after → IsFieldOf schema ds q f × (new ≡ after)
  field_made q f r item start before new was e own told after t = from (takes_apart schema ds (asked_of_var q.var) (asked_of_item q.item) start after (subst (λ (l : List Asked). Takes schema ds l start after) (asked_field q) t))
    where
      from : (at : List Read) × Takes schema ds (asked_of_var q.var) start at × Takes schema ds (asked_of_item q.item) at after → IsFieldOf schema ds q f × (new ≡ after)
      from (at, u, v) =
          let var = own at u in
          let given : IsItemOf schema ds q.item item × (new ≡ after) = at_ok r item (λ m. IsItemOf schema ds q.item m × (new ≡ after)) was (told after (subst (λ (l : List Read). Takes schema ds (asked_of_item q.item) l after) (sym var.1) v)) in
          ((var.0, subst (λ (o : Item). IsItemOf schema ds q.item o) (sym e) given.0), given.1)

  -- the parts of a list of nodes
  module _ (args : List QArg) (list : List QDir) (orders : List OrderKey) (filters : List Filter) (before first mid : List Read) (r : Result (List Filter) OutOfMemory)
      (e : orders ≡ orders_first before) (rest : first ≡ drop 1 before) (was : r ≡ Ok filters)
      (told : (after : List Read) → Takes schema ds (flat_map asked_of_dir list) first after → IfOk r (λ m. AreFiltersOf schema ds (filters_in list) m × (mid ≡ after))) where
    front_made : (asked : List Asked) (after : List Read) → Takes schema ds (of_args args ∷ (flat_map asked_of_dir list ++ asked)) before after → AreKeysOf ds args orders × AreFiltersOf schema ds (filters_in list) filters × Takes schema ds asked mid after
    front_made asked after t = from (takes_apart schema ds (flat_map asked_of_dir list) asked first after (subst (λ (l : List Read). Takes schema ds (flat_map asked_of_dir list ++ asked) l after) (sym rest) took.1))
      where
        took : AreKeysOf ds args (orders_first before) × Takes schema ds (flat_map asked_of_dir list ++ asked) (drop 1 before) after
        took = took_orders schema ds args (flat_map asked_of_dir list ++ asked) before after t

        from : (at : List Read) × Takes schema ds (flat_map asked_of_dir list) first at × Takes schema ds asked at after → AreKeysOf ds args orders × AreFiltersOf schema ds (filters_in list) filters × Takes schema ds asked mid after
        from (at, u, v) =
            let given : AreFiltersOf schema ds (filters_in list) filters × (mid ≡ at) = at_ok r filters (λ m. AreFiltersOf schema ds (filters_in list) m × (mid ≡ at)) was (told at u) in
            (subst (λ (l : List OrderKey). AreKeysOf ds args l) (sym e) took.0, given.0, subst (λ (l : List Read). Takes schema ds asked l after) (sym given.1) v)

    module _ (fields : List QField) (inner : List Field) (new : List Read) (s : Result (List Field) OutOfMemory) (made : s ≡ Ok inner)
        (braces : (after : List Read) → Takes schema ds (flat_map asked_of_field fields) mid after → IfOk s (λ m. AreFieldsOf schema ds fields m × (new ≡ after))) where
      listed_made : (after : List Read) → Takes schema ds (of_args args ∷ (flat_map asked_of_dir list ++ flat_map asked_of_field fields)) before after
          → AreKeysOf ds args orders × AreFiltersOf schema ds (filters_in list) filters × AreFieldsOf schema ds fields inner × (new ≡ after)
      listed_made after t =
          let front = front_made (flat_map asked_of_field fields) after t in
          let given : AreFieldsOf schema ds fields inner × (new ≡ after) = at_ok s inner (λ m. AreFieldsOf schema ds fields m × (new ≡ after)) made (braces after front.2) in
          (front.0, front.1, given.0, given.1)

      -- an edge with braces
      pub edge_made : (q : QItem) (own : QEdge) → q ≡ items.Edge own args list (Some fields) → (after : List Read) → Takes schema ds (asked_of_item q) before after → IsItemOf schema ds q (shown.Edge orders filters inner) × (new ≡ after)
      edge_made q own is_ after t =
          let all = listed_made after (subst (λ (l : List Asked). Takes schema ds l before after) (ap asked_of_item is_ ∙ asked_edge own args list fields) t) in
          (subst (λ (o : QItem). IsItemOf schema ds o (shown.Edge orders filters inner)) (sym is_) (edge own args list (Some fields) orders filters inner all.0 all.1 all.2), all.3)

    -- an edge without braces
    pub bare_made : (q : QItem) (own : QEdge) → q ≡ items.Edge own args list None → (after : List Read) → Takes schema ds (asked_of_item q) before after → IsItemOf schema ds q (shown.Edge orders filters []) × (mid ≡ after)
    bare_made q own is_ after t =
        let front = front_made [] after (subst (λ (l : List Asked). Takes schema ds l before after) (ap asked_of_item is_ ∙ asked_bare own args list) t) in
        (subst (λ (o : QItem). IsItemOf schema ds o (shown.Edge orders filters [])) (sym is_) (edge own args list None orders filters [] front.0 front.1 no_field), front.2)

  -- ---- blocks

  pub root_made : (q : QFunc) (f : Func) (before new : List Read) → f ≡ func_first before → new ≡ drop 1 before → (after : List Read) → Takes schema ds (asked_of_root (Some q)) before after → IsRootOf schema ds (Some q) (Some f) × (new ≡ after)
  root_made q f before new e rest after t =
      let took = took_func schema ds q [] before after t in
      (subst (λ (g : Func). IsFuncOf schema ds q g) (sym e) took.0, rest ∙ took.1)

  pub block_made : (b : QBlock) (k : Parts) (origin start before first mid new : List Read) (r : Result (List Filter) OutOfMemory) (s : Result (List Field) OutOfMemory)
      → ((after : List Read) → Takes schema ds (asked_of_var b.var) origin after → IsVarOf ds b.var k.var × (start ≡ after))
      → ((after : List Read) → Takes schema ds (asked_of_root b.func) start after → IsRootOf schema ds b.func k.root × (before ≡ after))
      → k.orders ≡ orders_first before → first ≡ drop 1 before → r ≡ Ok k.filters
      → ((after : List Read) → Takes schema ds (flat_map asked_of_dir b.dirs) first after → IfOk r (λ m. AreFiltersOf schema ds (filters_in b.dirs) m × (mid ≡ after)))
      → s ≡ Ok k.fields
      → ((after : List Read) → Takes schema ds (flat_map asked_of_field b.fields) mid after → IfOk s (λ m. AreFieldsOf schema ds b.fields m × (new ≡ after)))
      → (after : List Read) → Takes schema ds (asked_of_block b) origin after → IsBlockOf schema ds b k × (new ≡ after)
  block_made b k origin start before first mid new r s named own e rest was told made braces after t =
      from (takes_apart schema ds (asked_of_var b.var) (asked_of_root b.func ++ of_args b.args ∷ (flat_map asked_of_dir b.dirs ++ flat_map asked_of_field b.fields)) origin after (subst (λ (l : List Asked). Takes schema ds l origin after) (asked_block b) t))
    where
      behind : IsVarOf ds b.var k.var → (at : List Read) × Takes schema ds (asked_of_root b.func) start at × Takes schema ds (of_args b.args ∷ (flat_map asked_of_dir b.dirs ++ flat_map asked_of_field b.fields)) at after → IsBlockOf schema ds b k × (new ≡ after)
      behind var (at, u, v) =
          let root = own at u in
          let all = listed_made b.args b.dirs k.orders k.filters before first mid r e rest was told b.fields k.fields new s made braces after (subst (λ (l : List Read). Takes schema ds (of_args b.args ∷ (flat_map asked_of_dir b.dirs ++ flat_map asked_of_field b.fields)) l after) (sym root.1) v) in
          (record { var = var; root = root.0; orders = all.0; filters = all.1; fields = all.2 }, all.3)

      from : (at : List Read) × Takes schema ds (asked_of_var b.var) origin at × Takes schema ds (asked_of_root b.func ++ of_args b.args ∷ (flat_map asked_of_dir b.dirs ++ flat_map asked_of_field b.fields)) at after → IsBlockOf schema ds b k × (new ≡ after)
      from (at, u, v) =
          let var = named at u in
          behind var.0 (takes_apart schema ds (asked_of_root b.func) (of_args b.args ∷ (flat_map asked_of_dir b.dirs ++ flat_map asked_of_field b.fields)) start after (subst (λ (l : List Read). Takes schema ds (asked_of_root b.func ++ of_args b.args ∷ (flat_map asked_of_dir b.dirs ++ flat_map asked_of_field b.fields)) l after) (sym var.1) v))

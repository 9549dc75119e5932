-- What is read, place by place, and what checks before it make of its outcome.
use Rattle.std.proofs.Common.{◌≡◌, ℕ, suc, ◌+◌, ◌<◌, length, take, drop, get_or, Vec, Global, arith, Bool, true, false, List, [], ◌∷◌, ◌++◌, inl, inr, refl, sym, ap, ◌∙◌, subst}
use Rattle.std.specs.Prelude.{if◌then◌else◌, Option, Some, None, is_some, IfSome, IfOk, option_to_list, option_map, map, flat_map, slice_get, Result, Ok, Err}
use Rattle.std.specs.Option.{option_or}
use Rattle.std.specs.List.{list_all}
use Rattle.std.proofs.lemmas.Grind.{common_steps}
use Rattle.std.proofs.lemmas.List.{take-append-drop}
use Rattle.std.proofs.lemmas.List.Concat.{flat_map-append}
use Rattle.dg_values.specs.declared.kind.Kind.{Kind}
use Rattle.dg_values.specs.declared.memory.OutOfMemory.{OutOfMemory}
use Rattle.dg_values.specs.declared.value.Value.{Value}
use Rattle.dg_schema.specs.declared.definition.PredDef.{PredDef}
use Rattle.dg_parse.specs.declared.query.CmpOp.{CmpOp}
use Rattle.dg_parse.specs.declared.query.QFunc.{QFunc}
use Rattle.dg_parse.specs.declared.query.QFunc.TheVariants as funcs
use Rattle.dg_parse.specs.declared.query.QOf.{QOf}
use Rattle.dg_parse.specs.declared.query.Query.{Query}
use Rattle.dg_parse.specs.declared.upsert.Upsert.{Upsert}
use Rattle.dg_check.specs.declared.blocks.BlockNames.{BlockNames}
use Rattle.dg_check.specs.declared.fault.CheckFault.{CheckFault}
use Rattle.dg_check.specs.declared.fault.CheckFault.TheVariants as faults
use Rattle.dg_check.specs.declared.patterns.Refusal.{Refusal}
use Rattle.dg_check.specs.declared.parts.Func.{Func}
use Rattle.dg_check.specs.declared.parts.Func.TheVariants as made
use Rattle.dg_check.specs.declared.plan.Plan.{Plan}
use Rattle.dg_check.specs.declared.plan.Read.{Read}
use Rattle.dg_check.specs.declared.plan.Read.TheVariants as reads
use Rattle.dg_check.specs.declared.places.Place.{Place as Met}
use Rattle.dg_check.specs.Places.{Place, place_met, places_met, places_of_block, places_of_query}
use Rattle.dg_check.specs.Names.{is_name_in}
use Rattle.dg_check.specs.Variables.{Definition, definitions_in, names_for, Use, uses_in, uses_of_mutations}
use Rattle.dg_check.specs.Blocks.{names_of_block, names_of_blocks}
use Rattle.dg_check.specs.Cycles.{is_place_in, least_circular}
use Rattle.dg_check.specs.RunOrder.{are_ready, dependencies, order_of}
use Rattle.dg_check.specs.Patterns.{IsFrontOf}
use Rattle.dg_check.specs.Faults.{first_of, first_again, reads_as, kind_of_part, name_of_part, unknown, twice, unread, bad_literal_at, fault_of_variables, cycle, fault_behind, fault_among}
use Rattle.dg_check.specs.Plans.{Asked, of_func, of_name, asked_at, asked_in, literals_read, all_read, values_beside, of_part, place_of, IsReadFunc, AreReadOf}
use Rattle.dg_check.specs.Parts.{Takes, asked_of_block, AreBlocksOf}
use Rattle.dg_check.specs.Outcomes.{func_outcome, cmp_outcome, between_outcome, sum_outcome, IsPatternOutcome, IsPlaceOutcome, IsOutcome, fault_before, unless, IsQueryOutcome, IsUpsertOutcome, IsPlanOf}
use Rattle.dg_check.proofs.ReachLaws.{all_run}
use Rattle.dg_check.proofs.PartLaws.{flat_flat, all_known, known_front, none_unknown, first_none, last_none, none_again, names_alike, named_at, at_ok}

-- ---- lists that grow

none_behind : {X : Type 0} (xs : List X) → xs ++ [] ≡ xs
none_behind [] = refl
none_behind (x ∷ xs) = ap (λ l. x ∷ l) (none_behind xs)

grouped : {X : Type 0} (xs ys zs : List X) → (xs ++ ys) ++ zs ≡ xs ++ (ys ++ zs)
grouped [] ys zs = refl
grouped (x ∷ xs) ys zs = ap (λ l. x ∷ l) (grouped xs ys zs)

-- a list is its own front
pub front_itself : (list : List Refusal) → IsFrontOf list list
front_itself list = ([], sym (none_behind list))

pub front_onward : (a b c : List Refusal) → IsFrontOf a b → IsFrontOf b c → IsFrontOf a c
front_onward a b c (xs, e) (ys, f) = (xs ++ ys, f ∙ (ap (λ l. l ++ ys) e ∙ grouped a xs ys))

-- ---- where there is no kind, every text reads

pub all_kindless : (literals : List (List ℕ)) → list_all (reads_as None) literals ≡ true
all_kindless [] = refl
all_kindless (l ∷ literals) = all_kindless literals

nothing_read : (literals : List (List ℕ)) → literals_read None literals ≡ []
nothing_read [] = refl
nothing_read (l ∷ literals) = nothing_read literals

pub kindless : (literals : List (List ℕ)) → Some [] ≡ all_read None literals
kindless literals = λ i. if (sym (all_kindless literals) i) then Some (sym (nothing_read literals) i) else None

pub as_none : (kind : Kind) (literals : List (List ℕ)) (found : Option (Vec Value Global)) → is_some found ≡ list_all (reads_as (Some kind)) literals → found ≡ None → None ≡ all_read (Some kind) literals
as_none kind literals found e f = λ i. if ((sym (ap is_some f) ∙ e) i) then Some (literals_read (Some kind) literals) else None

pub as_some : (kind : Kind) (literals : List (List ℕ)) (found : Option (Vec Value Global)) (values : Vec Value Global) (list : List Value) → is_some found ≡ list_all (reads_as (Some kind)) literals → IfSome found (λ vs. vs.items ≡ literals_read (Some kind) literals) → found ≡ Some values → list ≡ values.items → Some list ≡ all_read (Some kind) literals
as_some kind literals None values list e f g h = absurd (cc)
as_some kind literals (Some own) values list e f g h = let same : own ≡ values = cc in (λ i. if (e i) then Some ((h ∙ (sym (ap (λ (v : Vec Value Global). v.items) same) ∙ f)) i) else None)

-- ---- what reading a function comes to

module _ (schema : List PredDef) (ds : List Definition) (list : List Refusal) where
  values_here : (part : QOf) (lits : List (List ℕ)) (q : QFunc) (make : List Value → Func) → IsReadFunc schema ds q (make (values_beside schema ds part lits))
      → IsPlaceOutcome schema ds list (unread schema ds part lits) (of_func q ∷ []) (func_outcome (name_of_part part) make (all_read (kind_of_part schema ds part) lits))
  values_here part lits q make h = by (list_all (reads_as (kind_of_part schema ds part)) lits)
    where
      by : (v : Bool) → IsPlaceOutcome schema ds list (if v then None else Some (faults.BadLiteral (name_of_part part))) (of_func q ∷ [])
          (func_outcome (name_of_part part) make (if v then Some (literals_read (kind_of_part schema ds part) lits) else None))
      by true = (refl, (h, tt))
      by false = inl refl

  pub cmp_place : (op : CmpOp) (part : QOf) (lits : List (List ℕ)) (r : Result (Result (Option Read) CheckFault) OutOfMemory) → IfOk r (λ out. out ≡ cmp_outcome schema ds op part lits)
      → IfOk r (IsPlaceOutcome schema ds list (unread schema ds part lits) (of_func (funcs.Cmp op part lits) ∷ []))
  cmp_place op part lits (Ok out) e = subst (IsPlaceOutcome schema ds list (unread schema ds part lits) (of_func (funcs.Cmp op part lits) ∷ [])) (sym e) (values_here part lits (funcs.Cmp op part lits) (made.Cmp op (of_part ds part) (kind_of_part schema ds part)) refl)
  cmp_place op part lits (Err fault) e = tt

  pub between_place : (part : QOf) (low high : List ℕ) (r : Result (Result (Option Read) CheckFault) OutOfMemory) → IfOk r (λ out. out ≡ between_outcome schema ds part low high)
      → IfOk r (IsPlaceOutcome schema ds list (unread schema ds part (low ∷ high ∷ [])) (of_func (funcs.Between part low high) ∷ []))
  between_place part low high (Ok out) e = subst (IsPlaceOutcome schema ds list (unread schema ds part (low ∷ high ∷ [])) (of_func (funcs.Between part low high) ∷ [])) (sym e) (values_here part (low ∷ high ∷ []) (funcs.Between part low high) (made.Between (of_part ds part) (kind_of_part schema ds part)) refl)
  between_place part low high (Err fault) e = tt

  pub pattern_place : (pred pattern : List ℕ) (fold : Bool) (r : Result (Result (Option Read) CheckFault) OutOfMemory) → IfOk r (IsPatternOutcome list pred pattern fold) → IfOk r (IsPlaceOutcome schema ds list None (of_func (funcs.Regexp pred pattern fold) ∷ []))
  pattern_place pred pattern fold (Ok (Ok None)) e = absurd e
  pattern_place pred pattern fold (Ok (Ok (Some (reads.Func f)))) e = (refl, (e, tt))
  pattern_place pred pattern fold (Ok (Ok (Some (reads.Orders keys)))) e = absurd e
  pattern_place pred pattern fold (Ok (Ok (Some (reads.Val place)))) e = absurd e
  pattern_place pred pattern fold (Ok (Err fault)) e = inr (record { pred = pred; pattern = pattern; fold = fold; sought = refl; listed = e.0; is = e.1 })
  pattern_place pred pattern fold (Err fault) e = tt

  pub sum_place : (x : List ℕ) (bad : Option CheckFault) (r : Result (Result (Option Read) CheckFault) OutOfMemory) → IfOk r (λ out. out ≡ sum_outcome ds x bad) → IfOk r (IsPlaceOutcome schema ds list bad (of_name x ∷ []))
  sum_place x None (Ok out) e = subst (IsPlaceOutcome schema ds list None (of_name x ∷ [])) (sym e) (refl, (refl, tt))
  sum_place x (Some fault) (Ok out) e = subst (IsPlaceOutcome schema ds list (Some fault) (of_name x ∷ [])) (sym e) (inl refl)
  sum_place x bad (Err fault) e = tt

-- ---- places before and behind

first_apart : {X : Type 0} (check : X → Option CheckFault) (xs ys : List X) → first_of check (xs ++ ys) ≡ option_or (first_of check xs) (first_of check ys)
first_apart check [] ys = refl
first_apart check (x ∷ xs) ys = by (check x) (first_apart check xs ys)
  where
    by : (o : Option CheckFault) → first_of check (xs ++ ys) ≡ option_or (first_of check xs) (first_of check ys) → option_or o (first_of check (xs ++ ys)) ≡ option_or (option_or o (first_of check xs)) (first_of check ys)
    by None e = e
    by (Some fault) e = refl

or_none : (o : Option CheckFault) → option_or o None ≡ o
or_none None = refl
or_none (Some fault) = refl

read_apart : (schema : List PredDef) (ds : List Definition) (fs gs : List Asked) (rs qs : List Read) → AreReadOf schema ds fs rs → AreReadOf schema ds gs qs → AreReadOf schema ds (fs ++ gs) (rs ++ qs)
read_apart schema ds [] gs [] qs e f = f
read_apart schema ds [] gs (r ∷ rs) qs e f = absurd e
read_apart schema ds (g ∷ fs) gs [] qs e f = absurd e
read_apart schema ds (g ∷ fs) gs (r ∷ rs) qs (e, rest) f = (e, read_apart schema ds fs gs rs qs rest f)

-- what is so far: no literal is bad, and all is read
pub record IsSoFar (schema : List PredDef) (ds : List Definition) (before : List Place) (read : List Read) : Type 0 where
  pub clean : first_of (bad_literal_at schema ds) before ≡ None
  pub are_read : AreReadOf schema ds (asked_in before) read

pub begun : (schema : List PredDef) (ds : List Definition) → IsSoFar schema ds [] []
begun schema ds = record { clean = refl; are_read = tt }

one : {X : Type 0} (x : X) → x ∷ [] ≡ [] ++ x ∷ []
one x = refl

-- one place more, of which this was read
pub onward : (schema : List PredDef) (ds : List Definition) (list : List Refusal) (before : List Place) (place : Place) (read : List Read) (found : Option Read) → IsSoFar schema ds before read
    → IsPlaceOutcome schema ds list (bad_literal_at schema ds place) (asked_at place) (Ok found) → IsSoFar schema ds (before ++ place ∷ []) (read ++ option_to_list found)
onward schema ds list before place read found so (none, are) = record {
  clean = first_apart (bad_literal_at schema ds) before (place ∷ []) ∙ ((λ i. option_or (so.clean i) (option_or (none i) None)));
  are_read = subst (λ (fs : List Asked). AreReadOf schema ds fs (read ++ option_to_list found)) (sym (flat_map-append asked_at before (place ∷ []) ∙ ap (λ fs. asked_in before ++ fs) (none_behind (asked_at place))))
      (read_apart schema ds (asked_in before) (asked_at place) read (option_to_list found) so.are_read are);
}

-- one place more at the end of those so far
took : (places : List Met) (i : ℕ) (place : Met) → i < length places → places_met (take (i + 1) places) ≡ places_met (take i places) ++ place_met (get_or places i place) ∷ []
took places i place e = grind (arith, common_steps)

met_apart : (xs ys : List Met) → places_met (xs ++ ys) ≡ places_met xs ++ places_met ys
met_apart [] ys = refl
met_apart (x ∷ xs) ys = ap (λ l. place_met x ∷ l) (met_apart xs ys)

behind_it : (places : List Met) (i : ℕ) (place : Met) → i < length places → drop i places ≡ get_or places i place ∷ drop (i + 1) places
behind_it places i place e = grind (arith, common_steps)

-- the places before it and behind it
around : (places : List Met) (i : ℕ) (place : Met) → i < length places → places_met places ≡ places_met (take i places) ++ place_met (get_or places i place) ∷ places_met (drop (i + 1) places)
around places i place e =
    sym (ap places_met (take-append-drop i places)) ∙ (met_apart (take i places) (drop i places) ∙ ap (λ l. places_met (take i places) ++ places_met l) (behind_it places i place e))

-- all places
pub ended : (schema : List PredDef) (ds : List Definition) (list : List Refusal) (places : List Place) (read : List Read) → IsSoFar schema ds places read → IsOutcome schema ds list places None (first_of (bad_literal_at schema ds) places) (Ok read)
ended schema ds list places read so = (so.clean, so.are_read)

-- a place with a fault
pub stopped : (schema : List PredDef) (ds : List Definition) (list : List Refusal) (places before : List Place) (place : Place) (after : List Place) (read : List Read) (fault : CheckFault) → places ≡ before ++ place ∷ after → IsSoFar schema ds before read
    → IsPlaceOutcome schema ds list (bad_literal_at schema ds place) (asked_at place) (Err fault) → IsOutcome schema ds list places None (first_of (bad_literal_at schema ds) places) (Err fault)
stopped schema ds list places before place after read fault stands so (inl bad) = inl (ap (first_of (bad_literal_at schema ds)) stands ∙ (first_apart (bad_literal_at schema ds) before (place ∷ after) ∙ (λ i. option_or (so.clean i) (option_or (bad i) (first_of (bad_literal_at schema ds) after)))))
stopped schema ds list places before place after read fault stands so (inr refused) = inr (refl, record { before = before; place = place; after = after; stands = stands; refused = refused; clean = so.clean; read = read; are_read = so.are_read })

-- ---- a turn of the loop over places

pub step_on : (schema : List PredDef) (ds : List Definition) (list : List Refusal) (places : List Met) (i : ℕ) (place : Met) (out more : List Read) (found : Option Read) → i < length places
    → IsSoFar schema ds (places_met (take i places)) out → IsPlaceOutcome schema ds list (bad_literal_at schema ds (place_met (get_or places i place))) (asked_at (place_met (get_or places i place))) (Ok found)
    → more ≡ out ++ option_to_list found → IsSoFar schema ds (places_met (take (i + 1) places)) more
step_on schema ds list places i place out more found lt so told e =
    subst (λ (l : List Place). IsSoFar schema ds l more) (sym (took places i place lt))
    (subst (λ (l : List Read). IsSoFar schema ds (places_met (take i places) ++ place_met (get_or places i place) ∷ []) l) (sym e)
    (onward schema ds list (places_met (take i places)) (place_met (get_or places i place)) out found so told))

pub stop_at : (schema : List PredDef) (ds : List Definition) (list : List Refusal) (places : List Met) (i : ℕ) (place : Met) (out : List Read) (fault : CheckFault) → i < length places
    → IsSoFar schema ds (places_met (take i places)) out → IsPlaceOutcome schema ds list (bad_literal_at schema ds (place_met (get_or places i place))) (asked_at (place_met (get_or places i place))) (Err fault)
    → IsOutcome schema ds list (places_met places) None (first_of (bad_literal_at schema ds) (places_met places)) (Err fault)
stop_at schema ds list places i place out fault lt so told =
    stopped schema ds list (places_met places) (places_met (take i places)) (place_met (get_or places i place)) (places_met (drop (i + 1) places)) out fault (around places i place lt) so told

-- ---- checks before and behind

module _ (schema : List PredDef) (ds : List Definition) (list : List Refusal) (places : List Place) where
  -- a check before finds nothing
  pub behind : (first before whole : Option CheckFault) (out : Result (List Read) CheckFault) → None ≡ first → IsOutcome schema ds list places before whole out → IsOutcome schema ds list places (option_or first before) (option_or first whole) out
  behind first before whole out e told = subst (λ (o : Option CheckFault). IsOutcome schema ds list places (option_or o before) (option_or o whole) out) e told

  -- the last of those before literals
  pub behind_last : (first whole : Option CheckFault) (out : Result (List Read) CheckFault) → None ≡ first → IsOutcome schema ds list places None whole out → IsOutcome schema ds list places first (option_or first whole) out
  behind_last first whole out e told = subst (λ (o : Option CheckFault). IsOutcome schema ds list places o (option_or o whole) out) e told

  -- a check before finds a fault
  pub found_first : (first before whole : Option CheckFault) (fault : CheckFault) → Some fault ≡ first → IsOutcome schema ds list places before (option_or first whole) (Err fault)
  found_first first before whole fault e = inl (λ i. option_or (sym e i) whole)

  -- checks behind, where reading has found a fault
  pub before_pages : (lits pages : Option CheckFault) (fault : CheckFault) → IsOutcome schema ds list places None lits (Err fault) → IsOutcome schema ds list places None (option_or lits pages) (Err fault)
  before_pages lits pages fault (inl e) = inl (λ i. option_or (e i) pages)
  before_pages lits pages fault (inr e) = inr e

  -- and where it has found none
  pub with_pages : (lits pages : Option CheckFault) (read : List Read) (out : Result (List Read) CheckFault) → IsOutcome schema ds list places None lits (Ok read) → out ≡ unless pages read → IsOutcome schema ds list places None (option_or lits pages) out
  with_pages lits pages read out (none, are) e = subst (λ (o : Result (List Read) CheckFault). IsOutcome schema ds list places None (option_or lits pages) o) (sym e) (by pages)
    where
      by : (o : Option CheckFault) → IsOutcome schema ds list places None (option_or lits o) (unless o read)
      by None = ((λ i. option_or (none i) None), are)
      by (Some fault) = inl (λ i. option_or (none i) (Some fault))

-- ---- plans

same_length : {X Y : Type 0} (f : X → Y) (xs : List X) → length (map f xs) ≡ length xs
same_length f [] = refl
same_length f (x ∷ xs) = ap suc (same_length f xs)

second_none : (a b c : Option CheckFault) → option_or a (option_or b c) ≡ None → b ≡ None
second_none None None c e = refl
second_none None (Some fault) c e = absurd (cc)
second_none (Some fault) b c e = absurd (cc)

none_least : (o : Option (List ℕ)) → option_map faults.VariableCycle o ≡ None → o ≡ None
none_least None e = refl
none_least (Some x) e = absurd (cc)

-- where no check finds a fault, there is no cycle
pub acyclic : (schema : List PredDef) (blocks : List BlockNames) (places : List Place) (uses : List Use) → fault_among schema blocks places uses ≡ None → cycle blocks ≡ None
acyclic schema blocks places uses e = second_none (fault_of_variables (definitions_in schema places) uses) (cycle blocks) (fault_behind schema (definitions_in schema places) places) e

pub planned : (schema : List PredDef) (query : Query) (plan : Plan) (read : List Read) (more : List Use) → fault_among schema (names_of_blocks query.blocks) (places_of_query query) (uses_in (places_of_query query) ++ more) ≡ None
    → AreReadOf schema (definitions_in schema (places_of_query query)) (asked_in (places_of_query query)) read
    → plan.query ≡ query → plan.vars ≡ names_for false (definitions_in [] (places_of_query query))
    → (Takes schema (definitions_in schema (places_of_query query)) (flat_map asked_of_block query.blocks) read [] → AreBlocksOf schema (definitions_in schema (places_of_query query)) query.blocks plan.parts)
    → are_ready (dependencies (names_of_blocks query.blocks)) [] plan.order ≡ true → ((at : ℕ) → is_place_in plan.order at ≡ is_place_in (order_of query) at) → IsPlanOf schema query plan
planned schema query plan read more none are same vars parts ready there = record {
  same = same;
  ready = ready;
  all = λ at lt. there at ∙ all_run (names_of_blocks query.blocks) (none_least (least_circular (names_of_blocks query.blocks)) (acyclic schema (names_of_blocks query.blocks) places (uses_in places ++ more) none)) at (subst (λ (n : ℕ). at < n) (sym (same_length (λ block. names_of_block (places_of_block block)) query.blocks)) lt);
  vars = own;
  once = subst (λ (l : List (List ℕ)). first_again [] l ≡ None) (sym own) (none_again ds (last_none (first_of (unknown ds) (uses_in places ++ more)) (twice ds) fine));
  named = λ x e. subst (λ (l : List (List ℕ)). slice_get l (place_of ds x) ≡ Some x) (sym own) (named_at (names_for false ds) x (ap (λ l. is_name_in l x) (sym own) ∙ e));
  parts = parts (subst (λ (l : List Asked). Takes schema ds l read []) (flat_flat asked_at places_of_block query.blocks) (all_known schema ds places read (λ x e. e) are (known_front ds (uses_in places) more (none_unknown ds (uses_in places ++ more) (first_none (first_of (unknown ds) (uses_in places ++ more)) (twice ds) fine)))));
}
  where
    places : List Place
    places = places_of_query query

    ds : List Definition
    ds = definitions_in schema (places_of_query query)

    fine : fault_of_variables ds (uses_in places ++ more) ≡ None
    fine = first_none (fault_of_variables ds (uses_in places ++ more)) (option_or (cycle (names_of_blocks query.blocks)) (fault_behind schema ds places)) none

    own : plan.vars ≡ names_for false ds
    own = vars ∙ sym (names_alike schema places)

-- ---- the parts of a query, by equations

pub at_parts : (schema : List PredDef) (list : List Refusal) (r : Result (Result (List Read) CheckFault) OutOfMemory) (bs blocks : List BlockNames) (ps places : List Place) (us uses : List Use) → bs ≡ blocks → ps ≡ places → us ≡ uses
    → IfOk r (IsOutcome schema (definitions_in schema ps) list ps (fault_before schema bs ps us) (fault_among schema bs ps us))
    → IfOk r (IsOutcome schema (definitions_in schema places) list places (fault_before schema blocks places uses) (fault_among schema blocks places uses))
at_parts schema list r bs blocks ps places us uses e f g told =
    subst (λ (l : List BlockNames). IfOk r (IsOutcome schema (definitions_in schema places) list places (fault_before schema l places uses) (fault_among schema l places uses))) e
    (subst (λ (l : List Place). IfOk r (IsOutcome schema (definitions_in schema l) list l (fault_before schema bs l uses) (fault_among schema bs l uses))) f
    (subst (λ (l : List Use). IfOk r (IsOutcome schema (definitions_in schema ps) list ps (fault_before schema bs ps l) (fault_among schema bs ps l))) g told))

-- what holds of a part of what a call answers, of which the part is told
pub at_part : {X Y : Type 0} (P : Y → Type 0) (part : X → Y) (r : Result X OutOfMemory) (told : Y) → IfOk r (λ x. part x ≡ told) → P told → IfOk r (λ x. P (part x))
at_part P part (Ok x) told e p = subst P (sym e) p
at_part P part (Err fault) told e p = tt

-- the plan of a query in which nothing is wrong
pub planned_query : (schema : List PredDef) (query : Query) (list : List Refusal) (out : Result (List Read) CheckFault) (r : Result Plan OutOfMemory) (plan : Plan) (read : List Read) → IsQueryOutcome schema query list out → out ≡ Ok read → r ≡ Ok plan
    → plan.query ≡ query → plan.vars ≡ names_for false (definitions_in [] (places_of_query query))
    → ((s : List PredDef) (ds : List Definition) → Takes s ds (flat_map asked_of_block query.blocks) read [] → IfOk r (λ p. AreBlocksOf s ds query.blocks p.parts))
    → are_ready (dependencies (names_of_blocks query.blocks)) [] plan.order ≡ true → ((at : ℕ) → is_place_in plan.order at ≡ is_place_in (order_of query) at) → IsPlanOf schema query plan
planned_query schema query list out r plan read told is_ was same vars parts ready there =
    let outcome : IsQueryOutcome schema query list (Ok read) = subst (IsQueryOutcome schema query list) is_ told in
    let whole : fault_among schema (names_of_blocks query.blocks) (places_of_query query) (uses_in (places_of_query query) ++ []) ≡ None = ap (fault_among schema (names_of_blocks query.blocks) (places_of_query query)) (none_behind (uses_in (places_of_query query))) ∙ outcome.0 in
    planned schema query plan read [] whole outcome.1 same vars (λ t. at_ok r plan (λ p. AreBlocksOf schema (definitions_in schema (places_of_query query)) query.blocks p.parts) was (parts schema (definitions_in schema (places_of_query query)) t)) ready there

-- and that of an upsert block's query
pub planned_upsert : (schema : List PredDef) (upsert : Upsert) (list : List Refusal) (out : Result (List Read) CheckFault) (r : Result Plan OutOfMemory) (plan : Plan) (read : List Read) → IsUpsertOutcome schema upsert list out → out ≡ Ok read → r ≡ Ok plan
    → plan.query ≡ upsert.query → plan.vars ≡ names_for false (definitions_in [] (places_of_query upsert.query))
    → ((s : List PredDef) (ds : List Definition) → Takes s ds (flat_map asked_of_block upsert.query.blocks) read [] → IfOk r (λ p. AreBlocksOf s ds upsert.query.blocks p.parts))
    → are_ready (dependencies (names_of_blocks upsert.query.blocks)) [] plan.order ≡ true → ((at : ℕ) → is_place_in plan.order at ≡ is_place_in (order_of upsert.query) at) → IsPlanOf schema upsert.query plan
planned_upsert schema upsert list out r plan read told is_ was same vars parts ready there =
    let outcome : IsUpsertOutcome schema upsert list (Ok read) = subst (IsUpsertOutcome schema upsert list) is_ told in
    planned schema upsert.query plan read (uses_of_mutations upsert.muts) outcome.0 outcome.1 same vars (λ t. at_ok r plan (λ p. AreBlocksOf schema (definitions_in schema (places_of_query upsert.query)) upsert.query.blocks p.parts) was (parts schema (definitions_in schema (places_of_query upsert.query)) t)) ready there

-- The objects of the subjects that are changed, before changes and after some.
use Rattle.std.proofs.Common.{Result, Ok, Err, IfOk, ◌≡◌, ℕ, ◌+◌, ◌<◌, Bool, true, false, cond, List, [], ◌∷◌, ◌++◌, length, get_or, take, fold, map, refl, ap, sym, ◌∙◌, arith, append_assoc}
use Rattle.std.specs.Prelude.{OnOk, sum_by}
use Rattle.std.specs.List.{AllByRecursion}
use Rattle.std.proofs.Math.ListN.{set}
use Rattle.std.proofs.lemmas.List.{take_more}
use Rattle.std.proofs.lemmas.List.Sums.{fold-append, sum_by-cons}
use Rattle.std.proofs.lemmas.Bool.{both_ways}
use Rattle.std.specs.Ordering.{is_eq}
use Rattle.dg_values.specs.Ascending.{Ascends, has}
use Rattle.dg_values.specs.Order.{posting_cmp}
use Rattle.dg_values.proofs.OrderLaws.{posting_order}
use Rattle.dg_sets.proofs.Sets.{is_itself, one_list, from_each, at, has_more}
use Rattle.dg_delta.specs.declared.op.Op.{Op}
use Rattle.dg_delta.specs.Ops.{changes_between}
use Rattle.dg_schema.specs.declared.definition.PredDef.{PredDef}
use Rattle.dg_graph.specs.declared.change.Triple.{Triple}
use Rattle.dg_graph.specs.declared.change.Change.{Change}
use Rattle.dg_graph.specs.Graphs.{triple_cmp, is_of_subject, objects, after_changes, IsLawful}
use Rattle.dg_graph.specs.Changes.{changed, own_objects_after, objects_after}
use Rattle.dg_graph.proofs.GraphLaws.{same_subject}
use Rattle.dg_graph.proofs.ObjectLaws.{objects_are, objects_ascend, objects_after_all}
use Rattle.dg_keys.specs.declared.key.Key.{Key}
use Rattle.dg_keys.specs.declared.key.Key.TheVariants as keys
use Rattle.dg_keys.specs.declared.record.Part.{Part}
use Rattle.dg_keys.specs.Keys.{key_cmp}
use Rattle.dg_keys.specs.KeyOrder.{key_order}
use Rattle.dg_zero.specs.Listings.{listing}
use Rattle.dg_edges.specs.Deltas.{and_part, parts_at, gains, data_key, data_keys}
use Rattle.dg_edges.specs.Lists.{Lists, objects_at, reads_at, unchanged_at, changed_at, lists_after}
use Rattle.dg_edges.proofs.EdgeLaws.{listed_by, listing_ascends}
use Rattle.dg_edges.proofs.AtKeys.{others_stay, set_at}

-- ---- what holds of results

pub ok_with : {T E : Type 0} (r : Result T E) (P Q : T → Type 0) → ((v : T) → P v → Q v) → IfOk r P → IfOk r Q
ok_with (Ok v) P Q f p = f v p
ok_with (Err e) P Q f p = p

pub ok_all_with : {T E : Type 0} (r : Result T E) (P Q R S : T → Type 0) → ((v : T) → P v → Q v → R v → S v) → IfOk r P → IfOk r Q → IfOk r R → IfOk r S
ok_all_with (Ok v) P Q R S f p q w = f v p q w
ok_all_with (Err e) P Q R S f p q w = p

pub on_ok_with : {T E : Type 0} (r : Result T E) (P Q : Type 0) → (P → Q) → OnOk r P → OnOk r Q
on_ok_with (Ok v) P Q f p = f p
on_ok_with (Err e) P Q f p = p

pub on_ok_all : {T E : Type 0} (r : Result T E) {P : Type 0} → P → OnOk r P
on_ok_all (Ok v) p = p
on_ok_all (Err e) p = tt

-- ---- how many lists are read

-- the key is of a subject's objects, which are one list
abbrev IsOneRead : Key → Type 0
IsOneRead key = reads_at key ≡ 1

all_data : (cs : List Change) → AllByRecursion IsOneRead (map data_key cs)
all_data [] = tt
all_data (c ∷ cs) = (refl, all_data cs)

pub all_one : (ks : List Key) → AllByRecursion IsOneRead ks → sum_by reads_at ks ≡ length ks
all_one [] a = refl
all_one (k ∷ ks) a = let rest = all_one ks a.1 in let first = sum_by-cons reads_at k ks in omega (arith, a.0, rest, first)

-- as many as subjects are changed
pub all_read : (cs : List Change) → sum_by reads_at (data_keys cs) ≡ length (data_keys cs)
all_read cs =
    all_one (data_keys cs)
    (from_each key_cmp key_order IsOneRead (data_keys cs)
    (λ key h. at key_cmp key_order IsOneRead (map data_key cs) key (all_data cs) (sym (has_more key_cmp key_order [] (map data_key cs) key) ∙ h)))

-- ---- a change leaves the objects at other keys

other_key : (schema : List PredDef) (c : Change) (k : Key) (l : Lists) → is_eq (key_cmp k (data_key c)) ≡ false → changed_at schema c k l ≡ l
other_key schema c (keys.Data p s) l e = by (is_of_subject p s (changed c)) refl
  where
    by : (v : Bool) → is_of_subject p s (changed c) ≡ v → (let r : Lists = record { before = l.before; after = cond v (own_objects_after schema l.after c) l.after } in r) ≡ l
    by true own =
        let b = same_subject p s (changed c) own in
        let one = is_itself key_cmp key_order (keys.Data p s) in
        let up : is_eq (key_cmp (keys.Data p s) (data_key c)) ≡ is_eq (key_cmp (keys.Data p s) (keys.Data p s)) = λ i. is_eq (key_cmp (keys.Data p s) (keys.Data (b.0 i) (b.1 i))) in
        absurd (both_ways (is_eq (key_cmp (keys.Data p s) (data_key c))) e (up ∙ one))
    by false own = refl
other_key schema c (keys.Index p t) l e = refl
other_key schema c (keys.Reverse p o) l e = refl
other_key schema c (keys.Count p n) l e = refl
other_key schema c (keys.RCount p n) l e = refl

pub other_keys : (schema : List PredDef) (c : Change) (f : Key → Lists) (ks : List Key) → has key_cmp ks (data_key c) ≡ false → map f ks ≡ map (λ k. changed_at schema c k (f k)) ks
other_keys schema c f ks h = others_stay (changed_at schema c) (data_key c) (other_key schema c) f ks h

-- the objects at the place of a change's key
pub at_place : (schema : List PredDef) (c : Change) (f : Key → Lists) (ks : List Key) (place : ℕ) → Ascends key_cmp ks → place < length ks → get_or ks place (data_key c) ≡ data_key c → set (map f ks) place (changed_at schema c (data_key c) (f (data_key c))) ≡ map (λ k. changed_at schema c k (f k)) ks
at_place schema c f ks place a lt is = set_at (changed_at schema c) (data_key c) (other_key schema c) f ks place a lt is

-- ---- the objects after changes

pub one_change_more : (schema : List PredDef) (graph : List Triple) (cs : List Change) (i : ℕ) (c : Change) (ks : List Key) → i < length cs → get_or cs i c ≡ c → map (λ k. changed_at schema c k (lists_after schema graph (take i cs) k)) ks ≡ map (lists_after schema graph (take (i + 1) cs)) ks
one_change_more schema graph cs i c ks lt is =
    let more : take (i + 1) cs ≡ take i cs ++ c ∷ [] = take_more cs i c lt ∙ λ j. take i cs ++ is j ∷ [] in
    (λ j. map (λ k. sym (fold-append (λ l d. changed_at schema d k l) (unchanged_at graph k) (take i cs) (c ∷ [])) j) ks)
    ∙ λ j. map (lists_after schema graph (sym more j)) ks

after_from : (schema : List PredDef) (p : List ℕ) (s : ℕ) (cs : List Change) (l : Lists) → fold (λ l c. changed_at schema c (keys.Data p s) l) l cs ≡ record { before = l.before; after = fold (objects_after schema p s) l.after cs }
after_from schema p s [] l = refl
after_from schema p s (c ∷ cs) l = after_from schema p s cs (changed_at schema c (keys.Data p s) l)

none_from : (schema : List PredDef) (k : Key) (cs : List Change) (l : Lists) → ((c : Change) (m : Lists) → changed_at schema c k m ≡ m) → fold (λ l c. changed_at schema c k l) l cs ≡ l
none_from schema k [] l f = refl
none_from schema k (c ∷ cs) l f = none_from schema k cs (changed_at schema c k l) f ∙ f c l

-- a subject's list is its objects
data_listing : (schema : List PredDef) (graph : List Triple) (p : List ℕ) (s : ℕ) → IsLawful schema graph → objects graph p s ≡ listing schema graph (keys.Data p s)
data_listing schema graph p s l =
    sym (one_list posting_cmp posting_order (listing schema graph (keys.Data p s)) (objects graph p s) (listing_ascends schema graph (keys.Data p s) l.ascend) (objects_ascend graph p s l.ascend) (λ o. listed_by schema graph p s o l ∙ sym (objects_are graph p s o)))

-- so what its objects gain and lose its list does
pub data_gains : (schema : List PredDef) (g h : List Triple) (p : List ℕ) (s : ℕ) → IsLawful schema g → IsLawful schema h → changes_between (objects g p s) (objects h p s) ≡ gains schema g h (keys.Data p s)
data_gains schema g h p s l m = λ i. changes_between (data_listing schema g p s l i) (data_listing schema h p s m i)

-- the objects before changes and after them are those of the two graphs
pub before_are : (schema : List PredDef) (graph : List Triple) (cs : List Change) (k : Key) → (lists_after schema graph cs k).before ≡ objects_at graph k
before_are schema graph cs (keys.Data p s) = ap (λ (l : Lists). l.before) (after_from schema p s cs (unchanged_at graph (keys.Data p s)))
before_are schema graph cs (keys.Index p t) = ap (λ (l : Lists). l.before) (none_from schema (keys.Index p t) cs (unchanged_at graph (keys.Index p t)) (λ c m. refl))
before_are schema graph cs (keys.Reverse p o) = ap (λ (l : Lists). l.before) (none_from schema (keys.Reverse p o) cs (unchanged_at graph (keys.Reverse p o)) (λ c m. refl))
before_are schema graph cs (keys.Count p n) = ap (λ (l : Lists). l.before) (none_from schema (keys.Count p n) cs (unchanged_at graph (keys.Count p n)) (λ c m. refl))
before_are schema graph cs (keys.RCount p n) = ap (λ (l : Lists). l.before) (none_from schema (keys.RCount p n) cs (unchanged_at graph (keys.RCount p n)) (λ c m. refl))

pub after_are : (schema : List PredDef) (graph : List Triple) (cs : List Change) (k : Key) → Ascends triple_cmp graph → (lists_after schema graph cs k).after ≡ objects_at (after_changes schema graph cs) k
after_are schema graph cs (keys.Data p s) a = ap (λ (l : Lists). l.after) (after_from schema p s cs (unchanged_at graph (keys.Data p s))) ∙ sym (objects_after_all schema graph cs p s a)
after_are schema graph cs (keys.Index p t) a = ap (λ (l : Lists). l.after) (none_from schema (keys.Index p t) cs (unchanged_at graph (keys.Index p t)) (λ c m. refl))
after_are schema graph cs (keys.Reverse p o) a = ap (λ (l : Lists). l.after) (none_from schema (keys.Reverse p o) cs (unchanged_at graph (keys.Reverse p o)) (λ c m. refl))
after_are schema graph cs (keys.Count p n) a = ap (λ (l : Lists). l.after) (none_from schema (keys.Count p n) cs (unchanged_at graph (keys.Count p n)) (λ c m. refl))
after_are schema graph cs (keys.RCount p n) a = ap (λ (l : Lists). l.after) (none_from schema (keys.RCount p n) cs (unchanged_at graph (keys.RCount p n)) (λ c m. refl))

-- the objects of a key ascend
pub objects_at_ascend : (graph : List Triple) (k : Key) → Ascends triple_cmp graph → Ascends posting_cmp (objects_at graph k)
objects_at_ascend graph (keys.Data p s) a = objects_ascend graph p s a
objects_at_ascend graph (keys.Index p t) a = tt
objects_at_ascend graph (keys.Reverse p o) a = tt
objects_at_ascend graph (keys.Count p n) a = tt
objects_at_ascend graph (keys.RCount p n) a = tt

-- ---- one part more

and_part_append : (k : Key) (os : List Op) (parts : List Part) → and_part k os parts ≡ and_part k os [] ++ parts
and_part_append k [] parts = refl
and_part_append k (op ∷ os) parts = refl

parts_push : (f : Key → List Op) (ks : List Key) (k : Key) → parts_at f (ks ++ k ∷ []) ≡ parts_at f ks ++ and_part k (f k) []
parts_push f [] k = refl
parts_push f (l ∷ ks) k =
    and_part_append l (f l) (parts_at f (ks ++ k ∷ []))
    ∙ ((λ i. and_part l (f l) [] ++ parts_push f ks k i)
    ∙ (sym (append_assoc (and_part l (f l) []) (parts_at f ks) (and_part k (f k) []))
    ∙ λ i. sym (and_part_append l (f l) (parts_at f ks)) i ++ and_part k (f k) []))

pub parts_more : (f : Key → List Op) (ks : List Key) (i : ℕ) (k : Key) (parts more : List Part) → i < length ks → get_or ks i k ≡ k → parts ≡ parts_at f (take i ks) → more ≡ parts ++ and_part k (f k) [] → more ≡ parts_at f (take (i + 1) ks)
parts_more f ks i k parts more lt is so e =
    e ∙ ((λ j. so j ++ and_part k (f k) []) ∙ (sym (parts_push f (take i ks) k) ∙ λ j. parts_at f (sym (take_more ks i k lt ∙ λ m. take i ks ++ is m ∷ []) j)))

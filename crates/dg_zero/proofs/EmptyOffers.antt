-- Offers that change nothing are sound, and so is an alter over the empty history.
use Rattle.std.proofs.Common.{◌≡◌, ◌≢◌, ℕ, ◌+◌, Bool, true, false, ◌++◌, List, [], ◌∷◌, Option, Some, None, refl, ap, sym, subst, ◌∙◌, arith}
use Rattle.std.specs.Prelude.{◌==◌, ◌&&◌, ◌||◌}
use Rattle.std.specs.List.{AllByRecursion}
use Rattle.std.proofs.lemmas.Grind.{common_steps}
use Rattle.dg_values.specs.Ascending.{Ascends, has}
use Rattle.dg_values.specs.Order.{posting_cmp}
use Rattle.dg_values.specs.declared.value.Posting.{Posting}
use Rattle.dg_values.proofs.OrderLaws.{posting_order}
use Rattle.dg_sets.proofs.Sets.{from_each}
use Rattle.dg_delta.specs.Ops.{missing, changes_between}
use Rattle.dg_schema.specs.declared.definition.PredDef.{PredDef}
use Rattle.dg_schema.specs.Definitions.{definition_of, with_definitions}
use Rattle.dg_keys.specs.declared.conflict.ConflictKey.{ConflictKey}
use Rattle.dg_keys.specs.declared.key.Key.{Key}
use Rattle.dg_keys.specs.declared.key.Key.TheVariants.{Data, Index, Reverse, Count, RCount}
use Rattle.dg_keys.specs.Keys.{pred_of}
use Rattle.dg_keys.specs.Conflicts.{conflict_cmp}
use Rattle.dg_zero.specs.declared.entry.Entry.{Entry}
use Rattle.dg_zero.specs.Legal.{IsLegal}
use Rattle.dg_zero.specs.Listings.{listing, listing_by}
use Rattle.dg_zero.specs.Offers.{IsSound}
use Rattle.dg_zero.specs.declared.entry.Event.{Event}
use Rattle.dg_zero.specs.declared.entry.Event.TheVariants.{Begin}
use Rattle.dg_zero.specs.Counters.{next, Started, active, is_active_of}
use Rattle.dg_zero.specs.States.{Zero, KeepKinds, AreAlterParts, and_entry, and_then}
use Rattle.dg_zero.proofs.Histories.{active_push, next_push}
use Rattle.dg_zero.proofs.LawsOfHistories.{starts_stay, world_push, present_is_last}
use Rattle.dg_zero.specs.Worlds.{World, schema, schema_at, graph_at}
use Rattle.dg_zero.proofs.LawfulGraphs.{graphs_are_lawful}

none_missing : (have want : List Posting) → AllByRecursion (λ y. has posting_cmp have y ≡ true) want → missing have want ≡ []
none_missing have [] a = refl
none_missing have (y ∷ want) a = rw a.0 (none_missing have want a.1)

-- from a list to itself nothing is done
pub no_changes : (xs : List Posting) → changes_between xs xs ≡ []
no_changes xs =
    let none : missing xs xs ≡ [] = none_missing xs xs (from_each posting_cmp posting_order (λ y. has posting_cmp xs y ≡ true) xs (λ u h. h)) in
    rw none refl

pub empty_offer : (n : ℕ) (h : List Entry) (start : ℕ) (preds : List (List ℕ)) (keys : List ConflictKey) → IsLegal n h → preds ≢ [] → Ascends conflict_cmp keys → IsSound (schema_at h start) (graph_at h start []) preds keys []
empty_offer n h start preds keys legal some ascend = record {
  some = some;
  lawful = graphs_are_lawful n h start legal;
  parts_are = record { parts_are = record { ascend = tt; each = tt }; exact = λ key. sym (no_changes (listing (schema_at h start) (graph_at h start []) key)) };
  ascend = ascend;
  keys_named = tt;
  preds_named = tt;
}

-- nothing is listed where there is no triple
no_triples : (def : Option PredDef) (key : Key) → listing_by def [] key ≡ []
no_triples None key = refl
no_triples (Some def) (Data p s) = refl
no_triples (Some def) (Index p t) = grind (arith, common_steps)
no_triples (Some def) (Reverse p o) = grind (arith, common_steps)
no_triples (Some def) (Count p n) = grind (arith, common_steps)
no_triples (Some def) (RCount p n) = grind (arith, common_steps)

-- the first alter changes no list
pub first_parts : (newer : List PredDef) → AreAlterParts [] newer []
first_parts newer = record {
  parts_are = record { ascend = tt; each = tt };
  exact = λ key. let after = no_triples (definition_of (with_definitions [] newer) (pred_of key)) key in rw after refl;
}

pub first_kinds : (newer : List PredDef) → KeepKinds [] newer
first_kinds [] = tt
first_kinds (def ∷ newer) = (tt, first_kinds newer)

begun_schema : (n : ℕ) (h : List Entry) (author start : ℕ) → IsLegal n (and_entry h author (Begin start)) → start ≡ next h → schema_at (and_entry h author (Begin start)) start ≡ schema h
begun_schema n h author start l is =
    let e : Entry = record { author = author; event = Begin start } in
    let grown : next (h ++ e ∷ []) ≡ next h + 1 = next_push h e in
    ap (λ (w : World). w.schema) (present_is_last n (h ++ e ∷ []) start l (omega arith) ∙ world_push h e)

-- the schema at a start that was just drawn is the present one before it
pub start_schema : (before after : Zero) (author start : ℕ) (declared : List PredDef) → after ≡ and_then before author (Begin (next before.history)) → IsLegal after.groups after.history → start ≡ next before.history → declared ≡ schema before.history → declared ≡ schema_at after.history start
start_schema before after author start declared is legal drawn same =
    let there : IsLegal before.groups (and_entry before.history author (Begin (next before.history))) = subst (λ (z : Zero). IsLegal z.groups z.history) is legal in
    same
    ∙ (sym (begun_schema before.groups before.history author (next before.history) there refl)
    ∙ λ i. schema_at (sym is i).history (sym drawn i))

later : (b c : Bool) → c ≡ true → (b || c) ≡ true
later true c e = refl
later false c e = e

last_active : (starts : List Started) (start author : ℕ) → is_active_of (starts ++ (record { start = start; author = author }) ∷ []) start author ≡ true
last_active [] start author =
    let same : (start == start) ≡ true = grind (arith, common_steps) in
    let own : (author == author) ≡ true = grind (arith, common_steps) in
    rw (same, own) refl
last_active (s ∷ starts) start author = later ((s.start == start) && (s.author == author)) (is_active_of (starts ++ (record { start = start; author = author }) ∷ []) start author) (last_active starts start author)

-- a start that was just drawn is active
pub begun_active : (h : List Entry) (author start : ℕ) → is_active_of (active (and_entry h author (Begin start))) start author ≡ true
begun_active h author start = rw active_push (last_active (active h) start author)

-- and stays so through an entry of another
pub still_active : (before begun after : Zero) (author start other : ℕ) → other ≢ author → begun ≡ and_then before author (Begin start) → (event : Event) × (after ≡ and_then begun other event) → IsLegal after.groups after.history → is_active_of (active after.history) start author ≡ true
still_active before begun after author start other apart b e legal =
    let there : is_active_of (active begun.history) start author ≡ true = subst (λ (z : Zero). is_active_of (active z.history) start author ≡ true) (sym b) (begun_active before.history author start) in
    let longer : IsLegal begun.groups (and_entry begun.history other e.0) = subst (λ (z : Zero). IsLegal z.groups z.history) e.1 legal in
    subst (λ (z : Zero). is_active_of (active z.history) start author ≡ true) (sym e.1) (starts_stay begun.groups begun.history ((record { author = other; event = e.0 }) ∷ []) author start longer (apart, tt) there)

-- Any order of the blocks of a query in which each stands behind those that it depends on makes the same variables known.
use Rattle.std.proofs.Common.{◌≡◌, ℕ, zero, suc, ◌<◌, Bool, true, false, List, [], ◌∷◌, ◌++◌, map, flat_map, length, refl, sym, ap, ◌∙◌, subst, arith}
use Rattle.std.specs.Prelude.{Option, Some, None, ◌||◌, ◌==◌, cond, fold, option_map, slice_get}
use Rattle.std.specs.List.{list_any}
use Rattle.std.proofs.lemmas.List.{length-map}
use Rattle.std.proofs.lemmas.List.Folds.{list_any-append}
use Rattle.std.proofs.lemmas.Option.{slice_get-map}
use Rattle.dg_values.specs.Order.{text_cmp, same_text}
use Rattle.dg_sets.proofs.MadeOrders.{text_order}
use Rattle.dg_sets.proofs.Sets.{is_itself, is_one}
use Rattle.dg_schema.specs.declared.definition.PredDef.{PredDef}
use Rattle.dg_graph.specs.declared.change.Triple.{Triple}
use Rattle.dg_parse.specs.declared.query.QBlock.{QBlock}
use Rattle.dg_check.specs.declared.blocks.BlockNames.{BlockNames}
use Rattle.dg_check.specs.declared.vars.Variable.{Variable}
use Rattle.dg_check.specs.Blocks.{names_of_block, names_of_blocks}
use Rattle.dg_check.specs.Cycles.{is_place_in, uses_of, uses_at, definers}
use Rattle.dg_check.specs.Faults.{first_again}
use Rattle.dg_check.specs.Names.{is_name_in}
use Rattle.dg_check.specs.Places.{places_of_block}
use Rattle.dg_check.specs.Plans.{place_of}
use Rattle.dg_check.specs.RunOrder.{dependencies, deps_at, first_ready, run_more, run_order, are_ready}
use Rattle.dg_check.specs.Variables.{Definition, names_for}
use Rattle.dg_check.proofs.CycleLaws.{use_needed}
use Rattle.dg_check.proofs.OrderLaws.{place_more, ready_from, same_blocks}
use Rattle.dg_check.proofs.PartLaws.{named_at, names_alike}
use Rattle.dg_check.proofs.ReachLaws.{or_left, or_right}
use Rattle.dg_level.specs.Given.{unknown, Known, block_gives, with_known, run_at, none_known, run_in_order}
use Rattle.dg_level.specs.Laws.{AnyOrderServes}
use Rattle.dg_level.specs.Meaning.{defined_in}
use Rattle.dg_level.proofs.LocalFields.{block_local}
use Rattle.dg_level.proofs.SetPlaces.{named_in, named_both, places_in, block_sets}
use Rattle.dg_level.proofs.KnownLaws.{neither_right, refuted, both, has_at, place}
use Rattle.dg_level.proofs.OrderFree.{run_one, AreTied, same_end}

-- ---- names that stand once

-- no name stands behind itself
abbrev AreOnce : List (List ℕ) → Type 0
AreOnce [] = Unit {0}
AreOnce (x ∷ names) = (is_name_in names x ≡ false) × AreOnce names

-- none stands behind those before either
abbrev AreNew : List (List ℕ) → List (List ℕ) → Type 0
AreNew before names = (x : List ℕ) → is_name_in before x ≡ true → is_name_in names x ≡ false

in_more : (before : List (List ℕ)) (y x : List ℕ) → is_name_in (before ++ y ∷ []) x ≡ (is_name_in before x || same_text x y)
in_more before y x = list_any-append (same_text x) before (y ∷ []) ∙ ap (λ b. is_name_in before x || b) (or_none (same_text x y))
  where
    or_none : (b : Bool) → (b || false) ≡ b
    or_none true = refl
    or_none false = refl

itself : (x : List ℕ) → same_text x x ≡ true
itself x = is_itself text_cmp text_order x

once_behind : (before names : List (List ℕ)) → first_again before names ≡ None → AreOnce names × AreNew before names
once_behind before [] e = (tt, λ x f. refl)
once_behind before (y ∷ names) e = by (is_name_in before y) refl e (once_behind (before ++ y ∷ []) names)
  where
    from : is_name_in before y ≡ false → AreOnce names × AreNew (before ++ y ∷ []) names → AreOnce (y ∷ names) × AreNew before (y ∷ names)
    from out rest = (
      (rest.1 y (in_more before y y ∙ or_right (is_name_in before y) (same_text y y) (itself y)), rest.0),
      λ x f. refuted (same_text x y || is_name_in names x) (λ g. apart x f g (same_text x y) refl),
    )
      where
        apart : (x : List ℕ) → is_name_in before x ≡ true → (same_text x y || is_name_in names x) ≡ true → (b : Bool) → same_text x y ≡ b → ⊥
        apart x f g true h = both f (ap (is_name_in before) (is_one text_cmp text_order x y h) ∙ out)
        apart x f g false h = both (sym (ap (λ b. b || is_name_in names x) h) ∙ g) (rest.1 x (in_more before y x ∙ or_left (is_name_in before x) (same_text x y) f))

    by : (b : Bool) → is_name_in before y ≡ b → cond b (Some y) (first_again (before ++ y ∷ []) names) ≡ None → (first_again (before ++ y ∷ []) names ≡ None → AreOnce names × AreNew (before ++ y ∷ []) names) → AreOnce (y ∷ names) × AreNew before (y ∷ names)
    by true out f rest = absurd (cc)
    by false out f rest = from out (rest f)

once_back : (xs ys : List (List ℕ)) → AreOnce (xs ++ ys) → AreOnce ys
once_back [] ys a = a
once_back (x ∷ xs) ys a = once_back xs ys a.1

once_apart : (xs ys : List (List ℕ)) (x : List ℕ) → AreOnce (xs ++ ys) → is_name_in xs x ≡ true → is_name_in ys x ≡ false
once_apart [] ys x a e = absurd (cc)
once_apart (y ∷ xs) ys x a e = by (same_text x y) refl e (once_apart xs ys x a.1)
  where
    by : (b : Bool) → same_text x y ≡ b → (b || is_name_in xs x) ≡ true → (is_name_in xs x ≡ true → is_name_in ys x ≡ false) → is_name_in ys x ≡ false
    by true f g rest = neither_right (is_name_in xs x) (is_name_in ys x) (sym (list_any-append (same_text x) xs ys) ∙ (ap (is_name_in (xs ++ ys)) (is_one text_cmp text_order x y f) ∙ a.0))
    by false f g rest = rest g

-- such a name stands at one place
one_place : (names : List (List ℕ)) (i j : ℕ) (x : List ℕ) → AreOnce names → slice_get names i ≡ Some x → slice_get names j ≡ Some x → i ≡ j
one_place [] i j x a e f = absurd (cc)
one_place (y ∷ names) zero zero x a e f = refl
one_place (y ∷ names) zero (suc j) x a e f = let same : y ≡ x = cc in absurd (both (has_at names j x f) (ap (is_name_in names) (sym same) ∙ a.0))
one_place (y ∷ names) (suc i) zero x a e f = let same : y ≡ x = cc in absurd (both (has_at names i x e) (ap (is_name_in names) (sym same) ∙ a.0))
one_place (y ∷ names) (suc i) (suc j) x a e f = ap suc (one_place names i j x a.1 e f)

place_is : (names : List (List ℕ)) (i : ℕ) (x : List ℕ) → AreOnce names → slice_get names i ≡ Some x → place names x ≡ i
place_is names i x a e = one_place names (place names x) i x a (named_at names x (has_at names i x e)) e

-- ---- the names of blocks

-- the names that a block defines
abbrev defines : QBlock → List (List ℕ)
defines block = (names_of_block (places_of_block block)).defined

-- the same of a block that may be there
abbrev defined_by : Option QBlock → List (List ℕ)
defined_by None = []
defined_by (Some block) = defines block

-- the names that it uses
abbrev used_by : Option QBlock → List (List ℕ)
used_by None = []
used_by (Some block) = (names_of_block (places_of_block block)).used

all_named : (blocks : List QBlock) → named_in (flat_map places_of_block blocks) ≡ flat_map defines blocks
all_named [] = refl
all_named (block ∷ blocks) = named_both (places_of_block block) (flat_map places_of_block blocks) ∙ ap (λ l. defines block ++ l) (all_named blocks)

in_all : (blocks : List QBlock) (at : ℕ) (x : List ℕ) → is_name_in (defined_by (slice_get blocks at)) x ≡ true → is_name_in (flat_map defines blocks) x ≡ true
in_all [] at x e = absurd (cc)
in_all (block ∷ blocks) zero x e = list_any-append (same_text x) (defines block) (flat_map defines blocks) ∙ or_left (is_name_in (defines block) x) (is_name_in (flat_map defines blocks) x) e
in_all (block ∷ blocks) (suc at) x e =
    list_any-append (same_text x) (defines block) (flat_map defines blocks) ∙ or_right (is_name_in (defines block) x) (is_name_in (flat_map defines blocks) x) (in_all blocks at x e)

from_all : (blocks : List QBlock) (x : List ℕ) → is_name_in (flat_map defines blocks) x ≡ true → (at : ℕ) × (at < length blocks) × (is_name_in (defined_by (slice_get blocks at)) x ≡ true)
from_all [] x e = absurd (cc)
from_all (block ∷ blocks) x e = by (is_name_in (defines block) x) refl (sym (list_any-append (same_text x) (defines block) (flat_map defines blocks)) ∙ e) (from_all blocks x)
  where
    later : (at : ℕ) × (at < length blocks) × (is_name_in (defined_by (slice_get blocks at)) x ≡ true) → (at : ℕ) × (at < length (block ∷ blocks)) × (is_name_in (defined_by (slice_get (block ∷ blocks) at)) x ≡ true)
    later (at, lt, f) = (suc at, omega (arith, lt), f)

    by : (b : Bool) → is_name_in (defines block) x ≡ b → (b || is_name_in (flat_map defines blocks) x) ≡ true
        → (is_name_in (flat_map defines blocks) x ≡ true → (at : ℕ) × (at < length blocks) × (is_name_in (defined_by (slice_get blocks at)) x ≡ true))
        → (at : ℕ) × (at < length (block ∷ blocks)) × (is_name_in (defined_by (slice_get (block ∷ blocks) at)) x ≡ true)
    by true f g rest = (0, omega arith, f)
    by false f g rest = later (rest g)

apart_all : (blocks : List QBlock) (at other : ℕ) (x : List ℕ) → AreOnce (flat_map defines blocks) → is_name_in (defined_by (slice_get blocks at)) x ≡ true → is_name_in (defined_by (slice_get blocks other)) x ≡ true → at ≡ other
apart_all [] at other x a e f = absurd (cc)
apart_all (block ∷ blocks) zero zero x a e f = refl
apart_all (block ∷ blocks) zero (suc other) x a e f = absurd (both (in_all blocks other x f) (once_apart (defines block) (flat_map defines blocks) x a e))
apart_all (block ∷ blocks) (suc at) zero x a e f = absurd (both (in_all blocks at x e) (once_apart (defines block) (flat_map defines blocks) x a f))
apart_all (block ∷ blocks) (suc at) (suc other) x a e f = ap suc (apart_all blocks at other x (once_back (defines block) (flat_map defines blocks) a) e f)

-- a name that is used and defined
any_named : (used defined : List (List ℕ)) (x : List ℕ) → is_name_in used x ≡ true → is_name_in defined x ≡ true → list_any (is_name_in defined) used ≡ true
any_named [] defined x e f = absurd (cc)
any_named (y ∷ used) defined x e f = by (same_text x y) refl e (λ g. any_named used defined x g f)
  where
    by : (b : Bool) → same_text x y ≡ b → (b || is_name_in used x) ≡ true → (is_name_in used x ≡ true → list_any (is_name_in defined) used ≡ true) → (is_name_in defined y || list_any (is_name_in defined) used) ≡ true
    by true g h rest = or_left (is_name_in defined y) (list_any (is_name_in defined) used) (ap (is_name_in defined) (sym (is_one text_cmp text_order x y g)) ∙ f)
    by false g h rest = or_right (is_name_in defined y) (list_any (is_name_in defined) used) (rest h)

-- a block that uses what another one defines depends on it
needed_by : (blocks : List QBlock) (at other : ℕ) (x : List ℕ) → is_name_in (used_by (slice_get blocks at)) x ≡ true → is_name_in (defined_by (slice_get blocks other)) x ≡ true
    → is_place_in (deps_at (dependencies (names_of_blocks blocks)) at) other ≡ true
needed_by blocks at other x e f = by (slice_get blocks at) refl e (slice_get blocks other) refl f
  where
    names_at : (i : ℕ) (block : QBlock) → slice_get blocks i ≡ Some block → slice_get (names_of_blocks blocks) i ≡ Some (names_of_block (places_of_block block))
    names_at i block g = slice_get-map (λ (b : QBlock). names_of_block (places_of_block b)) blocks i ∙ ap (option_map (λ (b : QBlock). names_of_block (places_of_block b))) g

    by : (o : Option QBlock) → slice_get blocks at ≡ o → is_name_in (used_by o) x ≡ true → (p : Option QBlock) → slice_get blocks other ≡ p → is_name_in (defined_by p) x ≡ true
        → is_place_in (deps_at (dependencies (names_of_blocks blocks)) at) other ≡ true
    by None g h p k l = absurd (cc)
    by (Some user) g h None k l = absurd (cc)
    by (Some user) g h (Some own) k l =
        let uses : uses_at (names_of_blocks blocks) at (names_of_block (places_of_block own)) ≡ true =
        ap (λ (o : Option BlockNames). elim o [ None ↦ false | Some one ↦ uses_of one (names_of_block (places_of_block own)) ]) (names_at at user g) ∙ any_named (used_by (Some user)) (defines own) x h l in
        (use_needed (names_of_blocks blocks) at other (names_of_block (places_of_block own)) (names_at other own k) uses).0

-- as many have dependencies as there are blocks
many_deps : (blocks : List QBlock) → length (dependencies (names_of_blocks blocks)) ≡ length blocks
many_deps blocks = length-map (names_of_blocks blocks) (λ block. flat_map (definers (names_of_blocks blocks)) block.used) ∙ length-map blocks (λ block. names_of_block (places_of_block block))

module _ (schema : List PredDef) (graph : List Triple) (ds : List Definition) (blocks : List QBlock) where
  -- what a block makes known that may be there
  abbrev given_by : List Variable → Option QBlock → List Known
  given_by vars None = []
  given_by vars (Some block) = block_gives schema graph ds vars block

  abbrev gives : List Variable → ℕ → List Known
  gives vars at = given_by vars (slice_get blocks at)

  ran_is : (vars : List Variable) (at : ℕ) → run_at schema graph ds blocks vars at ≡ run_one gives vars at
  ran_is vars at = by (slice_get blocks at)
    where
      by : (o : Option QBlock) → elim o [ None ↦ vars | Some block ↦ fold with_known vars (block_gives schema graph ds vars block) ] ≡ fold with_known vars (given_by vars o)
      by None = refl
      by (Some block) = refl

  runs_are : (order : List ℕ) → run_in_order schema graph ds blocks order ≡ fold (run_one gives) (none_known ds) order
  runs_are order = λ i. fold (λ vars at. ran_is vars at i) (none_known ds) order

  given_sets : (vars : List Variable) (o : Option QBlock) → places_in (given_by vars o) ≡ map (place_of ds) (defined_by o)
  given_sets vars None = refl
  given_sets vars (Some block) = block_sets ds schema graph vars block

  given_local : (vars others : List Variable) (o : Option QBlock) → ((x : List ℕ) → is_name_in (used_by o) x ≡ true → slice_get vars (place_of ds x) ≡ slice_get others (place_of ds x)) → given_by vars o ≡ given_by others o
  given_local vars others None h = refl
  given_local vars others (Some block) h = block_local schema graph ds vars others block h

  -- what blocks make known is tied to their names, of which none stands twice
  tied : names_for false ds ≡ flat_map defines blocks → AreOnce (names_for false ds)
      → AreTied (names_for false ds) (dependencies (names_of_blocks blocks)) (λ at. defined_by (slice_get blocks at)) (λ at. used_by (slice_get blocks at)) gives
  tied names_are once = record {
    sets = λ vars at. given_sets vars (slice_get blocks at);
    local = λ vars others at h. given_local vars others (slice_get blocks at) h;
    known = λ at x e. ap (λ l. is_name_in l x) names_are ∙ in_all blocks at x e;
    found = λ x e. within x (from_all blocks x (ap (λ l. is_name_in l x) (sym names_are) ∙ e));
    apart = λ at other x e f. apart_all blocks at other x (subst AreOnce names_are once) e f;
    once = λ at x e. place_is (names_for false ds) at x once e;
    needs = λ at other x e f. needed_by blocks at other x e f;
  }
    where
      within : (x : List ℕ) → (at : ℕ) × (at < length blocks) × (is_name_in (defined_by (slice_get blocks at)) x ≡ true)
          → (at : ℕ) × (at < length (dependencies (names_of_blocks blocks))) × (is_name_in (defined_by (slice_get blocks at)) x ≡ true)
      within x (at, lt, e) = (at, omega (arith, lt, many_deps blocks), e)

-- ---- the order of the definition

-- turns keep what ran
keeps : (turns deps : List (List ℕ)) (ran : List ℕ) (at : ℕ) → is_place_in ran at ≡ true → is_place_in (run_more turns deps ran) at ≡ true
keeps [] deps ran at e = e
keeps (turn ∷ turns) deps ran at e = by (first_ready ran 0 deps) (λ next. keeps turns deps (ran ++ next ∷ []) at (place_more ran next at ∙ or_left (is_place_in ran at) (next == at) e))
  where
    by : (o : Option ℕ) → ((next : ℕ) → is_place_in (run_more turns deps (ran ++ next ∷ [])) at ≡ true) → is_place_in (elim o [ None ↦ ran | Some next ↦ run_more turns deps (ran ++ next ∷ []) ]) at ≡ true
    by None rest = e
    by (Some next) rest = rest next

-- where all blocks can run, all do
runs_all : (deps : List (List ℕ)) (order : List ℕ) (at : ℕ) → are_ready deps [] order ≡ true → is_place_in order at ≡ true → is_place_in (run_order deps) at ≡ true
runs_all deps order at ready e = sym (same_blocks deps order ready at) ∙ keeps deps deps order at e

pub any_order : AnyOrderServes
any_order schema graph query order ready all once =
    let ds = defined_in schema query in
    let deps = dependencies (names_of_blocks query.blocks) in
    let names_are : names_for false ds ≡ flat_map defines query.blocks = names_alike schema (flat_map places_of_block query.blocks) ∙ all_named query.blocks in
    let many : length (none_known ds) ≡ length (names_for false ds) = length-map ds (λ d. unknown) ∙ sym (length-map ds (λ d. d.name)) in
    let complete : (at : ℕ) → at < length deps → is_place_in order at ≡ true = λ at lt. all at (omega (arith, lt, many_deps query.blocks)) in
    let same = same_end (tied schema graph ds query.blocks names_are (once_behind [] (names_for false ds) once).0) (none_known ds) order (run_order deps) many ready (ready_from deps deps [] refl) complete (λ at lt. runs_all deps order at ready (complete at lt)) in
    runs_are schema graph ds query.blocks order ∙ (same ∙ sym (runs_are schema graph ds query.blocks (run_order deps)))

-- When an alter goes through.
use Rattle.std.proofs.Common.{◌≡◌, ℕ, ◌≤◌, Bool, true, false, cond, not, List, [], ◌∷◌, Option, Some, None, refl, arith}
use Rattle.std.specs.Prelude.{◌==◌, ◌&&◌, ◌||◌, find, option_map}
use Rattle.std.specs.Bool.{beq}
use Rattle.std.specs.List.{AllByRecursion, list_any}
use Rattle.std.specs.Option.{option_map_or}
use Rattle.std.proofs.lemmas.Grind.{common_steps}
use Rattle.dg_schema.specs.declared.definition.PredDef.{PredDef}
use Rattle.dg_schema.specs.Definitions.{definition_of}
use Rattle.dg_graph.specs.declared.change.Triple.{Triple}
use Rattle.dg_graph.specs.Graphs.{is_of}
use Rattle.dg_oracle.specs.Commits as oracle
use Rattle.dg_zero.specs.declared.tablets.Phase.TheVariants.{Idle}
use Rattle.dg_zero.specs.declared.tablets.Place.{Place}
use Rattle.dg_zero.specs.Places.{is_held}
use Rattle.dg_zero.specs.States.{first_held}
use Rattle.dg_zero.specs.Legal.{KeepsKind, kind_rank}
use Rattle.dg_zero.proofs.AlterKeeps.{none_first_held}
use Rattle.dg_zero.proofs.Refusals.{not_held}
use Rattle.dg_node.specs.Alters.{is_other_kind, has_data, first_with_data}

-- ---- where no data stands in the way, kinds are kept

not_both : (x y : Bool) → (x && y) ≡ false → y ≡ true → x ≡ false
not_both true y e h = absurd (cc)
not_both false y e h = refl

not_false : (x : Bool) → not x ≡ false → x ≡ true
not_false true e = refl
not_false false e = absurd (cc)

both_true : (x y : Bool) → (x && y) ≡ true → (x ≡ true) × (y ≡ true)
both_true true y e = (refl, e)
both_true false y e = absurd (cc)

same_bools : (x y : Bool) → beq x y ≡ true → x ≡ y
same_bools true true e = refl
same_bools false false e = refl
same_bools true false e = absurd (cc)
same_bools false true e = absurd (cc)

keeps_one : (declared : List PredDef) (graph : List Triple) (d : PredDef) → has_data declared graph d ≡ false → KeepsKind graph d (definition_of declared d.name)
keeps_one declared graph d e = by (definition_of declared d.name) e
  where
    by : (o : Option PredDef) → (option_map_or (is_other_kind d) o false && list_any (is_of d.name) graph) ≡ false → KeepsKind graph d o
    by None h = tt
    by (Some old) h = λ there.
        let same = not_false ((kind_rank d.kind == kind_rank old.kind) && beq d.list old.list) (not_both (not ((kind_rank d.kind == kind_rank old.kind) && beq d.list old.list)) (list_any (is_of d.name) graph) h there) in
        let two = both_true (kind_rank d.kind == kind_rank old.kind) (beq d.list old.list) same in
        let ranks : kind_rank d.kind ≡ kind_rank old.kind = let equal : (kind_rank d.kind == kind_rank old.kind) ≡ true = two.0 in grind (arith, common_steps) in
        (ranks, same_bools d.list old.list two.1)

pub kinds_kept : (declared : List PredDef) (graph : List Triple) (newer : List PredDef) → first_with_data declared graph newer ≡ None → AllByRecursion (λ d. KeepsKind graph d (definition_of declared d.name)) newer
kinds_kept declared graph [] e = tt
kinds_kept declared graph (d ∷ newer) e = by (has_data declared graph d) refl e (kinds_kept declared graph newer)
  where
    by : (v : Bool) → has_data declared graph d ≡ v → option_map (λ (f : PredDef). f.name) (cond v (Some d) (find (has_data declared graph) newer)) ≡ None → (first_with_data declared graph newer ≡ None → AllByRecursion (λ f. KeepsKind graph f (definition_of declared f.name)) newer) → AllByRecursion (λ f. KeepsKind graph f (definition_of declared f.name)) (d ∷ newer)
    by true is h more = absurd (cc)
    by false is h more = (keeps_one declared graph d is, more h)

-- ---- the least of ascending starts

not_among : (start low : ℕ) (xs : List ℕ) → start ≤ low → oracle.Ascends low xs → oracle.is_active xs start ≡ false
not_among start low [] le a = refl
not_among start low (x ∷ xs) le a =
    let other : (x == start) ≡ false = grind (arith, common_steps, le, a.0) in
    rw other (not_among start x xs (omega (arith, le, a.0)) a.1)

pub first_is : (start x low : ℕ) (xs : List ℕ) → start ≤ x → oracle.Ascends low (x ∷ xs) → oracle.is_active (x ∷ xs) start ≡ true → x ≡ start
first_is start x low xs le a found = by (x == start) refl found
  where
    by : (v : Bool) → (x == start) ≡ v → (v || oracle.is_active xs start) ≡ true → x ≡ start
    by true e h = grind (arith, common_steps)
    by false e h = let no : oracle.is_active xs start ≡ false = not_among start x xs le a.1 in absurd (cc)

-- ---- where every tablet is at rest, no definition's is held

pub held_nowhere : (ts : List Place) (newer : List PredDef) → AllByRecursion (λ (t : Place). t.phase ≡ Idle) ts → first_held ts newer ≡ None
held_nowhere ts newer idle = none_first_held ts newer (each newer)
  where
    each : (ds : List PredDef) → AllByRecursion (λ (d : PredDef). is_held ts d.name ≡ false) ds
    each [] = tt
    each (d ∷ ds) = (not_held ts d.name idle, each ds)

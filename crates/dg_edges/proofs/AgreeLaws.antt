-- Changes that lead to a graph, and changes apart from a triple.
use Rattle.std.proofs.Common.{◌≡◌, Bool, true, false, cond, not, List, [], ◌∷◌, Some, None, map, refl, ap, sym, ◌∙◌, inl, inr}
use Rattle.std.specs.Prelude.{◌&&◌, ◌||◌}
use Rattle.std.specs.List.{AllByRecursion}
use mathlib.Core.Logic.{◌⊎◌}
use Rattle.std.proofs.lemmas.Bool.{both_ways, or_parts}
use Rattle.std.specs.Ordering.{is_eq}
use Rattle.dg_values.specs.Ascending.{Ascends, has}
use Rattle.dg_sets.proofs.Sets.{is_one, is_itself, eq_turn}
use Rattle.dg_schema.specs.declared.definition.PredDef.{PredDef}
use Rattle.dg_graph.specs.declared.change.Triple.{Triple}
use Rattle.dg_graph.specs.declared.change.Change.{Change}
use Rattle.dg_graph.specs.declared.change.Change.TheVariants.{Set, Del}
use Rattle.dg_graph.specs.Graphs.{triple_cmp, is_of_subject, after_changes}
use Rattle.dg_schema.specs.Definitions.{is_single}
use Rattle.dg_graph.specs.Changes.{has_triple, is_cleared, there_after, there_after_all, changed}
use Rattle.dg_graph.proofs.GraphLaws.{triple_order, IsSingle, same_subject, known_by_triples, changes_by_triple, changes_ascend}
use Rattle.dg_keys.specs.declared.conflict.ConflictKey.TheVariants as conflicts
use Rattle.dg_keys.specs.Conflicts.{conflict_cmp}
use Rattle.dg_keys.specs.KeyOrder.{conflict_order}
use Rattle.dg_edges.specs.Deltas.{data_conflict, data_conflicts}

-- ---- changes that lead to a graph

-- what is set is in the graph, and what is deleted isn't
abbrev pub Leads : List Triple → Change → Type 0
Leads goal (Set t) = has_triple goal t ≡ true
Leads goal (Del t) = has_triple goal t ≡ false

stays_right : (schema : List PredDef) (goal : List Triple) (u : Triple) (there : Bool) (change : Change) → IsSingle schema goal → Leads goal change → there ≡ has_triple goal u → there_after schema u there change ≡ has_triple goal u
stays_right schema goal u there (Del t) s l e = by (is_eq (triple_cmp u t)) refl
  where
    by : (v : Bool) → is_eq (triple_cmp u t) ≡ v → (not v && there) ≡ has_triple goal u
    by true p = sym (ap (has_triple goal) (is_one triple_cmp triple_order u t p) ∙ l)
    by false p = e
stays_right schema goal u there (Set t) s l e = by (is_eq (triple_cmp t u)) (is_single schema t.p) (is_of_subject t.p t.s u) refl refl refl
  where
    gone : (v : Bool) → has_triple goal u ≡ v → is_single schema t.p ≡ true → is_of_subject t.p t.s u ≡ true → is_eq (triple_cmp t u) ≡ false → false ≡ v
    gone true q x y z = let same = s.one t u l q x y in let tie = is_itself triple_cmp triple_order t in let up = ap (λ (w : Triple). is_eq (triple_cmp t w)) same in absurd (cc)
    gone false q x y z = refl

    by : (a b c : Bool) → is_eq (triple_cmp t u) ≡ a → is_single schema t.p ≡ b → is_of_subject t.p t.s u ≡ c → (a || (not (b && c) && there)) ≡ has_triple goal u
    by true b c x y z = sym l ∙ ap (has_triple goal) (is_one triple_cmp triple_order t u x)
    by false true true x y z = gone (has_triple goal u) refl y z x
    by false true false x y z = e
    by false false c x y z = e

set_right : (schema : List PredDef) (goal : List Triple) (u : Triple) (there : Bool) (change : Change) → Leads goal change → is_eq (triple_cmp (changed change) u) ≡ true → there_after schema u there change ≡ has_triple goal u
set_right schema goal u there (Set t) l e = by (is_eq (triple_cmp t u)) e
  where
    by : (v : Bool) → v ≡ true → (v || (not (is_cleared schema t u) && there)) ≡ has_triple goal u
    by true p = sym l ∙ ap (has_triple goal) (is_one triple_cmp triple_order t u e)
    by false p = absurd (cc)
set_right schema goal u there (Del t) l e = by (is_eq (triple_cmp u t)) (eq_turn triple_cmp triple_order u t ∙ e)
  where
    by : (v : Bool) → v ≡ true → (not v && there) ≡ has_triple goal u
    by true p = sym l ∙ ap (has_triple goal) (is_one triple_cmp triple_order t u e)
    by false p = absurd (cc)

all_right : (schema : List PredDef) (goal : List Triple) (u : Triple) (there : Bool) (changes : List Change) → IsSingle schema goal → AllByRecursion (Leads goal) changes → there ≡ has_triple goal u → there_after_all schema u there changes ≡ has_triple goal u
all_right schema goal u there [] s l e = e
all_right schema goal u there (c ∷ cs) s l e = all_right schema goal u (there_after schema u there c) cs s l.1 (stays_right schema goal u there c s l.0 e)

all_set : (schema : List PredDef) (goal : List Triple) (u : Triple) (there : Bool) (changes : List Change) → IsSingle schema goal → AllByRecursion (Leads goal) changes → has triple_cmp (map changed changes) u ≡ true → there_after_all schema u there changes ≡ has_triple goal u
all_set schema goal u there [] s l h = absurd (cc)
all_set schema goal u there (c ∷ cs) s l h =
    by (is_eq (triple_cmp (changed c) u)) refl h (λ k. all_set schema goal u (there_after schema u there c) cs s l.1 k)
  where
    by : (v : Bool) → is_eq (triple_cmp (changed c) u) ≡ v → (v || has triple_cmp (map changed cs) u) ≡ true → (has triple_cmp (map changed cs) u ≡ true → there_after_all schema u (there_after schema u there c) cs ≡ has_triple goal u) → there_after_all schema u (there_after schema u there c) cs ≡ has_triple goal u
    by true e h rest = all_right schema goal u (there_after schema u there c) cs s l.1 (set_right schema goal u there c l.0 e)
    by false e h rest = rest h

pub same_bools : (a b : Bool) → (a ≡ b) ⊎ (a ≡ b → ⊥)
same_bools true true = inl refl
same_bools true false = inr (λ e. cc)
same_bools false true = inr (λ e. cc)
same_bools false false = inl refl

-- changes that lead to a graph, and speak of each triple that differs, make it
pub lead_there : (schema : List PredDef) (graph goal : List Triple) (changes : List Change) → Ascends triple_cmp graph → Ascends triple_cmp goal → IsSingle schema goal → AllByRecursion (Leads goal) changes → ((u : Triple) → (has_triple graph u ≡ has_triple goal u → ⊥) → has triple_cmp (map changed changes) u ≡ true) → after_changes schema graph changes ≡ goal
lead_there schema graph goal changes a b s l covers =
    known_by_triples (after_changes schema graph changes) goal (changes_ascend schema graph changes a) b (λ u. changes_by_triple schema graph changes u ∙ by u (same_bools (has_triple graph u) (has_triple goal u)))
  where
    by : (u : Triple) → (has_triple graph u ≡ has_triple goal u) ⊎ (has_triple graph u ≡ has_triple goal u → ⊥) → there_after_all schema u (has_triple graph u) changes ≡ has_triple goal u
    by u (inl e) = all_right schema goal u (has_triple graph u) changes s l e
    by u (inr ne) = all_set schema goal u (has_triple graph u) changes s l (covers u ne)

-- ---- changes apart from a triple

-- a change with another key than a triple's leaves the triple
pub apart : (schema : List PredDef) (u : Triple) (there : Bool) (change : Change) → is_eq (conflict_cmp (data_conflict schema (changed change)) (data_conflict schema u)) ≡ false → there_after schema u there change ≡ there
apart schema u there (Set t) e = by (is_eq (triple_cmp t u)) (is_single schema t.p) (is_of_subject t.p t.s u) refl refl refl
  where
    keys_same : t ≡ u → ⊥
    keys_same same = let one = is_itself conflict_cmp conflict_order (data_conflict schema t) in let up = ap (λ (w : Triple). is_eq (conflict_cmp (data_conflict schema t) (data_conflict schema w))) same in cc

    keys_single : is_single schema t.p ≡ true → is_of_subject t.p t.s u ≡ true → ⊥
    keys_single x y =
        let both = same_subject t.p t.s u y in
        let other : is_single schema u.p ≡ true = ap (is_single schema) both.0 ∙ x in
        let mine : data_conflict schema t ≡ conflicts.Data t.p t.s None = λ i. conflicts.Data t.p t.s (cond (x i) None (Some t.o)) in
        let its : data_conflict schema u ≡ conflicts.Data t.p t.s None = λ i. conflicts.Data (both.0 i) (both.1 i) (cond (other i) None (Some u.o)) in
        let one = is_itself conflict_cmp conflict_order (conflicts.Data t.p t.s None) in
        let up : is_eq (conflict_cmp (data_conflict schema t) (data_conflict schema u)) ≡ is_eq (conflict_cmp (conflicts.Data t.p t.s None) (conflicts.Data t.p t.s None)) = λ i. is_eq (conflict_cmp (mine i) (its i)) in
        both_ways (is_eq (conflict_cmp (data_conflict schema t) (data_conflict schema u))) e (up ∙ one)

    by : (a b c : Bool) → is_eq (triple_cmp t u) ≡ a → is_single schema t.p ≡ b → is_of_subject t.p t.s u ≡ c → (a || (not (b && c) && there)) ≡ there
    by true b c x y z = absurd (keys_same (is_one triple_cmp triple_order t u x))
    by false true true x y z = absurd (keys_single y z)
    by false true false x y z = refl
    by false false c x y z = refl
apart schema u there (Del t) e = by (is_eq (triple_cmp u t)) refl
  where
    keys_same : u ≡ t → ⊥
    keys_same same = let one = is_itself conflict_cmp conflict_order (data_conflict schema t) in let up = ap (λ (w : Triple). is_eq (conflict_cmp (data_conflict schema t) (data_conflict schema w))) same in cc

    by : (v : Bool) → is_eq (triple_cmp u t) ≡ v → (not v && there) ≡ there
    by true p = absurd (keys_same (is_one triple_cmp triple_order u t p))
    by false p = refl

pub all_apart : (schema : List PredDef) (u : Triple) (there : Bool) (changes : List Change) → has conflict_cmp (data_conflicts schema changes) (data_conflict schema u) ≡ false → there_after_all schema u there changes ≡ there
all_apart schema u there [] h = refl
all_apart schema u there (c ∷ cs) h =
    let both = or_parts (is_eq (conflict_cmp (data_conflict schema (changed c)) (data_conflict schema u))) (has conflict_cmp (data_conflicts schema cs) (data_conflict schema u)) h in
    all_apart schema u (there_after schema u there c) cs both.1 ∙ apart schema u there c both.0

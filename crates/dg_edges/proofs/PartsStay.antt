-- Lists that differ alike, and triples that changes do one thing to in two graphs.
use Rattle.std.proofs.Common.{◌≡◌, Bool, true, false, not, List, fold, map, refl, subst, sym, ◌∙◌}
use Rattle.std.specs.Prelude.{◌&&◌}
use Rattle.dg_values.specs.Ascending.{Ascends, has, with_one}
use Rattle.dg_values.specs.Order.{posting_cmp}
use Rattle.dg_values.specs.declared.value.Posting.{Posting}
use Rattle.dg_values.proofs.OrderLaws.{posting_order}
use Rattle.dg_sets.proofs.Sets.{one_list, has_passed, ascends_passed}
use Rattle.dg_delta.specs.declared.op.Op.TheVariants.{Set, Del}
use Rattle.dg_delta.specs.Ops.{op_cmp, missing, changes_between}
use Rattle.dg_schema.specs.declared.definition.PredDef.{PredDef}
use Rattle.dg_graph.specs.declared.change.Triple.{Triple}
use Rattle.dg_graph.specs.declared.change.Change.{Change}
use Rattle.dg_graph.specs.Graphs.{after_changes}
use Rattle.dg_graph.specs.Changes.{has_triple, there_after_all}
use Rattle.dg_graph.proofs.GraphLaws.{changes_by_triple}
use Rattle.dg_keys.specs.Conflicts.{conflict_cmp}
use Rattle.dg_edges.specs.Deltas.{data_conflict, data_conflicts}
use Rattle.dg_edges.specs.Laws.{AgreeAt}
use Rattle.dg_edges.proofs.AgreeLaws.{all_apart}

-- ---- lists that differ alike

-- what one list has and another lacks
lacked : (have want : List Posting) (o : Posting) → has posting_cmp (missing have want) o ≡ (not (has posting_cmp have o) && has posting_cmp want o)
lacked have want o = has_passed posting_cmp posting_order (λ w. not (has posting_cmp have w)) want o

same_missing : (have want have' want' : List Posting) → Ascends posting_cmp want → Ascends posting_cmp want' → ((o : Posting) → (not (has posting_cmp have o) && has posting_cmp want o) ≡ (not (has posting_cmp have' o) && has posting_cmp want' o)) → missing have want ≡ missing have' want'
same_missing have want have' want' a b f =
    one_list posting_cmp posting_order (missing have want) (missing have' want') (ascends_passed posting_cmp posting_order (λ w. not (has posting_cmp have w)) want a) (ascends_passed posting_cmp posting_order (λ w. not (has posting_cmp have' w)) want' b)
    (λ o. lacked have want o ∙ (f o ∙ sym (lacked have' want' o)))

-- a posting is gained or lost alike, where both have it alike before and after, or where neither changes it
pub record DifferAlike (old new old' new' : Bool) : Type 0 where
  pub lost : (not new && old) ≡ (not new' && old')
  pub gained : (not old && new) ≡ (not old' && new')

alike : (old new : Bool) → DifferAlike old new old new
alike old new = record { lost = refl; gained = refl }

unchanged : (old later : Bool) → DifferAlike old old later later
unchanged old later = record { lost = none old ∙ sym (none later); gained = none old ∙ sym (none later) }
  where
    none : (b : Bool) → (not b && b) ≡ false
    none true = refl
    none false = refl

pub same_changes : (old new old' new' : List Posting) → Ascends posting_cmp old → Ascends posting_cmp new → Ascends posting_cmp old' → Ascends posting_cmp new' → ((o : Posting) → DifferAlike (has posting_cmp old o) (has posting_cmp new o) (has posting_cmp old' o) (has posting_cmp new' o)) → changes_between old new ≡ changes_between old' new'
same_changes old new old' new' a b c d f =
    let lost = same_missing new old new' old' a c (λ o. (f o).lost) in
    let gained = same_missing old new old' new' b d (λ o. (f o).gained) in
    λ i. fold (with_one op_cmp) (map Del (lost i)) (map Set (gained i))

pub both_alike : (old new old' new' : Bool) → old ≡ old' → new ≡ new' → DifferAlike old new old' new'
both_alike old new old' new' e f = record { lost = λ i. not (f i) && e i; gained = λ i. not (e i) && f i }

pub neither_changed : (old new old' new' : Bool) → old ≡ new → old' ≡ new' → DifferAlike old new old' new'
neither_changed old new old' new' e f = subst (λ (b : Bool). DifferAlike old b old' new') e (subst (λ (b : Bool). DifferAlike old old old' b) f (unchanged old old'))

-- where it is neither gained nor lost before, it isn't later
pub unmoved : (old new old' new' : Bool) → DifferAlike old new old' new' → old ≡ new → old' ≡ new'
unmoved old new old' new' d e = by old' new' (sym d.lost ∙ ((λ i. not new && e i) ∙ none new)) (sym d.gained ∙ ((λ i. not old && sym e i) ∙ none old))
  where
    none : (b : Bool) → (not b && b) ≡ false
    none true = refl
    none false = refl

    by : (v w : Bool) → (not w && v) ≡ false → (not v && w) ≡ false → v ≡ w
    by true true f g = refl
    by true false f g = absurd (cc)
    by false true f g = absurd (cc)
    by false false f g = refl

-- ---- graphs that agree at the keys

-- each triple
pub triple_alike : (schema : List PredDef) (graph later : List Triple) (cs : List Change) (u : Triple) → AgreeAt schema cs graph later → DifferAlike (has_triple graph u) (has_triple (after_changes schema graph cs) u) (has_triple later u) (has_triple (after_changes schema later cs) u)
triple_alike schema graph later cs u agree = by (has conflict_cmp (data_conflicts schema cs) (data_conflict schema u)) refl
  where
    by : (v : Bool) → has conflict_cmp (data_conflicts schema cs) (data_conflict schema u) ≡ v → DifferAlike (has_triple graph u) (has_triple (after_changes schema graph cs) u) (has_triple later u) (has_triple (after_changes schema later cs) u)
    by true h =
        let same = agree u h in
        let then : has_triple (after_changes schema graph cs) u ≡ has_triple (after_changes schema later cs) u = changes_by_triple schema graph cs u ∙ ((λ i. there_after_all schema u (same i) cs) ∙ sym (changes_by_triple schema later cs u)) in
        subst (λ (b : Bool). DifferAlike (has_triple graph u) (has_triple (after_changes schema graph cs) u) b (has_triple (after_changes schema later cs) u)) same
        (subst (λ (b : Bool). DifferAlike (has_triple graph u) (has_triple (after_changes schema graph cs) u) (has_triple graph u) b) then (alike (has_triple graph u) (has_triple (after_changes schema graph cs) u)))
    by false h =
        let one : has_triple graph u ≡ has_triple (after_changes schema graph cs) u = sym (changes_by_triple schema graph cs u ∙ all_apart schema u (has_triple graph u) cs h) in
        let two : has_triple later u ≡ has_triple (after_changes schema later cs) u = sym (changes_by_triple schema later cs u ∙ all_apart schema u (has_triple later u) cs h) in
        subst (λ (b : Bool). DifferAlike (has_triple graph u) b (has_triple later u) (has_triple (after_changes schema later cs) u)) one
        (subst (λ (b : Bool). DifferAlike (has_triple graph u) (has_triple graph u) (has_triple later u) b) two (unchanged (has_triple graph u) (has_triple later u)))

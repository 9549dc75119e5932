-- A graph stays lawful under new definitions that keep the kinds of its predicates.
use Rattle.std.proofs.Common.{◌≡◌, ℕ, zero, suc, Bool, true, false, not, cond, List, [], ◌∷◌, Option, Some, None, refl, ap, subst, sym, ◌∙◌}
use Rattle.std.specs.List.{AllByRecursion, list_any}
use Rattle.dg_values.specs.Order.{same_text}
use Rattle.dg_values.specs.declared.kind.Kind.{Kind}
use Rattle.dg_values.specs.declared.kind.Kind.TheVariants as kinds
use Rattle.dg_sets.proofs.Sets.{at, from_each, any_at}
use Rattle.dg_schema.specs.declared.definition.PredDef.{PredDef}
use Rattle.dg_schema.specs.Definitions.{definition_of, with_definition, with_definitions, is_single_by, is_single}
use Rattle.dg_schema.proofs.Names.{same_text-equal, same_text-itself}
use Rattle.dg_schema.proofs.Joining.{definition_with}
use Rattle.dg_graph.specs.declared.change.Triple.{Triple}
use Rattle.dg_graph.specs.Graphs.{triple_cmp, is_of, is_of_kind, fits_by, fits, IsLawful}
use Rattle.dg_graph.specs.Changes.{has_triple}
use Rattle.dg_graph.proofs.GraphLaws.{triple_order, single_from, single_to}
use Rattle.dg_zero.specs.Legal.{kind_rank, KeepsKind}

-- ---- a kind is known by its place

abbrev kind_at : ℕ → Kind
kind_at zero = kinds.Default
kind_at (suc zero) = kinds.Int
kind_at (suc (suc zero)) = kinds.Text
kind_at (suc (suc (suc zero))) = kinds.Bool
kind_at (suc (suc (suc (suc zero)))) = kinds.Time
kind_at n = kinds.Uid

kind_back : (k : Kind) → kind_at (kind_rank k) ≡ k
kind_back kinds.Default = refl
kind_back kinds.Int = refl
kind_back kinds.Text = refl
kind_back kinds.Bool = refl
kind_back kinds.Time = refl
kind_back kinds.Uid = refl

pub same_kind : (a b : Kind) → kind_rank a ≡ kind_rank b → a ≡ b
same_kind a b e = sym (kind_back a) ∙ (ap kind_at e ∙ kind_back b)

-- ---- one predicate

-- the definition has the kind of an older one, and is a list where that is one
abbrev Keeps : PredDef → Option PredDef → Type 0
Keeps old None = ⊥
Keeps old (Some new) = (kind_rank new.kind ≡ kind_rank old.kind) × (new.list ≡ old.list)

module _ (graph : List Triple) (base : List PredDef) (p : List ℕ) (old : PredDef) (is : definition_of base p ≡ Some old) (there : list_any (is_of p) graph ≡ true) where
  one_kept : (schema : List PredDef) (d : PredDef) → KeepsKind graph d (definition_of base d.name) → Keeps old (definition_of schema p) → Keeps old (definition_of (with_definition schema d) p)
  one_kept schema d f k = subst (Keeps old) (sym (definition_with schema d p)) (by (same_text d.name p) refl)
    where
      by : (v : Bool) → same_text d.name p ≡ v → Keeps old (cond v (Some d) (definition_of schema p))
      by true e =
          let name : d.name ≡ p = same_text-equal d.name p e in
          subst (KeepsKind graph d) (ap (definition_of base) name ∙ is) f (ap (λ (q : List ℕ). list_any (is_of q) graph) name ∙ there)
      by false e = k

  all_kept : (schema newer : List PredDef) → AllByRecursion (λ def. KeepsKind graph def (definition_of base def.name)) newer → Keeps old (definition_of schema p) → Keeps old (definition_of (with_definitions schema newer) p)
  all_kept schema [] f k = k
  all_kept schema (d ∷ newer) f k = all_kept (with_definition schema d) newer f.1 (one_kept schema d f.0 k)

  kept : (newer : List PredDef) → AllByRecursion (λ def. KeepsKind graph def (definition_of base def.name)) newer → Keeps old (definition_of (with_definitions base newer) p)
  kept newer f = all_kept base newer f (subst (Keeps old) (sym is) (refl, refl))

-- ---- the triples of that predicate

fits_still : (old : PredDef) (o : Option PredDef) (t : Triple) → Keeps old o → is_of_kind old.kind t.o ≡ true → fits_by o t ≡ true
fits_still old None t k e = absurd (k)
fits_still old (Some new) t k e = ap (λ (kind : Kind). is_of_kind kind t.o) (same_kind new.kind old.kind k.0) ∙ e

single_before : (old : PredDef) (o : Option PredDef) → Keeps old o → is_single_by o ≡ true → is_single_by (Some old) ≡ true
single_before old None k e = absurd (k)
single_before old (Some new) k e = sym (ap not k.1) ∙ e

-- a triple fits, and its predicate is no list only where it was none
record IsStill (schema later : List PredDef) (t : Triple) : Type 0 where
  fit : fits later t ≡ true
  single : is_single later t.p ≡ true → is_single schema t.p ≡ true

triple_still : (schema newer : List PredDef) (graph : List Triple) (t : Triple) → AllByRecursion (λ def. KeepsKind graph def (definition_of schema def.name)) newer → has_triple graph t ≡ true → fits schema t ≡ true → IsStill schema (with_definitions schema newer) t
triple_still schema newer graph t f h e = by (definition_of schema t.p) refl e
  where
    there : list_any (is_of t.p) graph ≡ true
    there = any_at triple_cmp triple_order (is_of t.p) graph t (same_text-itself t.p) h

    by : (o : Option PredDef) → definition_of schema t.p ≡ o → fits_by o t ≡ true → IsStill schema (with_definitions schema newer) t
    by None is e = absurd (cc)
    by (Some old) is e =
        let k = kept graph schema t.p old is there newer f in
        record {
          fit = fits_still old (definition_of (with_definitions schema newer) t.p) t k e;
          single = λ s. ap is_single_by is ∙ single_before old (definition_of (with_definitions schema newer) t.p) k s;
        }

pub lawful_under : (schema newer : List PredDef) (graph : List Triple) → AllByRecursion (λ def. KeepsKind graph def (definition_of schema def.name)) newer → IsLawful schema graph → IsLawful (with_definitions schema newer) graph
lawful_under schema newer graph f l =
    let later = with_definitions schema newer in
    let still : (t : Triple) → has_triple graph t ≡ true → IsStill schema later t = λ t h. triple_still schema newer graph t f h (at triple_cmp triple_order (λ u. fits schema u ≡ true) graph t l.fit h) in
    record {
      ascend = l.ascend;
      fit = from_each triple_cmp triple_order (λ t. fits later t ≡ true) graph (λ t h. (still t h).fit);
      single = single_to later graph l.ascend (record { one = λ u v p q s own. (single_from schema graph l.single).one u v p q ((still u p).single s) own });
    }

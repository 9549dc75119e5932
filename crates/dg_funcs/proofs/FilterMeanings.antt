-- A filter of a plan means what that of the text does.
use Rattle.std.proofs.Common.{◌≡◌, ℕ, Bool, false, List, ◌∷◌, map, refl, ap, sym, ◌∙◌}
use Rattle.std.specs.List.{list_any, list_all}
use Rattle.dg_schema.specs.declared.definition.PredDef.{PredDef}
use Rattle.dg_graph.specs.declared.change.Triple.{Triple}
use Rattle.dg_graph.specs.Graphs.{IsLawful}
use Rattle.dg_parse.specs.declared.query.QFilter.{QFilter}
use Rattle.dg_parse.specs.declared.query.QFunc.{QFunc}
use Rattle.dg_parse.specs.declared.query.QPart.{QPart, QPart-F, fold-roll-QPart}
use Rattle.dg_parse.specs.declared.query.QPart.TheFolds.{fold_out-QFilter}
use Rattle.dg_parse.specs.declared.query.QPart.TheVariants as said
use Rattle.dg_check.specs.declared.parts.Filter.{Filter}
use Rattle.dg_check.specs.declared.parts.Part.{Part}
use Rattle.dg_check.specs.declared.vars.Variable.{Variable}
use Rattle.dg_check.specs.Parts.{IsFilterOf, negated, IsPartOf, any, each, one, AreFiltersOf, no_filter, more_filters}
use Rattle.dg_check.specs.Variables.{Definition, names_for}
use Rattle.dg_funcs.specs.Truth as truth
use Rattle.dg_funcs.specs.Truth.{passes, part_passes}
use Rattle.dg_funcs.specs.Meaning.{text_holds_at, text_step_of_part, text_step_of_filter, text_passes, text_part_passes}
use Rattle.dg_funcs.specs.Laws.{AreOfKind, FiltersMeanTheirTexts}
use Rattle.dg_funcs.proofs.FilterLaws.{any_mapped, all_mapped, passes_is, part_or, part_and, part_func}
use Rattle.dg_funcs.proofs.MeaningLaws.{func_means}

-- ---- a filter of the text, part by part

module _ (graph : List Triple) (names : List (List ℕ)) (vars : List Variable) (n : ℕ) where
  text_passes_is : (q : QFilter) → text_passes graph names vars n q ≡ truth.negated q.nots (text_part_passes graph names vars n q.part)
  text_passes_is q = fold_out-QFilter Bool Bool (text_step_of_part (text_holds_at graph names vars n)) text_step_of_filter q

  text_part_or : (qs : List QFilter) → text_part_passes graph names vars n (said.Or qs) ≡ list_any (λ b. b) (map (text_passes graph names vars n) qs)
  text_part_or qs = ap (text_part_passes graph names vars n) (sym (said.rolls-Or qs)) ∙ fold-roll-QPart Bool Bool (text_step_of_part (text_holds_at graph names vars n)) text_step_of_filter (QPart-F.Or qs)

  text_part_and : (qs : List QFilter) → text_part_passes graph names vars n (said.And qs) ≡ list_all (λ b. b) (map (text_passes graph names vars n) qs)
  text_part_and qs = ap (text_part_passes graph names vars n) (sym (said.rolls-And qs)) ∙ fold-roll-QPart Bool Bool (text_step_of_part (text_holds_at graph names vars n)) text_step_of_filter (QPart-F.And qs)

  text_part_func : (q : QFunc) → text_part_passes graph names vars n (said.Func q) ≡ text_holds_at graph names vars n q
  text_part_func q = ap (text_part_passes graph names vars n) (sym (said.rolls-Func q)) ∙ fold-roll-QPart Bool Bool (text_step_of_part (text_holds_at graph names vars n)) text_step_of_filter (QPart-F.Func q)

-- ---- part by part the same

module _ (schema : List PredDef) (ds : List Definition) (graph : List Triple) (vars : List Variable) (n : ℕ) (lawful : IsLawful schema graph) (of_kind : AreOfKind ds vars) where
  mutual
    filter_means : (q : QFilter) (f : Filter) → IsFilterOf schema ds q f → text_passes graph (names_for false ds) vars n q ≡ passes graph vars n f
    filter_means q f (negated q' f' nots h) =
        let back = sym nots in
        let part = part_means q'.part f'.part h in
        text_passes_is graph (names_for false ds) vars n q' ∙ ((λ i. truth.negated (back i) (part i)) ∙ sym (passes_is graph vars n f'))

    part_means : (q : QPart) (f : Part) → IsPartOf schema ds q f → text_part_passes graph (names_for false ds) vars n q ≡ part_passes graph vars n f
    part_means q f (any qs fs h) = text_part_or graph (names_for false ds) vars n qs ∙ (ap (list_any (λ b. b)) (filters_alike qs fs h) ∙ (any_mapped (passes graph vars n) fs ∙ sym (part_or graph vars n fs)))
    part_means q f (each qs fs h) = text_part_and graph (names_for false ds) vars n qs ∙ (ap (list_all (λ b. b)) (filters_alike qs fs h) ∙ (all_mapped (passes graph vars n) fs ∙ sym (part_and graph vars n fs)))
    part_means q f (one q' f' h) = text_part_func graph (names_for false ds) vars n q' ∙ (func_means ds graph vars schema lawful of_kind n q' f' h.0 ∙ sym (part_func graph vars n f'))

    filters_alike : (qs : List QFilter) (fs : List Filter) → AreFiltersOf schema ds qs fs → map (text_passes graph (names_for false ds) vars n) qs ≡ map (passes graph vars n) fs
    filters_alike qs fs no_filter = refl
    filters_alike qs fs (more_filters q f qs' fs' h more) =
        let here = filter_means q f h in
        let rest = filters_alike qs' fs' more in
        λ i. here i ∷ rest i

pub filters_mean : FiltersMeanTheirTexts
filters_mean schema ds graph vars n q f lawful of_kind is_ = filter_means schema ds graph vars n lawful of_kind q f is_

use Rattle.std.proofs.Common.{rules, ◌≡◌, ◌<◌, length, List, [], ◌∷◌, ◌++◌, refl, sym, subst}
use Rattle.dg_check.specs.declared.parts.Filter.{Filter}
use Rattle.dg_check.specs.Parts.{IsFilterOf, AreFiltersOf, no_filter, asked_of_filter}
use Rattle.dg_check.proofs.PartLaws.{turn, filter_added}
use Rattle.dg_check.proofs.BuildLaws.{filter_made, any_made, each_made, one_made}
use Rattle.dg_check.proofs.building.+filter.Goals as goal

pub filters_of-loop-filter-preserved : goal.filters_of-loop-filter-preserved
filters_of-loop-filter-preserved t c =
    let i = c.loop-filter.filter-index in
    let items = c.args.filters.now in
    let within : i < length items = search rules in
    let pushed : c.push.new.self.items ≡ c.loop-filter.made.items ++ c.in_ok-next.next ∷ [] = search rules in
    λ schema ds. turn schema ds asked_of_filter (IsFilterOf schema ds) (AreFiltersOf schema ds) (λ (f : Filter). f ∷ []) (λ qs fs q f are is_. filter_added schema ds qs fs q f are is_)
    items i c.filter-item.result c.in_ok-next.next c.filter_of.result c.loop-filter.made.items c.push.new.self.items c.args.reads.now.items c.loop-filter.reads.items c.filter_of.new.reads.items
    within c.filter-item.is c.in_ok-next.was (λ after. c.filter_of.ensures schema ds after) pushed (c.loop-filter.invariant schema ds)

pub filter_of-returns : goal.filter_of-returns
filter_of-returns t c =
    λ schema ds. filter_made schema ds c.args.filter.now _ c.part_of.result c.in_ok-part.part c.args.reads.now.items c.part_of.new.reads.items c.in_ok-part.was refl refl (λ after. c.part_of.ensures schema ds after)

pub filters_of-loop-filter-init : goal.filters_of-loop-filter-init
filters_of-loop-filter-init t c = λ schema ds after u. (subst (λ (l : List Filter). AreFiltersOf schema ds [] l) (sym c.new-made.ensures.items) no_filter, u)

pub part_of-returns-in_ok-filters-in-Or : goal.part_of-returns-in_ok-filters-in-Or
part_of-returns-in_ok-filters-in-Or t c =
    λ schema ds. any_made schema ds c.args.part.now c.in-Or.parts c.as_slice.result.now c.filters_of.result c.in_ok-filters-in-Or.filters c.args.reads.now.items c.filters_of.new.reads.items
    c.in-Or.is c.as_slice.ensures c.in_ok-filters-in-Or.was (λ after. c.filters_of.ensures schema ds after)

pub part_of-returns-in_ok-filters-in-And : goal.part_of-returns-in_ok-filters-in-And
part_of-returns-in_ok-filters-in-And t c =
    λ schema ds. each_made schema ds c.args.part.now c.in-And.parts c.as_slice-in-And.result.now c.filters_of-in-And.result c.in_ok-filters-in-And.filters c.args.reads.now.items c.filters_of-in-And.new.reads.items
    c.in-And.is c.as_slice-in-And.ensures c.in_ok-filters-in-And.was (λ after. c.filters_of-in-And.ensures schema ds after)

pub part_of-returns-in-Func : goal.part_of-returns-in-Func
part_of-returns-in-Func t c =
    λ schema ds. one_made schema ds c.args.part.now c.in-Func.field-0 c.next_func.result c.args.reads.now.items c.next_func.new.reads.items c.in-Func.is c.next_func.ensures.first c.next_func.ensures.rest

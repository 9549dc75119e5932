use Rattle.std.proofs.Common.{rules, ◌≡◌, ◌<◌, length, List, [], ◌++◌, sym, subst}
use Rattle.std.specs.Prelude.{Option, option_to_list}
use Rattle.dg_parse.specs.declared.query.QDir.{QDir}
use Rattle.dg_check.specs.declared.parts.Filter.{Filter}
use Rattle.dg_check.specs.Parts.{AreFiltersOf, no_filter, filters_at, filters_in, asked_of_dir}
use Rattle.dg_check.proofs.PartLaws.{turn, dir_added}
use Rattle.dg_check.proofs.building.filters_in.Goals as goal

pub loop-dir-preserved : goal.loop-dir-preserved
loop-dir-preserved c =
    let i = c.loop-dir.dir-index in
    let items = c.args.dirs.now in
    let within : i < length items = search rules in
    let pushed : c.add_any.new.out.items ≡ c.loop-dir.out.items ++ option_to_list c.in_ok-next.next = search rules in
    λ schema ds. turn schema ds asked_of_dir (λ (dir : QDir) (o : Option Filter). AreFiltersOf schema ds (filters_at dir) (option_to_list o)) (λ (list : List QDir) (fs : List Filter). AreFiltersOf schema ds (filters_in list) fs) option_to_list (λ list fs dir o are is_. dir_added schema ds list fs dir o are is_)
    items i c.dir-item.result c.in_ok-next.next c.filter_of_dir.result c.loop-dir.out.items c.add_any.new.out.items c.args.reads.now.items c.loop-dir.reads.items c.filter_of_dir.new.reads.items
    within c.dir-item.is c.in_ok-next.was (λ after. c.filter_of_dir.ensures schema ds after) pushed (c.loop-dir.invariant schema ds)

pub loop-dir-init : goal.loop-dir-init
loop-dir-init c = λ schema ds after u. (subst (λ (l : List Filter). AreFiltersOf schema ds [] l) (sym c.new-out.ensures.items) no_filter, u)

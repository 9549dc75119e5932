use Rattle.std.proofs.Common.{List, ◌++◌, sym, ap, ◌∙◌, codes}
use Rattle.std.proofs.lemmas.Result.{on_ok_weaker}
use Rattle.dg_text.specs.Spelling.{name_word}
use Rattle.dg_text.specs.Written.{Word, written}
use Rattle.dg_print.specs.Printed.{Shown, shown_or, shown_and}
use Rattle.dg_print.specs.PrintedUpsert.{shown}
use Rattle.dg_print.specs.Printing.{words_in}
use Rattle.dg_print.proofs.FiltersWritten.{items_bare, items_closed}
use Rattle.dg_print.proofs.WordsWritten.{joined_step}
use Rattle.dg_print.proofs.conditions.+printed.Goals as goal

pub push_or-returns-then-or_is_bare : goal.push_or-returns-then-or_is_bare
push_or-returns-then-or_is_bare t c =
    let said : List Word → List Word = λ (ws : List Word). words_in c.args.within (shown_or c.args.nots ws) in
    let same = items_bare shown c.or_is_bare.result said c.args.nots c.or_is_bare.ensures (name_word (codes "or")) (λ (f : Shown). f.as_and) c.args.conditions.now c.if-or_is_bare.true in
    on_ok_weaker c.push_joined.result (λ h. h ∙ ap (λ (ws : List Word). c.args.out.now ++ written ws) (sym same)) c.push_joined.ensures

pub push_or-returns-else-or_is_bare : goal.push_or-returns-else-or_is_bare
push_or-returns-else-or_is_bare t c =
    let said : List Word → List Word = λ (ws : List Word). words_in c.args.within (shown_or c.args.nots ws) in
    let same = items_closed shown c.or_is_bare.result said c.args.nots c.or_is_bare.ensures (name_word (codes "or")) (λ (f : Shown). f.as_and) c.args.conditions.now c.if-or_is_bare.false in
    on_ok_weaker c.push_closed.result (λ h. h ∙ ap (λ (ws : List Word). c.args.out.now ++ written ws) (sym same)) c.push_closed.ensures

pub push_and-returns-then-and_is_bare : goal.push_and-returns-then-and_is_bare
push_and-returns-then-and_is_bare t c =
    let said : List Word → List Word = λ (ws : List Word). words_in c.args.within (shown_and c.args.nots ws) in
    let same = items_bare shown c.and_is_bare.result said c.args.nots c.and_is_bare.ensures (name_word (codes "and")) (λ (f : Shown). f.as_not) c.args.conditions.now c.if-and_is_bare.true in
    on_ok_weaker c.push_joined.result (λ h. h ∙ ap (λ (ws : List Word). c.args.out.now ++ written ws) (sym same)) c.push_joined.ensures

pub push_and-returns-else-and_is_bare : goal.push_and-returns-else-and_is_bare
push_and-returns-else-and_is_bare t c =
    let said : List Word → List Word = λ (ws : List Word). words_in c.args.within (shown_and c.args.nots ws) in
    let same = items_closed shown c.and_is_bare.result said c.args.nots c.and_is_bare.ensures (name_word (codes "and")) (λ (f : Shown). f.as_not) c.args.conditions.now c.if-and_is_bare.false in
    on_ok_weaker c.push_closed.result (λ h. h ∙ ap (λ (ws : List Word). c.args.out.now ++ written ws) (sym same)) c.push_closed.ensures

pub push_joined-loop-place-preserved : goal.push_joined-loop-place-preserved
push_joined-loop-place-preserved t c =
    joined_step (name_word c.args.word.now) (λ f. words_in c.args.within (shown f)) c.args.conditions.now c.loop-place.place c.index-conditions-place.result c.args.out.now c.loop-place.out _ c.push_condition.new.out
    c.loop-place-test.true c.index-conditions-place.is c.loop-place.invariant c.in_ok-push_joint.ensures c.in_ok-push_condition.ensures

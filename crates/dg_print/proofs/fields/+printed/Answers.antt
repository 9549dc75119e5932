use Rattle.std.proofs.Common.{◌++◌, sym, ap, ◌∙◌}
use Rattle.std.proofs.lemmas.Result.{on_ok_weaker}
use Rattle.dg_text.specs.Written.{written}
use Rattle.dg_print.specs.Printing.{words_of_item}
use Rattle.dg_print.proofs.FieldsWritten.{edge_item}
use Rattle.dg_print.proofs.fields.+printed.Goals as goal

pub push_item-returns-in-Some : goal.push_item-returns-in-Some
push_item-returns-in-Some t c =
    let k = c.in-Edge in
    let xs = c.as_slice-in-Some in
    let ys = c.as_slice-in-Some-2 in
    let zs = c.as_slice-in-Some-3 in
    let same = edge_item c.args.out.now k.edge k.args k.dirs k.fields c.in-Some.fields xs.result.now ys.result.now zs.result.now c.in-Some.is xs.ensures ys.ensures zs.ensures in
    on_ok_weaker c.push_whole_edge.result (λ h. h ∙ sym same ∙ ap (λ item. c.args.out.now ++ written (words_of_item item)) (sym k.is)) c.push_whole_edge.ensures

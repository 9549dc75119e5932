use Rattle.std.proofs.Common.{sym, ◌∙◌, arith}
use Rattle.dg_table.proofs.TestLemmas.{is_one_to_one-drop}
use Rattle.dg_table.proofs.table.is_one_to_one.Goals as goal

pub returns-then-has_either : goal.returns-then-has_either
returns-then-has_either g c =
    sym (is_one_to_one-drop g.S.Name.bytes c.args.rows.now c.loop-i.i c.index-rows-i.result _ _ (omega arith) c.index-rows-i.is c.as_str.ensures c.if-has_either.ensures)
    ∙ c.loop-i.invariant

pub loop-i-preserved : goal.loop-i-preserved
loop-i-preserved g c =
    sym (is_one_to_one-drop g.S.Name.bytes c.args.rows.now c.loop-i.i c.index-rows-i.result _ _ (omega arith) c.index-rows-i.is c.as_str.ensures c.if-has_either.ensures)
    ∙ c.loop-i.invariant

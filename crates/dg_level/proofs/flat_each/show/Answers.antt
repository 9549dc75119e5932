use Rattle.std.proofs.Common.{◌≡◌, List, sym, subst}
use Rattle.std.specs.Prelude.{OnOk}
use Rattle.dg_tree.specs.declared.tree.Field.{Field}
use Rattle.dg_level.proofs.FlatTurns.{none_shown}
use Rattle.dg_level.proofs.flat_each.show.Goals as goal

pub returns-in-None-clause-ok : goal.returns-in-None-clause-ok
returns-in-None-clause-ok c = subst (λ (objects : List (List Field)). OnOk c.keep.result (c.keep.new.flats ≡ objects)) (sym (none_shown c.args.key.now c.args.tree c.args.flats.now c.in-None.is)) c.keep.ensures.ok

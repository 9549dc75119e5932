use Rattle.std.proofs.Common.{ℕ, List, [], ◌∷◌, ◌++◌, sym, ap, ◌∙◌, subst}
use Rattle.dg_level.specs.Rows.{Written}
use Rattle.dg_level.specs.Keeping.{rows_in, AreKept}
use Rattle.dg_level.proofs.KeepLemmas.{closed, kept_closed}
use Rattle.dg_level.proofs.rows.Rows.close.Goals as goal

pub invariant_of-self-2 : goal.invariant_of-self-2
invariant_of-self-2 c =
    let old = c.self.inside in
    let ended = c.in_ok-end_row.ensures in
    subst (λ (b : List ℕ). AreKept c.end_row.new.text c.end_row.new.ends.items b old.limit (rows_in c.end_row.new.text 0 c.end_row.new.ends.items)) (sym ended.row)
    (kept_closed c.self.invariant c.end_row.new.text c.end_row.new.ends.items ended.utf8 ended.text ended.ends)

pub returns-clause-rows : goal.returns-clause-rows
returns-clause-rows c =
    let ended = c.in_ok-end_row.ensures in
    closed c.self.invariant c.end_row.new.text c.end_row.new.ends.items ended.utf8 ended.text ended.ends
    ∙ ap (λ (w : Written). w.rows ++ w.begun ∷ []) c.self.view_is

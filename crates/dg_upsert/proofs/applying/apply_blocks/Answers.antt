use Rattle.std.proofs.Common.{List, subst, sym, ◌∙◌}
use Rattle.std.specs.List.{AllByRecursion}
use Rattle.dg_nquad.specs.declared.mutation.Statement.{Statement}
use Rattle.dg_nquad.specs.Plain.{HasNoVariable}
use Rattle.dg_upsert.proofs.PlainLaws.{have_no_variable}
use Rattle.dg_upsert.proofs.applying.apply_blocks.Goals as goal

pub resolve-requires : goal.resolve-requires
resolve-requires c =
    let same = c.from_vec-statements.ensures ∙ c.in_ok-statements.ensures in
    let plain = have_no_variable c.in_ok-names_of.field-0 c.args.vars.now.variables c.as_slice.result.now in
    subst (λ (statements : List Statement). AllByRecursion HasNoVariable statements) (sym same) plain

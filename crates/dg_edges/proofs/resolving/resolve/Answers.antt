use Rattle.std.proofs.Common.{rules, List, [], ◌∷◌, ◌++◌, Ok, subst, sym}
use Rattle.std.proofs.lemmas.Iterator.Adapters.{YieldsList-from_vec}
use Rattle.std.proofs.lemmas.Iterator.Consumers.{YieldsList-so_far, YieldsList-turn}
use Rattle.std.proofs.lemmas.Result.{err_from_is_err_and}
use Rattle.dg_edges.specs.declared.edge.Edge.{Edge}
use Rattle.dg_edges.specs.Resolving.{Resolves}
use Rattle.dg_edges.proofs.ResolveLaws.{one_more, refused}
use Rattle.dg_edges.proofs.resolving.resolve.Goals as goal

pub returns-in_err-check : goal.returns-in_err-check
returns-in_err-check c =
    let p = err_from_is_err_and c.from_residual-in_err-check.result c.from_residual-in_err-check.ensures.1 in
    let road = YieldsList-from_vec {s = c.into_iter-statement-iterator.result} c.args.m.statements (search rules) (search rules) in
    let so_far = YieldsList-so_far road c.loop-statement.yielded _ c.loop-statement.yielded_by in
    let turn = YieldsList-turn road c.loop-statement.yielded _ c.loop-statement.yielded_by _ c.next.new.self c.in-Some.statement c.in-Some.is c.next.ensures.steps in
    rw (p.1, p.2) (refused c.args.schema.now c.args.m.statements c.loop-statement.yielded c.in-Some.statement c.loop-statement.edges.items c.in_err-check.field-0.0 so_far turn c.loop-statement.invariant c.in_err-check.ensures)

pub loop-statement-preserved : goal.loop-statement-preserved
loop-statement-preserved c =
    let more = one_more c.args.schema.now c.loop-statement.yielded c.loop-statement.edges.items c.in-Some.statement c.in_ok-check.field-0 c.loop-statement.invariant c.in_ok-check.ensures in
    subst (λ (es : List Edge). Resolves c.args.schema.now (c.loop-statement.yielded ++ c.in-Some.statement ∷ []) (Ok es)) (sym {A = List Edge} c.in_ok-push.ensures.items) more

use Rattle.std.proofs.Common.{◌≡◌, ◌∙◌, arith}
use Rattle.std.specs.declared.cmp.Ordering.TheVariants.{Less, Equal, Greater}
use Rattle.dg_values.specs.Order.{posting_cmp}
use Rattle.dg_delta.specs.Ops.{posting_of}
use Rattle.dg_list.proofs.Passing.{on_less, on_equal, on_greater, on_none}
use Rattle.dg_list.proofs.applying.put_upto.Goals as goal

pub loop-next-preserved : goal.loop-next-preserved
loop-next-preserved c =
    let less : posting_cmp (posting_of c.index-ops-next.result) c.args.posting.now ≡ Less = cc in
    record {
      within = omega arith;
      so_far = λ rest a. rw c.in_ok-put_into-in-Less.ensures (on_less c.args.ops.now c.requires.ops c.loop-next.next c.index-ops-next.result c.loop-next-test.true c.index-ops-next.is c.loop-next.list.items c.args.posting.now rest a less ∙ c.loop-next.invariant.so_far rest a);
    }

pub returns-in-Equal-clause-on : goal.returns-in-Equal-clause-on
returns-in-Equal-clause-on c rest a =
    let equal : posting_cmp (posting_of c.index-ops-next.result) c.args.posting.now ≡ Equal = cc in
    rw c.in_ok-put_into-in-Equal.ensures (on_equal c.args.ops.now c.requires.ops c.loop-next.next c.index-ops-next.result c.loop-next-test.true c.index-ops-next.is c.loop-next.list.items c.args.posting.now rest a equal ∙ c.loop-next.invariant.so_far rest a)

pub returns-in-Greater-clause-on : goal.returns-in-Greater-clause-on
returns-in-Greater-clause-on c rest a =
    let greater : posting_cmp (posting_of c.index-ops-next.result) c.args.posting.now ≡ Greater = cc in
    on_greater c.args.ops.now c.requires.ops c.loop-next.next c.index-ops-next.result c.loop-next-test.true c.index-ops-next.is c.loop-next.list.items c.args.posting.now rest a greater ∙ c.loop-next.invariant.so_far rest a

pub returns-clause-on : goal.returns-clause-on
returns-clause-on c rest a =
    on_none c.args.ops.now c.loop-next.next c.loop-next.list.items c.args.posting.now rest (omega arith) ∙ c.loop-next.invariant.so_far rest a

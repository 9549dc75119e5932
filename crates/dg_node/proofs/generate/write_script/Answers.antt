use Rattle.std.proofs.Common.{arith}
use Rattle.std.proofs.lemmas.Result.{err_from_is_err_and}
use Rattle.dg_wire.specs.Frames.{frames}
use Rattle.dg_wire.specs.Generator.{generated}
use Rattle.dg_node.proofs.Writing.{writing_on, writing_cut_within}
use Rattle.dg_node.proofs.generate.write_script.Goals as goal

pub requests-preserved : goal.requests-preserved
requests-preserved g c =
    let next = rw c.in-Some.is at c.in_ok-request.ensures.some in
    record {
      writing = writing_on (frames (generated c.args.seed c.args.size)) (g.K.Sink.held c.args.sink.now) (g.K.Sink.held c.requests.sink) (g.K.Sink.held c.send_frame.new.sink) c.requests.script c.next.new.self c.in-Some.request c.requests.invariant.writing next c.in_ok-send_frame.ensures.whole;
      later = omega (arith, c.requests.invariant.later, c.send_frame.ensures.later);
    }

pub returns-in_err-send_frame-clause-part : goal.returns-in_err-send_frame-clause-part
returns-in_err-send_frame-clause-part g c =
    let next = rw c.in-Some.is at c.in_ok-request.ensures.some in
    let err = err_from_is_err_and c.from_residual-in_err-send_frame.result c.from_residual-in_err-send_frame.ensures.1 in
    rw err.1 (writing_cut_within (frames (generated c.args.seed c.args.size)) (g.K.Sink.held c.args.sink.now) (g.K.Sink.held c.requests.sink) (g.K.Sink.held c.send_frame.new.sink) c.requests.script c.next.new.self c.in-Some.request c.requests.invariant.writing next c.in_err-send_frame.ensures.part)

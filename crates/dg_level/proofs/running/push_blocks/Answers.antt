use Rattle.std.proofs.Common.{◌<◌, length, rules, arith}
use Rattle.dg_check.specs.Parts.{IsBlockOf}
use Rattle.dg_tree.specs.Texts.{field_text}
use Rattle.dg_level.specs.Blocks.{block_shown}
use Rattle.dg_level.proofs.RunLaws.{block_at, one_written, one_there, one_passes}
use Rattle.dg_level.proofs.running.push_blocks.Goals as goal

pub returns-in_err-wrote-clause-too_large : goal.returns-in_err-wrote-clause-too_large
returns-in_err-wrote-clause-too_large g c = λ ds lawful kinds are e.
    let schema = g.S.Snapshot.declared c.args.snap.now in
    let graph = g.S.Snapshot.graph c.args.snap.now in
    let vars = c.args.vars.now.variables in
    let blocks = c.args.blocks.now in
    let i = c.loop-at.at in
    let lt : i < length blocks = omega (arith, c.loop-at-test.true) in
    let block = c.index-blocks-at.result in
    let so_far = c.loop-at.invariant ds lawful kinds are in
    let is : IsBlockOf schema ds block c.index-kept-at.result = block_at schema ds blocks c.args.kept.now i block c.index-kept-at.result are lt c.index-blocks-at.is c.index-kept-at.is in
    one_passes (block_shown schema graph ds vars) field_text blocks i block lt c.index-blocks-at.is c.args.out.now c.loop-at.out c.loop-at.wrote so_far.0 so_far.1 16777216 (c.push_block.ensures.too_large ds lawful kinds is (search rules))

pub loop-at-preserved : goal.loop-at-preserved
loop-at-preserved g c = λ ds lawful kinds are.
    let schema = g.S.Snapshot.declared c.args.snap.now in
    let graph = g.S.Snapshot.graph c.args.snap.now in
    let vars = c.args.vars.now.variables in
    let blocks = c.args.blocks.now in
    let i = c.loop-at.at in
    let lt : i < length blocks = omega (arith, c.loop-at-test.true) in
    let block = c.index-blocks-at.result in
    let so_far = c.loop-at.invariant ds lawful kinds are in
    let is : IsBlockOf schema ds block c.index-kept-at.result = block_at schema ds blocks c.args.kept.now i block c.index-kept-at.result are lt c.index-blocks-at.is c.index-kept-at.is in (
      one_written (block_shown schema graph ds vars) field_text blocks i block lt c.index-blocks-at.is c.args.out.now c.loop-at.out c.loop-at.wrote so_far.0 so_far.1 c.push_block.new.out (c.in_ok-wrote.ensures.ok ds lawful kinds is),
      one_there (block_shown schema graph ds vars) field_text blocks i block lt c.index-blocks-at.is c.args.out.now c.loop-at.out c.loop-at.wrote so_far.0 so_far.1 c.in_ok-wrote.wrote (c.in_ok-wrote.ensures.wrote ds),
    )

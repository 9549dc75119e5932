use Rattle.dg_edges.specs.Filing.{filed_by}
use Rattle.dg_edges.proofs.FilingLaws.{items_more}
use Rattle.dg_edges.proofs.filing.file_tokenized.Goals as goal

pub loop-tokenizer-preserved : goal.loop-tokenizer-preserved
loop-tokenizer-preserved c =
    items_more (filed_by c.args.p.now c.args.s c.args.object.now) c.args.tokenizers.now c.loop-tokenizer.tokenizer-index _ c.args.filed.now.items _ _ c.loop-tokenizer-test.true c.loop-tokenizer.invariant c.in_ok-file_by.ensures

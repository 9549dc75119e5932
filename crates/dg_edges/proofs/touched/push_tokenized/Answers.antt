use Rattle.dg_edges.specs.Replaced.{keys_of_tokens}
use Rattle.dg_edges.proofs.ReplacedLaws.{tokenizer_more}
use Rattle.dg_edges.proofs.touched.push_tokenized.Goals as goal

pub loop-tokenizer-preserved : goal.loop-tokenizer-preserved
loop-tokenizer-preserved c = tokenizer_more (keys_of_tokens c.args.def.now c.args.t.now c.args.object.now) c.args.tokenizers.now c.loop-tokenizer.tokenizer-index _ c.args.found.now.items _ _ c.loop-tokenizer-test.true c.loop-tokenizer.invariant c.in_ok-push_by.ensures

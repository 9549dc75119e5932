use Rattle.std.proofs.Common.{◌≡◌, [], get_or, ◌++◌, sym, ◌∙◌}
use Rattle.dg_edges.specs.Filing.{filed_at}
use Rattle.dg_edges.proofs.AtKeys.{mapped_at}
use Rattle.dg_edges.proofs.FilingLaws.{items_more}
use Rattle.dg_edges.proofs.filing.filings_of.Goals as goal

pub loop-place-preserved : goal.loop-place-preserved
loop-place-preserved c =
    let schema = c.args.schema.now in
    let keys = c.args.keys.now in
    let place = c.loop-place.place in
    let key = c.index-keys-place.result in
    let at = c.index-lists-place.result in
    let is = sym c.index-keys-place.is in
    record {
      before = λ f e.
          let from : at ≡ f key = c.index-lists-place.is ∙ ((λ i. get_or (e i) place at) ∙ mapped_at f keys place key at c.loop-place-test.true is) in
          items_more (λ k. filed_at schema k (f k).before) keys place key [] c.loop-place.found.before.items c.file_both.new.found.before.items c.loop-place-test.true (c.loop-place.invariant.before f e)
          (c.in_ok-file_both.ensures.before ∙ ((λ i. c.loop-place.found.before.items ++ filed_at schema key (from i).before) ∙ λ i. c.loop-place.found.before.items ++ filed_at schema (sym is i) (f (sym is i)).before));
      after = λ f e.
          let from : at ≡ f key = c.index-lists-place.is ∙ ((λ i. get_or (e i) place at) ∙ mapped_at f keys place key at c.loop-place-test.true is) in
          items_more (λ k. filed_at schema k (f k).after) keys place key [] c.loop-place.found.after.items c.file_both.new.found.after.items c.loop-place-test.true (c.loop-place.invariant.after f e)
          (c.in_ok-file_both.ensures.after ∙ ((λ i. c.loop-place.found.after.items ++ filed_at schema key (from i).after) ∙ λ i. c.loop-place.found.after.items ++ filed_at schema (sym is i) (f (sym is i)).after));
    }

use Rattle.std.proofs.Common.{◌++◌, ◌∷◌, [], ◌∙◌, ap, length, length-append, subst, List, arith}
use Rattle.dg_oracle.specs.Histories.{Layer, marks_of, IsLayered, HasSameKeys}
use Rattle.dg_oracle.proofs.Views.{apart_last, merged_keys, merged_layered}
use Rattle.dg_oracle.proofs.history.settle.Goals as goal

pub merged-run-requires-clause-apart : goal.merged-run-requires-clause-apart
merged-run-requires-clause-apart g c =
    apart_last c.take_short.new.runs.items c.in-Some.older c.loop-older.run (subst (λ (rs : List (Layer g.row.K.Denot)). IsLayered (rs ++ c.loop-older.run ∷ [])) c.in-Some.ensures.run c.loop-older.invariant.layered)

pub loop-older-preserved : goal.loop-older-preserved
loop-older-preserved g c =
    let rest = c.take_short.new.runs.items in
    let layered : IsLayered ((rest ++ c.in-Some.older ∷ []) ++ c.loop-older.run ∷ []) = subst (λ (rs : List (Layer g.row.K.Denot)). IsLayered (rs ++ c.loop-older.run ∷ [])) c.in-Some.ensures.run c.loop-older.invariant.layered in
    let keys : HasSameKeys (marks_of ((rest ++ c.in-Some.older ∷ []) ++ c.loop-older.run ∷ [])) (marks_of (c.args.runs.now.items ++ c.args.run ∷ [])) = subst (λ (rs : List (Layer g.row.K.Denot)). HasSameKeys (marks_of (rs ++ c.loop-older.run ∷ [])) (marks_of (c.args.runs.now.items ++ c.args.run ∷ []))) c.in-Some.ensures.run c.loop-older.invariant.keys in
    record {
      room = omega (arith, c.loop-older.invariant.room, c.in-Some.ensures.capacity, ap length c.in-Some.ensures.run, length-append rest (c.in-Some.older ∷ []), c.take_short.new.runs.ok, c.loop-older.runs.ok);
      layered = merged_layered rest c.in-Some.older c.loop-older.run c.merged-run.result c.merged-run.ensures layered;
      keys = (λ ts. merged_keys rest c.in-Some.older c.loop-older.run c.merged-run.result c.merged-run.ensures ts ∙ keys ts);
    }

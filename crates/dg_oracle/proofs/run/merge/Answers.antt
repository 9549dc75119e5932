use Rattle.std.proofs.Common.{◌≡◌, ◌∷◌, [], length, length-append, reverse, ◌∙◌, ap, arith}
use Rattle.dg_oracle.proofs.Merging.{merge_begins, merge_goes_on, one_fewer, reverse_push}
use Rattle.dg_oracle.proofs.run.merge.Goals as goal

pub loop-mark-init : goal.loop-mark-init
loop-mark-init g c = record {
  merging = rw c.requires.empty (merge_begins g.K.Ord.cmp g.met.K.Ord.total c.args.older.items c.args.newer.items c.requires.apart c.requires.older_ascends c.requires.newer_ascends);
  room = rw c.requires.empty (omega (arith, c.requires.fits));
}

pub loop-mark-preserved : goal.loop-mark-preserved
loop-mark-preserved g c =
    let took = c.in-Some.ensures in
    let next : reverse c.push_reserved.new.self.items ≡ c.in-Some.mark ∷ reverse c.loop-mark.marks.items = ap reverse c.push_reserved.ensures.items ∙ reverse_push g.K.Ord.cmp g.met.K.Ord.total c.loop-mark.marks.items c.in-Some.mark in
    record {
      merging = rw next (merge_goes_on g.K.Ord.cmp g.met.K.Ord.total c.args.older.items c.args.newer.items c.loop-mark.older.items c.loop-mark.newer.items (reverse c.loop-mark.marks.items) c.in-Some.mark c.pop_greater.new.older.items c.pop_greater.new.newer.items c.loop-mark.invariant.merging took);
      room = omega (arith, one_fewer g.K.Ord.cmp g.met.K.Ord.total c.loop-mark.older.items c.loop-mark.newer.items c.in-Some.mark c.pop_greater.new.older.items c.pop_greater.new.newer.items took, c.loop-mark.invariant.room, ap length c.push_reserved.ensures.items, length-append c.loop-mark.marks.items (c.in-Some.mark ∷ []), c.push_reserved.ensures.capacity);
    }

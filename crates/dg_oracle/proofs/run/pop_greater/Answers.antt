use Rattle.std.proofs.Common.{◌≡◌, ◌∙◌, ◌+◌, sym, subst, true, false, arith}
use Rattle.std.specs.Prelude.{Option, None, MatchOption}
use Rattle.std.specs.Vec.{vec_len}
use Rattle.dg_oracle.specs.declared.mark.Mark.{Mark}
use Rattle.dg_oracle.specs.Histories.{is_after, last_of}
use Rattle.dg_oracle.proofs.Merging.{takes_first, takes_second, empty_list}
use Rattle.dg_oracle.proofs.run.pop_greater.Goals as goal

pub returns-then-is_older_greater : goal.returns-then-is_older_greater
returns-then-is_older_greater g c =
    let after : is_after g.K.Ord.cmp (last_of c.args.older.now.items) (last_of c.args.newer.now.items) ≡ true = rw (← c.as_slice.ensures.value, ← c.as_slice-2.ensures.value) (sym c.is_older_greater.ensures ∙ c.if-is_older_greater.true) in
    takes_first g.K.Ord.cmp g.met.K.Ord.total c.args.older.now.items c.args.newer.now.items c.pop.new.self.items c.pop.result c.pop.ensures.items (λ (none : c.pop.result ≡ None). empty_list c.args.older.now.items (let l : vec_len c.args.older.now ≡ 0 = (subst (λ (o : Option (Mark g.row.K.Denot)). MatchOption o ((vec_len c.args.older.now ≡ 0) × (vec_len c.pop.new.self ≡ 0)) (λ _. vec_len c.pop.new.self + 1 ≡ vec_len c.args.older.now)) none c.pop.ensures.cases).0 in omega (arith, c.args.older.now.ok))) after

pub returns-else-is_older_greater : goal.returns-else-is_older_greater
returns-else-is_older_greater g c =
    let after : is_after g.K.Ord.cmp (last_of c.args.older.now.items) (last_of c.args.newer.now.items) ≡ false = rw (← c.as_slice.ensures.value, ← c.as_slice-2.ensures.value) (sym c.is_older_greater.ensures ∙ c.if-is_older_greater.false) in
    takes_second g.K.Ord.cmp g.met.K.Ord.total c.args.older.now.items c.args.newer.now.items c.pop-else-is_older_greater.new.self.items c.pop-else-is_older_greater.result c.pop-else-is_older_greater.ensures.items (λ (none : c.pop-else-is_older_greater.result ≡ None). empty_list c.args.newer.now.items (let l : vec_len c.args.newer.now ≡ 0 = (subst (λ (o : Option (Mark g.row.K.Denot)). MatchOption o ((vec_len c.args.newer.now ≡ 0) × (vec_len c.pop-else-is_older_greater.new.self ≡ 0)) (λ _. vec_len c.pop-else-is_older_greater.new.self + 1 ≡ vec_len c.args.newer.now)) none c.pop-else-is_older_greater.ensures.cases).0 in omega (arith, c.args.newer.now.ok))) after

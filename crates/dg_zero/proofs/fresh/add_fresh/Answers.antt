use Rattle.std.proofs.Common.{◌≡◌, ◌≤◌, ◌+◌, ◌-◌, ◌∙◌, ◌∷◌, ◌++◌, [], ℕ, List, length, ap, sym, rules, arith}
use Rattle.std.specs.Prelude.{map, slice_index}
use Rattle.dg_keys.specs.declared.record.Tablet.{Tablet}
use Rattle.dg_zero.specs.Places.{fresh_place, tally}
use Rattle.dg_zero.proofs.NewTablets.{length_tally, count_fits, counts_more}
use Rattle.dg_zero.proofs.fresh.add_fresh.Goals as goal

pub fewest-group-requires-clause-counted : goal.fewest-group-requires-clause-counted
fewest-group-requires-clause-counted c =
    ap (λ (cs : List ℕ). length cs) (c.as_slice.ensures.value ∙ c.requires.counted) ∙ length_tally c.args.count (c.args.places.now ++ map fresh_place c.args.made.now.tablets.items)

pub raise-requires-clause-most : goal.raise-requires-clause-most
raise-requires-clause-most c =
    let long : length c.args.made.now.counts.items ≡ c.args.count = ap (λ (cs : List ℕ). length cs) c.requires.counted ∙ length_tally c.args.count (c.args.places.now ++ map fresh_place c.args.made.now.tablets.items) in
    omega (arith, long, c.fewest-group.ensures.most)

pub raise-requires-clause-below : goal.raise-requires-clause-below
raise-requires-clause-below c =
    let few : slice_index c.args.made.now.counts.items (c.fewest-group.result - 1) ≤ length c.args.places.now + length c.args.made.now.tablets.items =
    count_fits c.args.count c.args.places.now c.args.made.now.tablets.items c.args.made.now.counts.items c.fewest-group.result c.requires.counted c.fewest-group.ensures.least c.fewest-group.ensures.most in
    omega (arith, few, c.requires.few, c.args.made.now.tablets.ok, c.args.made.now.tablets.small)

pub returns-clause-counts : goal.returns-clause-counts
returns-clause-counts c =
    let tablet : Tablet = record { pred = c.in_ok-pred.pred; group = c.fewest-group.result } in
    let pushed : c.push.new.self.items ≡ c.args.made.now.tablets.items ++ tablet ∷ [] = search rules in
    c.raise.ensures
    ∙ (counts_more c.args.count c.args.places.now c.args.made.now.tablets.items tablet c.args.made.now.counts.items c.requires.counted c.fewest-group.ensures.least c.fewest-group.ensures.most
    ∙ ap (λ (ts : List Tablet). tally c.args.count (c.args.places.now ++ map fresh_place ts)) (sym pushed))

use Rattle.std.proofs.Common.{rules, ◌≡◌, get_or, slice_set, sym, ap, ◌∙◌}
use Rattle.std.proofs.lemmas.Result.{on_ok_weaker}
use Rattle.dg_keys.specs.Keys.{pred_of}
use Rattle.dg_group.specs.Groups.{copy_after, IsOnly}
use Rattle.dg_group.proofs.CopyPlaces.{one_after, none_after, newer_at}
use Rattle.dg_group.proofs.applying.put_one.Goals as goal

pub put-requires-clause-newer : goal.put-requires-clause-newer
put-requires-clause-newer c =
    let only : IsOnly (pred_of c.args.part.now.key) c.args.copies.now.items c.in-Some.place = search rules in
    newer_at c.args.rec.now.ts c.args.part.now c.args.copies.now.items c.in-Some.place c.index_mut.result.now c.requires.some only.within (search rules) c.requires.newer

pub returns-in-Some-clause-ok : goal.returns-in-Some-clause-ok
returns-in-Some-clause-ok c =
    let only : IsOnly (pred_of c.args.part.now.key) c.args.copies.now.items c.in-Some.place = search rules in
    let is : get_or c.args.copies.now.items c.in-Some.place c.index_mut.result.now ≡ c.index_mut.result.now = search rules in
    on_ok_weaker c.put.result
    (λ e. ap (slice_set c.args.copies.now.items c.in-Some.place) (e ∙ ap (copy_after c.args.rec.now) (sym is)) ∙ one_after c.args.rec.now c.args.part.now c.args.copies.now.items c.in-Some.place c.index_mut.result.now c.requires.one only)
    c.put.ensures.ok

pub returns-in-None-clause-ok : goal.returns-in-None-clause-ok
returns-in-None-clause-ok c = none_after c.args.rec.now c.args.part.now c.args.copies.now.items c.requires.one (search rules)

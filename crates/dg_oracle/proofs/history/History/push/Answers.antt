use Rattle.std.proofs.Common.{◌<◌, ◌++◌, ◌∷◌, [], ◌∙◌, List, ap, map, sym}
use Rattle.std.specs.List.{AllByRecursion}
use Rattle.dg_oracle.specs.Commits.{Commit}
use Rattle.dg_oracle.specs.Histories.{marks_of, HasSameKeys, marked_at}
use Rattle.dg_oracle.proofs.Oracles.{not_among}
use Rattle.dg_oracle.proofs.Views.{layered_push, pushed_known, pushed_seen, times_seen}
use Rattle.dg_oracle.proofs.history.History.push.Goals as goal

pub settle-requires-clause-layered : goal.settle-requires-clause-layered
settle-requires-clause-layered g c =
    let runs = c.self.inside.runs.items in
    let times = c.self.inside.times.items in
    let before : AllByRecursion (λ time. time < c.args.ts) times = rw (sym (times_seen (marks_of runs) times), c.self.view_is) c.requires.newest in
    rw (c.reserve-else-is_err.ensures.items, c.of_commit.ensures) (layered_push c.args.ts c.args.keys.items runs c.self.invariant.layered (c.self.invariant.known c.args.ts (not_among c.args.ts times before)))

same : (g : _) (c : goal.After-settle g) → HasSameKeys (marks_of c.settle.new.runs.items) (marks_of (c.self.inside.runs.items ++ (record { newest = c.args.ts; marks = map (marked_at c.args.ts) c.args.keys.items }) ∷ []))
same g c = rw (← c.reserve-else-is_err.ensures.items, ← c.of_commit.ensures) c.settle.ensures.keys

pub invariant_of-self-in-Ok : goal.invariant_of-self-in-Ok
invariant_of-self-in-Ok g c = record {
  layered = c.settle.ensures.layered;
  known = rw (c.push_reserved.ensures.items, c.reserve.ensures.items) (pushed_known c.args.ts c.args.keys.items c.self.inside.runs.items c.settle.new.runs.items c.self.inside.times.items c.self.invariant.known (same g c));
}

pub returns-in-Ok-clause-ok : goal.returns-in-Ok-clause-ok
returns-in-Ok-clause-ok g c =
    let runs = c.self.inside.runs.items in
    let times = c.self.inside.times.items in
    let before : AllByRecursion (λ time. time < c.args.ts) times = rw (sym (times_seen (marks_of runs) times), c.self.view_is) c.requires.newest in
    let seen = pushed_seen c.args.ts c.args.keys.items runs c.settle.new.runs.items times before (c.self.invariant.known c.args.ts (not_among c.args.ts times before)) (same g c) in
    rw (c.push_reserved.ensures.items, c.reserve.ensures.items) (seen ∙ ap (λ (cs : List (Commit g.row.K.Denot)). cs ++ (record { ts = c.args.ts; keys = c.args.keys.items }) ∷ []) c.self.view_is)

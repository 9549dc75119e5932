use Rattle.std.proofs.Common.{◌≡◌, ◌+◌, ◌++◌, true, List, take, subst, sym, ◌∙◌}
use Rattle.std.specs.Prelude.{sum_by}
use Rattle.std.specs.List.{AllByRecursion}
use Rattle.dg_values.specs.Ascending.{Ascends, has}
use Rattle.dg_values.specs.declared.value.Posting.{Posting}
use Rattle.dg_schema.specs.declared.definition.PredDef.{PredDef}
use Rattle.dg_schema.specs.Definitions.{definition_of}
use Rattle.dg_graph.specs.Graphs.{after_changes}
use Rattle.dg_graph.specs.Changes.{changed}
use Rattle.dg_keys.specs.declared.key.Key.{Key}
use Rattle.dg_keys.specs.declared.conflict.ConflictKey.{ConflictKey}
use Rattle.dg_keys.specs.Keys.{key_cmp}
use Rattle.dg_edges.specs.Deltas.{data_key}
use Rattle.dg_edges.specs.Lists.{objects_at, reads_at}
use Rattle.dg_edges.specs.Replaced.{read_key, read_keys, keys_by}
use Rattle.dg_edges.proofs.ReplacedLaws.{IsSole, sole_keys, kept_more, keys_more, read_keys_ascend, read_keys_there, reads_are}
use Rattle.dg_edges.proofs.conflicts.keys_in_turn.Goals as goal

pub push_next-requires-clause-ascend : goal.push_next-requires-clause-ascend
push_next-requires-clause-ascend g c = subst (Ascends key_cmp) (sym c.requires.keys) (read_keys_ascend (g.S.Snapshot.declared c.args.snap.now) c.args.changes.now)

pub push_next-requires-clause-there : goal.push_next-requires-clause-there
push_next-requires-clause-there g c =
    let schema = g.S.Snapshot.declared c.args.snap.now in
    let changes = c.args.changes.now in
    let there = read_keys_there schema changes c.loop-change.change-index c.change-item.result c.loop-change-test.true (sym c.change-item.is) in
    subst (λ (ks : List Key). AllByRecursion (λ k. has key_cmp ks k ≡ true) (read_key c.schema.result.now c.change-item.result)) (sym c.requires.keys)
    (subst (λ (known : List PredDef). AllByRecursion (λ k. has key_cmp (read_keys schema changes) k ≡ true) (read_key known c.change-item.result)) (sym c.schema.ensures) there)

pub loop-change-preserved : goal.loop-change-preserved
loop-change-preserved g c =
    let graph = g.S.Snapshot.graph c.args.snap.now in
    let schema = g.S.Snapshot.declared c.args.snap.now in
    let changes = c.args.changes.now in
    let i = c.loop-change.change-index in
    let change = c.change-item.result in
    let before = after_changes schema graph (take i changes) in
    let is = sym c.change-item.is in
    let sole = subst (AllByRecursion (IsSole schema)) (sym c.requires.keys) (sole_keys schema changes) in
    let known : definition_of c.schema.result.now (changed change).p ≡ definition_of schema (changed change).p = λ j. definition_of (c.schema.ensures j) (changed change).p in
    let made = c.in_ok-push_next.ensures.found (objects_at before) c.loop-change.invariant.lists in
    record {
      lists = ◌∙◌ {A = List (List Posting)} (c.in_ok-push_next.ensures.lists (objects_at before) c.loop-change.invariant.lists) (kept_more schema graph changes i change c.args.keys.now sole c.loop-change-test.true is);
      found = ◌∙◌ {A = List ConflictKey} made (◌∙◌ {A = List ConflictKey} (λ j. c.loop-change.invariant.found j ++ keys_by (known j) (objects_at before (data_key change)) change) (keys_more schema graph changes i change c.loop-change-test.true is));
    }

pub returns-clause-reads : goal.returns-clause-reads
returns-clause-reads g c =
    let schema = g.S.Snapshot.declared c.args.snap.now in
    let changes = c.args.changes.now in
    c.in_ok-lists.ensures.reads ∙ ((λ i. c.args.reads.now + sum_by reads_at (c.requires.keys i)) ∙ λ i. c.args.reads.now + reads_are schema changes i)

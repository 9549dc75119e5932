use Rattle.std.proofs.Common.{◌≡◌, ℕ, ◌<◌, List, ◌++◌, length, rules, ap, ◌∙◌, subst}
use Rattle.std.proofs.lemmas.Result.{on_ok_weaker}
use Rattle.dg_tree.specs.Texts.{key_text, tree_text}
use Rattle.dg_level.specs.Blocks.{array_shown}
use Rattle.dg_level.proofs.BlockLaws.{named, key_passes, tree_passes}
use Rattle.dg_level.proofs.running.push_named.Goals as goal

pub returns-in_err-array-clause-too_large : goal.returns-in_err-array-clause-too_large
returns-in_err-array-clause-too_large g c = λ ds lawful kinds is known e.
    let schema = g.S.Snapshot.declared c.args.snap.now in
    let graph = g.S.Snapshot.graph c.args.snap.now in
    let tree = array_shown schema graph ds c.args.vars.now.variables c.args.block.now c.args.list.now in
    tree_passes c.args.block.now.name tree c.args.out.now 16777216 (c.array_shown.ensures.too_large ds lawful kinds is known (search rules))

pub returns-in_err-key-clause-too_large : goal.returns-in_err-key-clause-too_large
returns-in_err-key-clause-too_large g c = λ ds lawful kinds is known e.
    let schema = g.S.Snapshot.declared c.args.snap.now in
    let graph = g.S.Snapshot.graph c.args.snap.now in
    let tree = array_shown schema graph ds c.args.vars.now.variables c.args.block.now c.args.list.now in
    let out = c.args.out.now in
    key_passes c.args.block.now.name tree out 16777216 (subst (λ (k : List ℕ). 16777216 < length (out ++ key_text k)) c.as_str.ensures (c.key.ensures.too_large (search rules)))

pub returns-clause-ok : goal.returns-clause-ok
returns-clause-ok g c = λ ds lawful kinds is known.
    let schema = g.S.Snapshot.declared c.args.snap.now in
    let graph = g.S.Snapshot.graph c.args.snap.now in
    let name = c.args.block.now.name in
    let tree = array_shown schema graph ds c.args.vars.now.variables c.args.block.now c.args.list.now in
    let out = c.args.out.now in
    let keyed : c.key.new.self ≡ out ++ key_text name = c.in_ok-key.ensures.ok ∙ ap (λ k. out ++ key_text k) c.as_str.ensures in
    let row : c.begun_text.result.now ≡ tree_text tree = c.begun_text.ensures ∙ c.in_ok-array.ensures.ok ds lawful kinds is known in
    on_ok_weaker c.mark.result (λ e. e ∙ ((λ i. keyed i ++ row i) ∙ named name tree out)) c.mark.ensures.ok

pub returns-clause-too_large : goal.returns-clause-too_large
returns-clause-too_large g c = λ ds lawful kinds is known e.
    let schema = g.S.Snapshot.declared c.args.snap.now in
    let graph = g.S.Snapshot.graph c.args.snap.now in
    let name = c.args.block.now.name in
    let tree = array_shown schema graph ds c.args.vars.now.variables c.args.block.now c.args.list.now in
    let out = c.args.out.now in
    let keyed : c.key.new.self ≡ out ++ key_text name = c.in_ok-key.ensures.ok ∙ ap (λ k. out ++ key_text k) c.as_str.ensures in
    let row : c.begun_text.result.now ≡ tree_text tree = c.begun_text.ensures ∙ c.in_ok-array.ensures.ok ds lawful kinds is known in
    subst (λ (w : List ℕ). 16777216 < length w) ((λ i. keyed i ++ row i) ∙ named name tree out) (c.mark.ensures.too_large e)

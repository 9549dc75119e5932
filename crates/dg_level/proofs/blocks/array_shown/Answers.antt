use Rattle.std.proofs.Common.{◌≡◌, ◌<◌, length, ap, ◌∙◌, subst}
use Rattle.std.specs.Prelude.{Option, Some, None, IfOk}
use Rattle.dg_tree.specs.declared.tree.Tree.TheVariants as trees
use Rattle.dg_tree.specs.Texts.{tree_text}
use Rattle.dg_level.specs.declared.recursions.Recursion.{Recursion}
use Rattle.dg_level.specs.Blocks.{trees_shown}
use Rattle.dg_level.specs.Recursions.{recursion_in}
use Rattle.dg_level.proofs.blocks.array_shown.Goals as goal

pub returns-in-None-clause-ok : goal.returns-in-None-clause-ok
returns-in-None-clause-ok g c = λ ds lawful kinds is known.
    let schema = g.S.Snapshot.declared c.args.snap.now in
    let graph = g.S.Snapshot.graph c.args.snap.now in
    let vars = c.args.vars.now.variables in
    let block = c.args.block.now in
    let list = c.args.list.now in
    let which : None ≡ recursion_in block.dirs = c.in-None.ensures.value ∙ ap recursion_in c.as_slice.ensures in
    subst (λ (o : Option Recursion). IfOk c.plain_array.result (λ rows. rows.begun ≡ tree_text (trees.Array (trees_shown schema graph ds vars block list o)))) which (c.plain_array.ensures.ok ds lawful kinds is known)

pub returns-in-None-clause-too_large : goal.returns-in-None-clause-too_large
returns-in-None-clause-too_large g c = λ ds lawful kinds is known e.
    let schema = g.S.Snapshot.declared c.args.snap.now in
    let graph = g.S.Snapshot.graph c.args.snap.now in
    let vars = c.args.vars.now.variables in
    let block = c.args.block.now in
    let list = c.args.list.now in
    let which : None ≡ recursion_in block.dirs = c.in-None.ensures.value ∙ ap recursion_in c.as_slice.ensures in
    subst (λ (o : Option Recursion). 16777216 < length (tree_text (trees.Array (trees_shown schema graph ds vars block list o)))) which (c.plain_array.ensures.too_large ds lawful kinds is known e)

pub returns-in-Some-clause-ok : goal.returns-in-Some-clause-ok
returns-in-Some-clause-ok g c = λ ds lawful kinds is known.
    let schema = g.S.Snapshot.declared c.args.snap.now in
    let graph = g.S.Snapshot.graph c.args.snap.now in
    let vars = c.args.vars.now.variables in
    let block = c.args.block.now in
    let list = c.args.list.now in
    let which : Some c.in-Some.recursion ≡ recursion_in block.dirs = c.in-Some.ensures.value ∙ ap recursion_in c.as_slice.ensures in
    subst (λ (o : Option Recursion). IfOk c.recursed_array.result (λ rows. rows.begun ≡ tree_text (trees.Array (trees_shown schema graph ds vars block list o)))) which (c.recursed_array.ensures.ok ds lawful kinds is)

pub returns-in-Some-clause-too_large : goal.returns-in-Some-clause-too_large
returns-in-Some-clause-too_large g c = λ ds lawful kinds is known e.
    let schema = g.S.Snapshot.declared c.args.snap.now in
    let graph = g.S.Snapshot.graph c.args.snap.now in
    let vars = c.args.vars.now.variables in
    let block = c.args.block.now in
    let list = c.args.list.now in
    let which : Some c.in-Some.recursion ≡ recursion_in block.dirs = c.in-Some.ensures.value ∙ ap recursion_in c.as_slice.ensures in
    subst (λ (o : Option Recursion). 16777216 < length (tree_text (trees.Array (trees_shown schema graph ds vars block list o)))) which (c.recursed_array.ensures.too_large ds lawful kinds is e)

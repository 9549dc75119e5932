use Rattle.std.proofs.Common.{◌≡◌, ◌<◌, Bool, true, false, length, rules, sym, ap, ◌∙◌, subst}
use Rattle.std.specs.Prelude.{IfOk, if◌then◌else◌}
use Rattle.std.specs.List.{list_any}
use Rattle.dg_tree.specs.declared.tree.Tree.TheVariants as trees
use Rattle.dg_tree.specs.Texts.{tree_text}
use Rattle.dg_level.specs.Blocks.{is_normalize, flat_shown, nested_shown}
use Rattle.dg_level.proofs.blocks.plain_array.Goals as goal

pub returns-then-normalizes-clause-ok : goal.returns-then-normalizes-clause-ok
returns-then-normalizes-clause-ok g c = λ ds lawful kinds is known.
    let schema = g.S.Snapshot.declared c.args.snap.now in
    let graph = g.S.Snapshot.graph c.args.snap.now in
    let vars = c.args.vars.now.variables in
    let block = c.args.block.now in
    let list = c.args.list.now in
    let yes : c.normalizes.result ≡ true = search rules in
    let flat : true ≡ list_any is_normalize block.dirs = sym yes ∙ (c.normalizes.ensures ∙ ap (list_any is_normalize) c.as_slice.ensures) in
    subst (λ (b : Bool). IfOk c.flat_array.result (λ rows. rows.begun ≡ tree_text (trees.Array (if b then flat_shown schema graph ds vars block list else nested_shown schema graph ds vars block list)))) flat
    (c.flat_array.ensures.ok ds lawful kinds is known)

pub returns-then-normalizes-clause-too_large : goal.returns-then-normalizes-clause-too_large
returns-then-normalizes-clause-too_large g c = λ ds lawful kinds is known e.
    let schema = g.S.Snapshot.declared c.args.snap.now in
    let graph = g.S.Snapshot.graph c.args.snap.now in
    let vars = c.args.vars.now.variables in
    let block = c.args.block.now in
    let list = c.args.list.now in
    let yes : c.normalizes.result ≡ true = search rules in
    let flat : true ≡ list_any is_normalize block.dirs = sym yes ∙ (c.normalizes.ensures ∙ ap (list_any is_normalize) c.as_slice.ensures) in
    subst (λ (b : Bool). 16777216 < length (tree_text (trees.Array (if b then flat_shown schema graph ds vars block list else nested_shown schema graph ds vars block list)))) flat
    (c.flat_array.ensures.too_large ds lawful kinds is known e)

pub returns-clause-ok : goal.returns-clause-ok
returns-clause-ok g c = λ ds lawful kinds is known.
    let schema = g.S.Snapshot.declared c.args.snap.now in
    let graph = g.S.Snapshot.graph c.args.snap.now in
    let vars = c.args.vars.now.variables in
    let block = c.args.block.now in
    let list = c.args.list.now in
    let no : c.normalizes.result ≡ false = search rules in
    let flat : false ≡ list_any is_normalize block.dirs = sym no ∙ (c.normalizes.ensures ∙ ap (list_any is_normalize) c.as_slice.ensures) in
    subst (λ (b : Bool). IfOk c.nested_array.result (λ rows. rows.begun ≡ tree_text (trees.Array (if b then flat_shown schema graph ds vars block list else nested_shown schema graph ds vars block list)))) flat
    (c.nested_array.ensures.ok ds lawful kinds is known)

pub returns-clause-too_large : goal.returns-clause-too_large
returns-clause-too_large g c = λ ds lawful kinds is known e.
    let schema = g.S.Snapshot.declared c.args.snap.now in
    let graph = g.S.Snapshot.graph c.args.snap.now in
    let vars = c.args.vars.now.variables in
    let block = c.args.block.now in
    let list = c.args.list.now in
    let no : c.normalizes.result ≡ false = search rules in
    let flat : false ≡ list_any is_normalize block.dirs = sym no ∙ (c.normalizes.ensures ∙ ap (list_any is_normalize) c.as_slice.ensures) in
    subst (λ (b : Bool). 16777216 < length (tree_text (trees.Array (if b then flat_shown schema graph ds vars block list else nested_shown schema graph ds vars block list)))) flat
    (c.nested_array.ensures.too_large ds lawful kinds is known e)

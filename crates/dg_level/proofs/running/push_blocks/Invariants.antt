use Rattle.std.proofs.Common.{◌≡◌, List, ◌++◌, false, take}
use Rattle.dg_graph.specs.Graphs.{IsLawful}
use Rattle.dg_check.specs.Parts.{AreBlocksOf}
use Rattle.dg_check.specs.Variables.{Definition}
use Rattle.dg_funcs.specs.Laws.{AreOfKind}
use Rattle.dg_tree.specs.Texts.{field_text}
use Rattle.dg_level.specs.Blocks.{block_shown}
use Rattle.dg_level.specs.Parts.{parts_text, has_parts}
use Rattle.dg_level.proofs.RunLaws.{texts_of}
use Rattle.dg_level.proofs.running.push_blocks.Given as goal

-- what the blocks so far show is written
abbrev pub invariant-loop-at : goal.invariant-loop-at
invariant-loop-at g l =
    let schema = g.S.Snapshot.declared l.snap in
    let graph = g.S.Snapshot.graph l.snap in
    (ds : List Definition) → IsLawful schema graph → AreOfKind ds l.vars.variables → AreBlocksOf schema ds l.blocks l.kept
    → (l.out ≡ l.initial.out ++ parts_text false (texts_of (block_shown schema graph ds l.vars.variables) field_text (take l.at l.blocks)))
    × (l.wrote ≡ has_parts false (texts_of (block_shown schema graph ds l.vars.variables) field_text (take l.at l.blocks)))

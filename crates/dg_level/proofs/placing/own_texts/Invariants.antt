use Rattle.std.proofs.Common.{◌≡◌, ℕ, List, map, take}
use Rattle.dg_tree.specs.Texts.{key_text}
use Rattle.dg_level.specs.Columns.{TreesOf, ShowsBy}
use Rattle.dg_level.specs.Rows.{row_text}
use Rattle.dg_level.specs.Shown.{under}
use Rattle.dg_level.proofs.placing.own_texts.Given as goal

abbrev pub invariant-loop-place : goal.invariant-loop-place
invariant-loop-place g l =
    (name : List ℕ) (shown : TreesOf) → l.fetched.key ≡ key_text name → ShowsBy (g.S.Snapshot.graph l.snap) l.vars.variables l.nodes l.fetched.content shown
    → l.texts.items ≡ map (λ n. row_text (map (under name) (shown n))) (take l.place l.nodes)

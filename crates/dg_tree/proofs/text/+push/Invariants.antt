use Rattle.std.proofs.Common.{◌≡◌, ◌≤◌, ◌++◌, length, codes, map}
use Rattle.dg_tree.specs.Texts.{with_commas, tree_text, field_text}
use Rattle.dg_tree.proofs.Commas.{texts_from}
use Rattle.dg_tree.proofs.text.+push.Given as goal

-- what is written and what is left are the whole
abbrev pub invariant-push_array-loop-place : goal.invariant-push_array-loop-place
invariant-push_array-loop-place l =
    (l.out ++ (texts_from tree_text l.place l.trees ++ codes "]") ≡ l.initial.out ++ (with_commas (map tree_text l.trees) ++ codes "]"))
    × (length l.initial.out ≤ l.limit → length l.out ≤ l.limit)

abbrev pub invariant-push_object-loop-place : goal.invariant-push_object-loop-place
invariant-push_object-loop-place l =
    (l.out ++ (texts_from field_text l.place l.fields ++ codes "}") ≡ l.initial.out ++ (with_commas (map field_text l.fields) ++ codes "}"))
    × (length l.initial.out ≤ l.limit → length l.out ≤ l.limit)

use Rattle.std.proofs.Common.{◌≡◌, ◌++◌, [], map}
use Rattle.dg_tree.specs.Texts.{with_commas}
use Rattle.dg_tree.proofs.Commas.{texts_from}
use Rattle.dg_node.specs.NewUids.{member_text}
use Rattle.dg_node.proofs.new_uids.push_members.Given as goal

-- what is written and what is left are the whole
abbrev pub invariant-loop-place : goal.invariant-loop-place
invariant-loop-place l = l.text ++ (texts_from member_text l.place l.nodes ++ []) ≡ l.initial.text ++ (with_commas (map member_text l.nodes) ++ [])

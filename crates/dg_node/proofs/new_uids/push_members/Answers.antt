use Rattle.std.proofs.Common.{◌≡◌, ◌+◌, [], ◌∷◌, ◌++◌, drop, map, sym, ap, ◌∙◌, arith}
use Rattle.std.proofs.lemmas.List.{append-nil, drop_more}
use Rattle.dg_tree.specs.Texts.{with_commas}
use Rattle.dg_tree.proofs.Commas.{all_left, goes_on, nothing_left}
use Rattle.dg_node.specs.NewUids.{member_text}
use Rattle.dg_node.proofs.new_uids.push_members.Goals as goal

pub loop-place-init : goal.loop-place-init
loop-place-init c = ap (λ left. c.args.text.now ++ (left ++ [])) (all_left (map member_text c.args.nodes.now))

pub loop-place-preserved : goal.loop-place-preserved
loop-place-preserved c =
    let l = c.loop-place in
    let xs = c.args.nodes.now in
    let x = c.index-nodes-place.result in
    let here : drop l.place xs ≡ x ∷ drop (l.place + 1) xs = drop_more xs l.place x (omega arith) ∙ ap (λ y. y ∷ drop (l.place + 1) xs) (sym c.index-nodes-place.is) in
    let text = c.in_ok-push_str.ensures.ok ∙ ap (λ w. c.push_comma.new.text ++ w) (c.as_str-in-loop-place.ensures ∙ c.in_ok-member.ensures) in
    goes_on member_text l.place xs x l.text [] _ here l.invariant c.push_comma.new.text c.push_str.new.self c.in_ok-push_comma.ensures text

pub returns : goal.returns
returns c =
    let xs = c.args.nodes.now in
    let all = with_commas (map member_text xs) in
    sym (append-nil c.loop-place.text) ∙ nothing_left member_text c.loop-place.place xs c.loop-place.text [] _ (omega arith) c.loop-place.invariant ∙ ap (λ w. c.args.text.now ++ w) (append-nil all)

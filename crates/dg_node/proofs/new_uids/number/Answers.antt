use Rattle.std.proofs.Common.{◌≡◌, ℕ, ◌+◌, List, [], ◌∷◌, ◌++◌, length, sym, ap, ◌∙◌, arith, length-append}
use Rattle.dg_node.specs.declared.new_uids.Numbered.{Numbered}
use Rattle.dg_node.specs.NewUids.{numbered}
use Rattle.dg_node.proofs.new_uids.number.Goals as goal

-- one name more has the number behind the others'
one_more : (first : ℕ) (names : List (List ℕ)) (name : List ℕ) (uid : ℕ) → uid ≡ first + length names
    → numbered first (names ++ name ∷ []) ≡ numbered first names ++ (record { name = name; uid = uid }) ∷ []
one_more first [] name uid e = let at_first : first ≡ uid = omega arith in ap (λ n. (record { name = name; uid = n }) ∷ []) at_first
one_more first (before ∷ names) name uid e = ap (λ nodes. (record { name = before; uid = first }) ∷ nodes) (one_more (first + 1) names name uid (omega arith))

pushed : (first : ℕ) (names : List (List ℕ)) (name : List ℕ) (uid : ℕ) (before after : List Numbered) → before ≡ numbered first names → uid ≡ first + length names
    → after ≡ before ++ (record { name = name; uid = uid }) ∷ [] → after ≡ numbered first (names ++ name ∷ [])
pushed first names name uid before after are is put = put ∙ ap (λ nodes. nodes ++ (record { name = name; uid = uid }) ∷ []) are ∙ sym (one_more first names name uid is)

pub loop-name-preserved : goal.loop-name-preserved
loop-name-preserved c =
    let l = c.loop-name in record {
      nodes = pushed c.args.first l.yielded c.in-Some.name l.uid l.nodes.items c.push.new.self.items l.invariant.nodes l.invariant.uid c.in_ok-push.ensures.items;
      uid = simp length-append (omega arith);
    }

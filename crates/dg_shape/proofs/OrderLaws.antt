-- Laws of lists in order: without a key, by keys that agree, and what stands in them.
use Rattle.std.proofs.Common.{◌≡◌, ℕ, Bool, true, List, [], ◌∷◌, refl, sym, ◌∙◌}
use Rattle.std.specs.Prelude.{Option}
use Rattle.std.specs.List.{AllByRecursion}
use Rattle.std.specs.declared.cmp.Ordering.TheVariants.{Less}
use Rattle.std.specs.Ordering.{nat_cmp, ordering_then}
use Rattle.dg_values.specs.declared.value.Value.{Value}
use Rattle.dg_values.specs.Ascending.{Ascends, has}
use Rattle.dg_sets.proofs.MadeOrders.{nat_order}
use Rattle.dg_sets.proofs.OnceEach.{ascending_ascends}
use Rattle.dg_sets.proofs.Sets.{one_list, from_each, has_more}
use Rattle.dg_shape.specs.Orders.{key_cmp, node_cmp, ordered}
use Rattle.dg_shape.proofs.KeyOrders.{node_order}
use Rattle.dg_shape.proofs.StableSorts.{same_found}

-- without a key nodes that ascend stay as they are
pub ordered_plain : (nodes : List ℕ) → Ascends nat_cmp nodes → ordered [] nodes ≡ nodes
ordered_plain nodes a =
    one_list nat_cmp nat_order (ordered [] nodes) nodes (ascending_ascends nat_cmp nat_order nodes) a (has_more nat_cmp nat_order [] nodes)

-- the same nodes stand in a list in order
pub ordered_has : (keys : List (Bool × (ℕ → Option Value))) (nodes : List ℕ) (n : ℕ) → has nat_cmp (ordered keys nodes) n ≡ has nat_cmp nodes n
ordered_has keys nodes n =
    let o = node_order keys in
    same_found nat_cmp (node_cmp keys) nat_order o (ordered keys nodes) n ∙ (has_more (node_cmp keys) o [] nodes n ∙ same_found (node_cmp keys) nat_cmp o nat_order nodes n)

-- ---- keys that agree

-- keys of one direction each that give a node the same values
abbrev pub Agree : List (Bool × (ℕ → Option Value)) → List (Bool × (ℕ → Option Value)) → ℕ → Type 0
Agree [] [] n = Unit {0}
Agree [] (l ∷ ls) n = ⊥
Agree (k ∷ ks) [] n = ⊥
Agree (k ∷ ks) (l ∷ ls) n = (k.0 ≡ l.0) × (k.1 n ≡ l.1 n) × Agree ks ls n

compared_alike : (ks ls : List (Bool × (ℕ → Option Value))) (a b : ℕ) → Agree ks ls a → Agree ks ls b → node_cmp ks a b ≡ node_cmp ls a b
compared_alike [] [] a b p q = refl
compared_alike [] (l ∷ ls) a b p q = absurd p
compared_alike (k ∷ ks) [] a b p q = absurd p
compared_alike (k ∷ ks) (l ∷ ls) a b p q = λ i. ordering_then (key_cmp (p.0 i) (p.1 i) (q.1 i)) (compared_alike ks ls a b p.2 q.2 i)

ascend_alike : (ks ls : List (Bool × (ℕ → Option Value))) (nodes : List ℕ) → AllByRecursion (Agree ks ls) nodes → Ascends (node_cmp ks) nodes → Ascends (node_cmp ls) nodes
ascend_alike ks ls [] p a = tt
ascend_alike ks ls (n ∷ nodes) p a = (behind nodes p.1 a.0, ascend_alike ks ls nodes p.1 a.1)
  where
    behind : (ms : List ℕ) → AllByRecursion (Agree ks ls) ms → AllByRecursion (λ m. node_cmp ks n m ≡ Less) ms → AllByRecursion (λ m. node_cmp ls n m ≡ Less) ms
    behind [] q h = tt
    behind (m ∷ ms) q h = (sym (compared_alike ks ls n m p.0 q.0) ∙ h.0, behind ms q.1 h.1)

-- keys that agree at each of the nodes put them in one order
pub ordered_alike : (ks ls : List (Bool × (ℕ → Option Value))) (nodes : List ℕ) → ((n : ℕ) → has nat_cmp nodes n ≡ true → Agree ks ls n) → ordered ks nodes ≡ ordered ls nodes
ordered_alike ks ls nodes agree =
    let o = node_order ks in
    let t = node_order ls in
    let each : AllByRecursion (Agree ks ls) (ordered ks nodes) = from_each nat_cmp nat_order (Agree ks ls) (ordered ks nodes) (λ n h. agree n (sym (ordered_has ks nodes n) ∙ h)) in
    one_list (node_cmp ls) t (ordered ks nodes) (ordered ls nodes) (ascend_alike ks ls (ordered ks nodes) each (ascending_ascends (node_cmp ks) o nodes)) (ascending_ascends (node_cmp ls) t nodes)
    (λ n. same_found (node_cmp ls) nat_cmp t nat_order (ordered ks nodes) n ∙ (ordered_has ks nodes n ∙ (sym (ordered_has ls nodes n) ∙ same_found nat_cmp (node_cmp ls) nat_order t (ordered ls nodes) n)))

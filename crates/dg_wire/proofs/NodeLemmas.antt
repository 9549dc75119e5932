-- The lines of nodes, one after another.
use Rattle.std.proofs.Common.{◌≡◌, ℕ, zero, suc, ◌+◌, ◌*◌, List, [], ◌∷◌, ◌++◌, length, refl, ap, sym, ◌∙◌, append_assoc, length-append, arith}
use Rattle.std.specs.List.{join_with_byte}
use Rattle.dg_wire.specs.Generator.{node_text, node_behind, nodes_behind, joint}
use Rattle.dg_wire.specs.Draws.{Drawing, drawn}

-- one text more, joined to others
join_more : (t : List ℕ) (ts : List (List ℕ)) (text : List ℕ) → join_with_byte 10 ((t ∷ ts) ++ (text ∷ [])) ≡ join_with_byte 10 (t ∷ ts) ++ (10 ∷ text)
join_more t [] text = refl
join_more t (u ∷ us) text = ap (λ (x : List ℕ). t ++ (10 ∷ x)) (join_more u us text) ∙ sym (append_assoc t (10 ∷ join_with_byte 10 (u ∷ us)) (10 ∷ text))

pub joined : (n : ℕ) (ts : List (List ℕ)) (text : List ℕ) → length ts ≡ n → join_with_byte 10 (ts ++ (text ∷ [])) ≡ join_with_byte 10 ts ++ (joint n ++ text)
joined zero [] text e = refl
joined (suc n) (t ∷ ts) text e = join_more t ts text
joined zero (t ∷ ts) text e = absurd (omega (arith, e))
joined (suc n) [] text e = absurd (omega (arith, e))

pub nodes_count : (seed size done n : ℕ) → length (nodes_behind seed size done n) ≡ n
nodes_count seed size done zero = refl
nodes_count seed size done (suc n) = omega (arith, length-append (nodes_behind seed size done n) (node_behind seed size (done + n) ∷ []), nodes_count seed size done n)

-- one node more
pub node_next : (seed size done n : ℕ) → join_with_byte 10 (nodes_behind seed size done (suc n)) ≡ join_with_byte 10 (nodes_behind seed size done n) ++ (joint n ++ node_behind seed size (done + n))
node_next seed size done n = joined n (nodes_behind seed size done n) (node_behind seed size (done + n)) (nodes_count seed size done n)

pub node_more : (seed size done n s : ℕ) (text new node : List ℕ) → text ≡ join_with_byte 10 (nodes_behind seed size done n) → s ≡ seed → node ≡ node_behind s size (done + n) → new ≡ text ++ (joint n ++ node) → new ≡ join_with_byte 10 (nodes_behind seed size done (n + 1))
node_more seed size done n s text new node before same is e =
    let one : suc n ≡ n + 1 = omega arith in
    e
    ∙ ap (λ (l : List ℕ). l ++ (joint n ++ node)) before
    ∙ ap (λ (l : List ℕ). join_with_byte 10 (nodes_behind seed size done n) ++ (joint n ++ l)) (is ∙ ap (λ (x : ℕ). node_behind x size (done + n)) same)
    ∙ sym (node_next seed size done n)
    ∙ ap (λ (m : ℕ). join_with_byte 10 (nodes_behind seed size done m)) one

same_draw : (s t m n bound : ℕ) → s ≡ t → m ≡ n → drawn s m bound ≡ drawn t n bound
same_draw s t m n bound e f = ap (λ (x : ℕ). drawn x m bound) e ∙ ap (λ (x : ℕ). drawn t x bound) f

same_text : (node n m a b f g : ℕ) → n ≡ m → a ≡ b → f ≡ g → node_text node n a (f + 1) ≡ node_text node m b (g + 1)
same_text node n m a b f g d e h = ap (λ (x : ℕ). node_text node x a (f + 1)) d ∙ ap (λ (x : ℕ). node_text node m x (f + 1)) e ∙ ap (λ (x : ℕ). node_text node m b (x + 1)) h

-- the node that three draws give
pub node_drawn : (size done name age friend : ℕ) (first second third : Drawing) → first.made ≡ 3 * done → second ≡ record { seed = first.seed; made = first.made + 1 } → third ≡ record { seed = second.seed; made = second.made + 1 } → name ≡ drawn first.seed first.made 1000 → age ≡ drawn second.seed second.made 100 → friend ≡ drawn third.seed third.made size → node_text (done + 1) name age (friend + 1) ≡ node_behind first.seed size done
node_drawn size done name age friend first second third made one two is_name is_age is_friend =
    let to_second : second.made ≡ first.made + 1 = ap (λ (d : Drawing). d.made) one in
    let to_third : third.made ≡ second.made + 1 = ap (λ (d : Drawing). d.made) two in
    let second_seed : second.seed ≡ first.seed = ap (λ (d : Drawing). d.seed) one in
    let third_seed : third.seed ≡ first.seed = ap (λ (d : Drawing). d.seed) two ∙ second_seed in
    let second_made : second.made ≡ 3 * done + 1 = omega arith in
    let third_made : third.made ≡ 3 * done + 2 = omega arith in
    same_text (done + 1) name (drawn first.seed (3 * done) 1000) age (drawn first.seed (3 * done + 1) 100) friend (drawn first.seed (3 * done + 2) size)
    (is_name ∙ ap (λ (x : ℕ). drawn first.seed x 1000) made)
    (is_age ∙ same_draw second.seed first.seed second.made (3 * done + 1) 100 second_seed second_made)
    (is_friend ∙ same_draw third.seed first.seed third.made (3 * done + 2) size third_seed third_made)

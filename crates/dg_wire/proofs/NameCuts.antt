use Rattle.std.proofs.Common.{◌≡◌, ◌≢◌, ℕ, ◌≤◌, ◌⊎◌, inl, inr, true, ◌&&◌, ◌||◌, List, [], ◌∷◌, ◌++◌, length, refl, ap, subst, length-append, arith}
use Rattle.std.specs.Prelude.{IsTrue}
use Rattle.std.proofs.Math.Dec.{leb}
use Rattle.std.proofs.lemmas.Bool.{false≢true}
use Rattle.std.proofs.lemmas.Bool.Decides.{nat_tests}
use Rattle.std.proofs.lemmas.List.{append-nil}
use Rattle.dg_wire.specs.Names.{starts_name, goes_on, is_dot_before, is_name_end}
use Rattle.dg_wire.specs.Frames.{IsName}
use Rattle.dg_wire.specs.Cuts.{Begins}
use Rattle.dg_wire.proofs.LineLemmas.{all_of, both_of}

-- a name doesn't end in a dot
dot_end : (cs : List ℕ) → IsTrue (is_name_end (cs ++ (46 ∷ []))) → ⊥
dot_end [] h = false≢true h
dot_end (c ∷ cs) h = dot_end cs (both_of (goes_on c || is_dot_before c (cs ++ (46 ∷ []))) (is_name_end (cs ++ (46 ∷ []))) h).1

goes_or_dot : (c : ℕ) (cs : List ℕ) → IsTrue (goes_on c || is_dot_before c cs) → IsTrue (goes_on c) ⊎ (c ≡ 46)
goes_or_dot c [] h = grind (arith, nat_tests)
goes_or_dot c (d ∷ ds) h = grind (arith, nat_tests)

goes_before_dot : (c : ℕ) → IsTrue (goes_on c || is_dot_before c (46 ∷ [])) → IsTrue (goes_on c)
goes_before_dot c h = grind (arith, nat_tests)

alone : (c : ℕ) (cs : List ℕ) → IsTrue (goes_on c) → IsTrue (goes_on c || is_dot_before c cs)
alone c [] h = grind (arith, nat_tests)
alone c (d ∷ ds) h = grind (arith, nat_tests)

goes_last : (c : ℕ) → IsTrue (is_name_end (c ∷ [])) → IsTrue (goes_on c)
goes_last c h = grind (arith, nat_tests)

-- a front of a name's end is one, or ends in a dot
end_front : (cs more : List ℕ) → IsTrue (is_name_end (cs ++ more)) → IsTrue (is_name_end cs) ⊎ ((ds : List ℕ) × (cs ≡ ds ++ (46 ∷ [])))
end_front [] more h = inl refl
end_front (c ∷ []) more h =
    elim (goes_or_dot c more (both_of (goes_on c || is_dot_before c more) (is_name_end more) h).0) [ inl g ↦ inl (all_of (goes_on c || is_dot_before c []) true (alone c [] g) refl) | inr e ↦ inr ([], ap (λ (n : ℕ). n ∷ []) e) ]
end_front (c ∷ d ∷ ds) more h =
    let parts = both_of (goes_on c || is_dot_before c (d ∷ ds)) (is_name_end ((d ∷ ds) ++ more)) h in
    elim (end_front (d ∷ ds) more parts.1) [ inl k ↦ inl (all_of (goes_on c || is_dot_before c (d ∷ ds)) (is_name_end (d ∷ ds)) parts.0 k) | inr k ↦ inr (c ∷ k.0, ap (λ (l : List ℕ). c ∷ l) k.1) ]

-- what stands before a dot is an end
end_before_dot : (cs more : List ℕ) → IsTrue (is_name_end ((cs ++ (46 ∷ [])) ++ more)) → IsTrue (is_name_end cs)
end_before_dot [] more h = refl
end_before_dot (c ∷ []) more h = all_of (goes_on c || is_dot_before c []) true (alone c [] (goes_before_dot c (both_of (goes_on c || is_dot_before c (46 ∷ [])) _ h).0)) refl
end_before_dot (c ∷ d ∷ ds) more h =
    let parts = both_of (goes_on c || is_dot_before c (d ∷ ds)) (is_name_end (((d ∷ ds) ++ (46 ∷ [])) ++ more)) h in
    all_of (goes_on c || is_dot_before c (d ∷ ds)) (is_name_end (d ∷ ds)) parts.0 (end_before_dot (d ∷ ds) more parts.1)

-- a dot and a letter may stand behind an end
end_dot_more : (cs : List ℕ) → IsTrue (is_name_end cs) → IsTrue (is_name_end ((cs ++ (46 ∷ [])) ++ (97 ∷ [])))
end_dot_more [] h = refl
end_dot_more (c ∷ []) h = all_of (goes_on c || is_dot_before c (46 ∷ 97 ∷ [])) true (alone c (46 ∷ 97 ∷ []) (goes_last c h)) refl
end_dot_more (c ∷ d ∷ ds) h =
    let parts = both_of (goes_on c || is_dot_before c (d ∷ ds)) (is_name_end (d ∷ ds)) h in
    all_of (goes_on c || is_dot_before c (d ∷ ds)) (is_name_end (((d ∷ ds) ++ (46 ∷ [])) ++ (97 ∷ []))) parts.0 (end_dot_more (d ∷ ds) parts.1)

at_most : (n m : ℕ) → leb n m ≡ true → n ≤ m
at_most n m h = grind (arith, nat_tests)

is_at_most : (n m : ℕ) → n ≤ m → leb n m ≡ true
is_at_most n m h = grind (arith, nat_tests)

-- a front of a name that doesn't end in a dot is a name, or nothing
pub name_front : (cs : List ℕ) → ((name : List ℕ) → cs ≢ name ++ (46 ∷ [])) → Begins IsName cs → (cs ≡ []) ⊎ IsName cs
name_front [] none begins = inl refl
name_front (c ∷ cs) none (more, h) =
    let first = both_of (starts_name c) (leb (length (cs ++ more)) 63 && is_name_end (cs ++ more)) h in
    let rest = both_of (leb (length (cs ++ more)) 63) (is_name_end (cs ++ more)) first.1 in
    let short : length (cs ++ more) ≤ 63 = at_most _ _ rest.0 in
    elim (end_front cs more rest.1) [ inl k ↦ inr (all_of (starts_name c) (leb (length cs) 63 && is_name_end cs) first.0 (all_of (leb (length cs) 63) (is_name_end cs) (is_at_most (length cs) 63 (omega (arith, length-append cs more))) k)) | inr k ↦ absurd (none (c ∷ k.0) (ap (λ (l : List ℕ). c ∷ l) k.1)) ]

-- a front that ends in a dot is a name and a dot, with room for more
pub name_before_dot : (name : List ℕ) → Begins IsName (name ++ (46 ∷ [])) → (length name ≤ 62) × IsName name
name_before_dot [] (more, h) = absurd (false≢true h)
name_before_dot (c ∷ cs) ([], h) =
    let first = both_of (starts_name c) (leb (length ((cs ++ (46 ∷ [])) ++ [])) 63 && is_name_end ((cs ++ (46 ∷ [])) ++ [])) h in
    let rest = both_of (leb (length ((cs ++ (46 ∷ [])) ++ [])) 63) (is_name_end ((cs ++ (46 ∷ [])) ++ [])) first.1 in
    absurd (dot_end cs (subst (λ (l : List ℕ). IsTrue (is_name_end l)) (append-nil (cs ++ (46 ∷ []))) rest.1))
name_before_dot (c ∷ cs) (d ∷ more, h) =
    let first = both_of (starts_name c) (leb (length ((cs ++ (46 ∷ [])) ++ (d ∷ more))) 63 && is_name_end ((cs ++ (46 ∷ [])) ++ (d ∷ more))) h in
    let rest = both_of (leb (length ((cs ++ (46 ∷ [])) ++ (d ∷ more))) 63) (is_name_end ((cs ++ (46 ∷ [])) ++ (d ∷ more))) first.1 in
    let short : length ((cs ++ (46 ∷ [])) ++ (d ∷ more)) ≤ 63 = at_most _ _ rest.0 in
    let fits : length cs ≤ 61 = omega (arith, length-append (cs ++ (46 ∷ [])) (d ∷ more), length-append cs (46 ∷ [])) in
    (omega arith, all_of (starts_name c) (leb (length cs) 63 && is_name_end cs) first.0 (all_of (leb (length cs) 63) (is_name_end cs) (is_at_most (length cs) 63 (omega arith)) (end_before_dot cs (d ∷ more) rest.1)))

-- a name and a dot begin a name
pub dot_begins : (name : List ℕ) → length name ≤ 62 → IsName name → Begins IsName (name ++ (46 ∷ []))
dot_begins [] short h = absurd (false≢true h)
dot_begins (c ∷ cs) short h =
    let first = both_of (starts_name c) (leb (length cs) 63 && is_name_end cs) h in
    let rest = both_of (leb (length cs) 63) (is_name_end cs) first.1 in
    let fits : length ((cs ++ (46 ∷ [])) ++ (97 ∷ [])) ≤ 63 = omega (arith, length-append (cs ++ (46 ∷ [])) (97 ∷ []), length-append cs (46 ∷ [])) in
    (97 ∷ [], all_of (starts_name c) (leb (length ((cs ++ (46 ∷ [])) ++ (97 ∷ []))) 63 && is_name_end ((cs ++ (46 ∷ [])) ++ (97 ∷ []))) first.0 (all_of (leb (length ((cs ++ (46 ∷ [])) ++ (97 ∷ []))) 63) (is_name_end ((cs ++ (46 ∷ [])) ++ (97 ∷ []))) (is_at_most _ 63 fits) (end_dot_more cs rest.1)))

-- nothing begins a name
pub empty_begins : (cs : List ℕ) → length cs ≡ 0 → Begins IsName cs
empty_begins [] e = (97 ∷ [], refl)
empty_begins (c ∷ cs) e = absurd (omega arith)

use Rattle.std.proofs.Common.{◌≡◌, ℕ, ◌-◌, ◌<◌, ◌≤◌, Bool, List, [], ◌∷◌, ◌++◌, length, take, drop, get_or, map, refl, ap, sym, subst, arith}
use Rattle.std.specs.Prelude.{IsTrue}
use Rattle.std.proofs.lemmas.List.{take_all}
use Rattle.dg_wire.specs.declared.arguments.Argument.{Argument}
use Rattle.dg_wire.specs.Cuts.{Begins, IsArgument, AreArguments, BeginsArguments}
use Rattle.dg_wire.proofs.NumberCuts.{some_argument}

-- a slice, by its first element and the others
pub slice_cons : {A : Type 0} (d : A) (xs : List A) → 0 < length xs → xs ≡ get_or xs 0 d ∷ take (length xs - 1) (drop 1 xs)
slice_cons d [] some = absurd (omega arith)
slice_cons d (x ∷ xs) some = ap (λ (l : List _). x ∷ l) (sym (take_all (length (x ∷ xs) - 1) xs (omega arith)))

pub slice_one : {A : Type 0} (d : A) (xs : List A) → 0 < length xs → length xs < 2 → xs ≡ get_or xs 0 d ∷ []
slice_one d [] some one = absurd (omega arith)
slice_one d (x ∷ []) some one = refl
slice_one d (x ∷ y ∷ xs) some one = absurd (omega arith)

-- some arguments of each kind
pub some_arguments : (kinds : List Argument) → (words : List (List ℕ)) × AreArguments kinds words
some_arguments [] = ([], tt)
some_arguments (kind ∷ kinds) = let one = some_argument kind in let others = some_arguments kinds in (one.0 ∷ others.0, (one.1, others.1))

-- where none is taken, no words are the first
pub none_taken : (fronts : List (List ℕ)) → BeginsArguments [] fronts → ⊥
none_taken [] ([], args, first) = first
none_taken (f ∷ []) ([], args, first) = first
none_taken (f ∷ g ∷ fs) ([], args, first) = first
none_taken fs (w ∷ ws, args, first) = args

pub no_kinds : (kinds : List Argument) (fronts : List (List ℕ)) → length kinds < 1 → BeginsArguments kinds fronts → ⊥
no_kinds [] fronts none begins = none_taken fronts begins
no_kinds (k ∷ ks) fronts none begins = absurd (omega arith)

-- one word is a front of the first
one_front : (kind : Argument) (kinds : List Argument) (front : List ℕ) → Begins (IsArgument kind) front → BeginsArguments (kind ∷ kinds) (front ∷ [])
one_front kind kinds front (rest, ok) = let others = some_arguments kinds in ((front ++ rest) ∷ others.0, (ok, others.1), (rest, refl))

is_front : (kind : Argument) (kinds : List Argument) (front : List ℕ) → BeginsArguments (kind ∷ kinds) (front ∷ []) → Begins (IsArgument kind) front
is_front kind kinds front ([], args, first) = absurd args
is_front kind kinds front (w ∷ ws, args, (rest, is)) = (rest, subst (IsArgument kind) (sym is) args.0)

pub by_front : (b : Bool) (kind : Argument) (kinds all : List Argument) (front : List ℕ) (fronts : List (List ℕ)) → all ≡ kind ∷ kinds → fronts ≡ front ∷ [] → (IsTrue b → Begins (IsArgument kind) front) × (Begins (IsArgument kind) front → IsTrue b) → (IsTrue b → BeginsArguments all fronts) × (BeginsArguments all fronts → IsTrue b)
by_front b kind kinds all front fronts e f h = (
  λ yes. subst (λ (ks : List Argument). BeginsArguments ks fronts) (sym e) (subst (BeginsArguments (kind ∷ kinds)) (sym f) (one_front kind kinds front (h.0 yes))),
  λ begins. h.1 (is_front kind kinds front (subst (BeginsArguments (kind ∷ kinds)) f (subst (λ (ks : List Argument). BeginsArguments ks fronts) e begins))),
)

-- more words are an argument and the first of the others
next_fronts : (kind : Argument) (kinds : List Argument) (word : List ℕ) (fronts : List (List ℕ)) → 0 < length fronts → IsArgument kind word → BeginsArguments kinds fronts → BeginsArguments (kind ∷ kinds) (word ∷ fronts)
next_fronts kind kinds word [] some ok begins = absurd (omega arith)
next_fronts kind kinds word (f ∷ fs) some ok (words, args, first) = (word ∷ words, (ok, args), (refl, first))

are_next : (kind : Argument) (kinds : List Argument) (word : List ℕ) (fronts : List (List ℕ)) → 0 < length fronts → BeginsArguments (kind ∷ kinds) (word ∷ fronts) → IsArgument kind word × BeginsArguments kinds fronts
are_next kind kinds word [] some begins = absurd (omega arith)
are_next kind kinds word (f ∷ fs) some ([], args, first) = absurd args
are_next kind kinds word (f ∷ fs) some (w ∷ ws, args, (is, first)) = (subst (IsArgument kind) (sym is) args.0, (ws, args.1, first))

pub by_next : (b : Bool) (kind : Argument) (kinds all : List Argument) (word : List ℕ) (next fronts : List (List ℕ)) → all ≡ kind ∷ kinds → fronts ≡ word ∷ next → 0 < length next → IsArgument kind word → (IsTrue b → BeginsArguments kinds next) × (BeginsArguments kinds next → IsTrue b) → (IsTrue b → BeginsArguments all fronts) × (BeginsArguments all fronts → IsTrue b)
by_next b kind kinds all word next fronts e f some ok h = (
  λ yes. subst (λ (ks : List Argument). BeginsArguments ks fronts) (sym e) (subst (BeginsArguments (kind ∷ kinds)) (sym f) (next_fronts kind kinds word next some ok (h.0 yes))),
  λ begins. h.1 (are_next kind kinds word next some (subst (BeginsArguments (kind ∷ kinds)) f (subst (λ (ks : List Argument). BeginsArguments ks fronts) e begins))).1,
)

pub some_next : {A B : Type 0} (f : A → B) (xs : List A) → 2 ≤ length xs → 0 < length (map f (take (length xs - 1) (drop 1 xs)))
some_next f [] two = absurd (omega arith)
some_next f (x ∷ []) two = absurd (omega arith)
some_next f (x ∷ y ∷ xs) two = subst (λ (l : List _). 0 < length (map f l)) (sym (take_all (length (x ∷ y ∷ xs) - 1) (y ∷ xs) (omega arith))) (omega arith)

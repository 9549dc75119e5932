-- Parts one after another, and the objects of a list's nodes among them.
use Rattle.std.proofs.Common.{◌≡◌, ℕ, zero, suc, ◌+◌, ◌<◌, ◌≤◌, Bool, true, false, List, [], ◌∷◌, ◌++◌, map, flat_map, take, drop, length, get_or, codes, refl, sym, ap, ◌∙◌, arith, length-append, append_assoc, take-append-drop}
use Rattle.std.specs.Ordering.{nat_cmp}
use Rattle.std.proofs.lemmas.Bool.{false≢true}
use Rattle.std.proofs.lemmas.List.{map-append, map_more, take_more, take_all}
use Rattle.dg_values.specs.Ascending.{has}
use Rattle.dg_tree.specs.Texts.{with_commas, array_text}
use Rattle.dg_level.specs.Parts.{comma_behind, parts_text, has_parts}
use Rattle.dg_level.specs.Rows.{objects_of, shown_array, AreOfLevel}
use Rattle.dg_level.proofs.RowLaws.{objects_joined}

has_then : (parts : List (List ℕ)) → has_parts true parts ≡ true
has_then [] = refl
has_then (part ∷ parts) = refl

-- parts behind parts
pub parts_more : (wrote : Bool) (parts more : List (List ℕ)) → parts_text wrote (parts ++ more) ≡ parts_text wrote parts ++ parts_text (has_parts wrote parts) more
parts_more wrote [] more = refl
parts_more wrote (part ∷ parts) more =
    ap (λ l. comma_behind wrote ++ (part ++ l)) (parts_more true parts more ∙ ap (λ w. parts_text true parts ++ parts_text w more) (has_then parts))
    ∙ ap (λ l. comma_behind wrote ++ l) (sym (append_assoc part (parts_text true parts) (parts_text true more)))
    ∙ sym (append_assoc (comma_behind wrote) (part ++ parts_text true parts) (parts_text true more))

pub has_more : (wrote : Bool) (parts more : List (List ℕ)) → has_parts wrote (parts ++ more) ≡ has_parts (has_parts wrote parts) more
has_more wrote [] more = refl
has_more wrote (part ∷ parts) more = sym (has_then more)

-- parts behind none have commas between them
pub parts_all : (parts : List (List ℕ)) → parts_text false parts ≡ with_commas parts
parts_all [] = refl
parts_all (part ∷ parts) = ap (λ l. part ++ l) (behind parts)
  where
    behind : (parts : List (List ℕ)) → parts_text true parts ≡ flat_map (λ part. codes "," ++ part) parts
    behind [] = refl
    behind (part ∷ parts) = ap (λ l. codes "," ++ (part ++ l)) (behind parts) ∙ sym (append_assoc (codes ",") part (flat_map (λ part. codes "," ++ part) parts))

-- ---- a loop that adds parts

module _ (old out : List ℕ) (before wrote : Bool) (parts : List (List ℕ)) (is : out ≡ old ++ parts_text before parts) (has : wrote ≡ has_parts before parts) where
  more_is : (more : List (List ℕ)) → out ++ parts_text wrote more ≡ old ++ parts_text before (parts ++ more)
  more_is more =
      (λ i. is i ++ parts_text (has i) more)
      ∙ append_assoc old (parts_text before parts) (parts_text (has_parts before parts) more)
      ∙ ap (λ l. old ++ l) (sym (parts_more before parts more))

  -- after some parts more
  pub parts_added : (more : List (List ℕ)) (now : List ℕ) → now ≡ out ++ parts_text wrote more → now ≡ old ++ parts_text before (parts ++ more)
  parts_added more now added = added ∙ more_is more

  pub has_added : (more : List (List ℕ)) (now : Bool) → now ≡ has_parts wrote more → now ≡ has_parts before (parts ++ more)
  has_added more now added = added ∙ ap (λ w. has_parts w more) has ∙ sym (has_more before parts more)

  -- what is too large with some parts more is too large with all
  pub parts_pass : (more rest all : List (List ℕ)) (used limit : ℕ) → all ≡ (parts ++ more) ++ rest → limit < used + length (out ++ parts_text wrote more) → limit < used + length (old ++ parts_text before all)
  parts_pass more rest all used limit whole above =
      omega (
        arith,
        above,
        ap length (more_is more),
        length-append old (parts_text before (parts ++ more)),
        length-append old (parts_text before all),
        ap (λ l. length (parts_text before l)) whole,
        ap length (parts_more before (parts ++ more) rest),
        length-append (parts_text before (parts ++ more)) (parts_text (has_parts before (parts ++ more)) rest),
      )

-- texts up to a place, one more, and all
pub text_more : (texts : List (List ℕ)) (i : ℕ) (text : List ℕ) → i < length texts → text ≡ get_or texts i text → take (i + 1) texts ≡ take i texts ++ text ∷ []
text_more texts i text lt is = take_more texts i text lt ∙ ap (λ t. take i texts ++ t ∷ []) (sym is)

pub all_texts : (texts : List (List ℕ)) (i : ℕ) (text : List ℕ) → i < length texts → text ≡ get_or texts i text → texts ≡ (take i texts ++ text ∷ []) ++ drop (i + 1) texts
all_texts texts i text lt is = sym (take-append-drop (i + 1) texts) ∙ ap (λ t. t ++ drop (i + 1) texts) (text_more texts i text lt is)

no_parts : (parts : List (List ℕ)) → false ≡ has_parts false parts → parts ≡ []
no_parts [] none = refl
no_parts (part ∷ parts) none = absurd (false≢true none)

-- ---- objects by nodes

module _ (f : ℕ → List ℕ) (nodes : List ℕ) (i d : ℕ) (lt : i < length nodes) where
  -- one node more
  pub object_more : objects_of (map f (take (i + 1) nodes)) ≡ objects_of (map f (take i nodes)) ++ objects_of (f (get_or nodes i d) ∷ [])
  object_more = ap objects_of (map_more f nodes i d lt) ∙ objects_joined (map f (take i nodes)) (f (get_or nodes i d) ∷ [])

  pub all_objects : objects_of (map f nodes) ≡ (objects_of (map f (take i nodes)) ++ objects_of (f (get_or nodes i d) ∷ [])) ++ objects_of (map f (drop (i + 1) nodes))
  all_objects =
      ap (λ n. objects_of (map f n)) (sym (take-append-drop (i + 1) nodes))
      ∙ ap objects_of (map-append f (take (i + 1) nodes) (drop (i + 1) nodes))
      ∙ objects_joined (map f (take (i + 1) nodes)) (map f (drop (i + 1) nodes))
      ∙ ap (λ o. o ++ objects_of (map f (drop (i + 1) nodes))) object_more

  has_one_more : has_parts false (objects_of (map f (take (i + 1) nodes))) ≡ has_parts (has_parts false (objects_of (map f (take i nodes)))) (objects_of (f (get_or nodes i d) ∷ []))
  has_one_more = ap (has_parts false) object_more ∙ has_more false (objects_of (map f (take i nodes))) (objects_of (f (get_or nodes i d) ∷ []))

  -- a node that shows nothing adds none
  pub none_more : has_parts false (objects_of (f (get_or nodes i d) ∷ [])) ≡ false → false ≡ has_parts false (objects_of (map f (take i nodes))) → false ≡ has_parts false (objects_of (map f (take (i + 1) nodes)))
  none_more empty none = sym (has_one_more ∙ ap (λ w. has_parts w (objects_of (f (get_or nodes i d) ∷ []))) (sym none) ∙ empty)

  -- where a node shows something there is an object
  pub some_shown : has_parts false (objects_of (f (get_or nodes i d) ∷ [])) ≡ true → has_parts false (objects_of (map f nodes)) ≡ true
  some_shown shown =
      let one = objects_of (f (get_or nodes i d) ∷ []) in
      let front = objects_of (map f (take i nodes)) in
      let rest = objects_of (map f (drop (i + 1) nodes)) in
      ap (has_parts false) all_objects
      ∙ has_more false (front ++ one) rest
      ∙ ap (λ w. has_parts w rest) (has_more false front one ∙ has_any one (has_parts false front) shown)
      ∙ has_then rest
    where
      has_any : (parts : List (List ℕ)) (wrote : Bool) → has_parts false parts ≡ true → has_parts wrote parts ≡ true
      has_any [] wrote shown = absurd (false≢true shown)
      has_any (part ∷ parts) wrote shown = refl

  -- the first node that shows something has the first object
  pub first_object : false ≡ has_parts false (objects_of (map f (take i nodes))) → has_parts false (objects_of (f (get_or nodes i d) ∷ [])) ≡ true → objects_of (f (get_or nodes i d) ∷ []) ≡ take 1 (objects_of (map f nodes))
  first_object none shown =
      let rest = objects_of (map f (drop (i + 1) nodes)) in
      alone (f (get_or nodes i d)) rest shown ∙ sym (ap (take 1) (all_objects ∙ ap (λ front. (front ++ objects_of (f (get_or nodes i d) ∷ [])) ++ rest) (no_parts (objects_of (map f (take i nodes))) none)))
    where
      alone : (row : List ℕ) (rest : List (List ℕ)) → has_parts false (objects_of (row ∷ [])) ≡ true → objects_of (row ∷ []) ≡ take 1 (objects_of (row ∷ []) ++ rest)
      alone [] rest shown = absurd (false≢true shown)
      alone (byte ∷ row) rest shown = refl

-- a list of the level of which no node shows something
pub nothing_shown : (f : ℕ → List ℕ) (nodes : List ℕ) (i : ℕ) → length nodes ≤ i → false ≡ has_parts false (objects_of (map f (take i nodes))) → [] ≡ take 1 (objects_of (map f nodes))
nothing_shown f nodes i past none = sym (ap (take 1) (ap (λ n. objects_of (map f n)) (sym (take_all i nodes past)) ∙ no_parts (objects_of (map f (take i nodes))) none))

-- objects in front
pub some_first : (front more : List (List ℕ)) → 0 < length front → true ≡ has_parts false (front ++ more)
some_first [] more above = absurd (omega (arith, above))
some_first (part ∷ front) more above = refl

-- at a place of a list of the level stands a node of the level
pub of_level : (level nodes : List ℕ) (i d : ℕ) → AreOfLevel level nodes → i < length nodes → has nat_cmp level (get_or nodes i d) ≡ true
of_level level [] i d among lt = absurd (omega (arith, lt))
of_level level (node ∷ nodes) zero d among lt = among.0
of_level level (node ∷ nodes) (suc i) d among lt = of_level level nodes i d among.1 (omega (arith, lt))

-- ---- an array

module _ (old begun : List ℕ) (front objects : List (List ℕ)) (is : begun ≡ old ++ codes "[") where
  in_parts : (begun ++ parts_text false front) ++ (parts_text (has_parts false front) objects ++ codes "]") ≡ old ++ array_text (front ++ objects)
  in_parts =
      append_assoc begun (parts_text false front) _
      ∙ ap (λ l. begun ++ l) (sym (append_assoc (parts_text false front) (parts_text (has_parts false front) objects) (codes "]")))
      ∙ ap (λ l. begun ++ (l ++ codes "]")) (sym (parts_more false front objects) ∙ parts_all (front ++ objects))
      ∙ ap (λ b. b ++ (with_commas (front ++ objects) ++ codes "]")) is
      ∙ append_assoc old (codes "[") (with_commas (front ++ objects) ++ codes "]")

  -- what is too large with the front is too large as a whole
  pub front_passes : (used limit : ℕ) → limit < used + length (begun ++ parts_text false front) → limit < used + length (old ++ array_text (front ++ objects))
  front_passes used limit above = omega (arith, above, ap length in_parts, length-append (begun ++ parts_text false front) (parts_text (has_parts false front) objects ++ codes "]"))

  module _ (out : List ℕ) (wrote : Bool) (written : out ≡ begun ++ parts_text false front) (has_front : wrote ≡ has_parts false front) where
    with_objects : (out ++ parts_text wrote objects) ++ codes "]" ≡ old ++ array_text (front ++ objects)
    with_objects = append_assoc out (parts_text wrote objects) (codes "]") ∙ (λ i. written i ++ (parts_text (has_front i) objects ++ codes "]")) ∙ in_parts

    -- so with the objects
    pub objects_pass : (used limit : ℕ) → limit < used + length (out ++ parts_text wrote objects) → limit < used + length (old ++ array_text (front ++ objects))
    objects_pass used limit above = omega (arith, above, ap length with_objects, length-append (out ++ parts_text wrote objects) (codes "]"))

    -- the whole
    pub array_is : (all : List ℕ) → all ≡ out ++ parts_text wrote objects → all ++ codes "]" ≡ old ++ array_text (front ++ objects)
    array_is all added = ap (λ a. a ++ codes "]") added ∙ with_objects

-- an array in which something stands
pub array_shown : (items : List (List ℕ)) → has_parts false items ≡ true → shown_array items ≡ array_text items ∷ []
array_shown [] has = absurd (false≢true has)
array_shown (item ∷ items) has = refl

use Rattle.std.proofs.Common.{◌≡◌, ℕ, ◌<◌, ◌≤◌, Bool, true, false, cond, eqb, List, [], ◌∷◌, ◌++◌, length, get_or, refl, ap, sym, subst, ◌∙◌, append_assoc, arith}
use Rattle.std.specs.Prelude.{IsTrue, replicate}
use Rattle.std.specs.Fmt.{decimal}
use Rattle.std.specs.Str.{bytes_eq}
use Rattle.std.specs.List.{join_with_byte, slice_split, onto_first, position_or_len}
use Rattle.std.proofs.Math.ListN.{length-replicate}
use Rattle.std.proofs.lemmas.List.Splits.{join_with_byte-slice_split}
use Rattle.dg_wire.specs.declared.arguments.Argument.TheVariants as kinds
use Rattle.dg_wire.specs.declared.verb.TheConstants.Verb.{ALL}
use Rattle.dg_wire.specs.declared.verb.Verb.{Verb}
use Rattle.dg_wire.specs.declared.verb.Verb.TheVariants as verbs
use Rattle.dg_wire.specs.declared.request.Request.{Request}
use Rattle.dg_wire.specs.declared.request.Request.TheVariants.{Alter, Begin, Mutate, Upsert, Query, Commit, Discard, Line, Roll, RollPlan, RollInstall, MoveStart, MoveCopy, MoveHold, MoveFlip, MoveOff, State}
use Rattle.dg_wire.specs.Verbs.{name_of}
use Rattle.dg_wire.specs.Frames.{IsSession, IsGroup, IsName, IsBody, IsRequest, verb_of, arguments, words}
use Rattle.dg_wire.specs.Cuts.{IsFront, BeginsVerb, takes, AreArguments, AreFirst, BeginsArguments, BeginsWords, BeginsLine}
use Rattle.dg_wire.proofs.LineLemmas.{words_ink, split_join}
use Rattle.dg_wire.proofs.WordCuts.{some_arguments}

-- what arguments say, by their kinds
nothing : (said : List (List ℕ)) → AreArguments [] said → [] ≡ said
nothing [] args = refl
nothing (w ∷ ws) args = absurd args

of_body : (said : List (List ℕ)) → AreArguments (kinds.Length ∷ []) said → (body : List ℕ) × IsBody body × (decimal (length body) ∷ [] ≡ said)
of_body [] args = absurd args
of_body (w ∷ []) ((len, small, is), rest) =
    let le : len ≤ 1048576 = small in
    let body : List ℕ = replicate len 0 in
    let long : length body ≡ len = length-replicate len 0 in
    (body, omega arith, ap (λ (n : ℕ). decimal n ∷ []) long ∙ ap (λ (l : List ℕ). l ∷ []) (sym is))
of_body (w ∷ v ∷ vs) args = absurd args.1

of_session : (said : List (List ℕ)) → AreArguments (kinds.Session ∷ []) said → (sid : ℕ) × IsSession sid × (decimal sid ∷ [] ≡ said)
of_session [] args = absurd args
of_session (w ∷ []) ((sid, ok, is), rest) = (sid, ok, ap (λ (l : List ℕ). l ∷ []) (sym is))
of_session (w ∷ v ∷ vs) args = absurd args.1

of_name : (said : List (List ℕ)) → AreArguments (kinds.Name ∷ []) said → (pred : List ℕ) × IsName pred × (pred ∷ [] ≡ said)
of_name [] args = absurd args
of_name (w ∷ []) args = (w, args.0, refl)
of_name (w ∷ v ∷ vs) args = absurd args.1

of_session_body : (said : List (List ℕ)) → AreArguments (kinds.Session ∷ kinds.Length ∷ []) said → (sid : ℕ) × (body : List ℕ) × (IsSession sid × IsBody body) × (decimal sid ∷ decimal (length body) ∷ [] ≡ said)
of_session_body [] args = absurd args
of_session_body (w ∷ ws) ((sid, ok, is), rest) =
    let body = of_body ws rest in
    (sid, body.0, (ok, body.1), ap (λ (l : List ℕ). l ∷ decimal (length body.0) ∷ []) (sym is) ∙ ap (λ (l : List (List ℕ)). w ∷ l) body.2)

of_name_group : (said : List (List ℕ)) → AreArguments (kinds.Name ∷ kinds.Group ∷ []) said → (pred : List ℕ) × (group : ℕ) × (IsName pred × IsGroup group) × (pred ∷ decimal group ∷ [] ≡ said)
of_name_group [] args = absurd args
of_name_group (w ∷ []) args = absurd args.1
of_name_group (w ∷ v ∷ []) (name, ((group, ok, is), rest)) = (w, group, (name, ok), ap (λ (l : List ℕ). w ∷ l ∷ []) (sym is))
of_name_group (w ∷ v ∷ u ∷ us) args = absurd args.1.1

-- a verb and its arguments are some request's
pub request_of : (verb : Verb) (said : List (List ℕ)) → AreArguments (takes verb) said → (request : Request) × IsRequest request × (verb_of request ≡ verb) × (arguments request ≡ said)
request_of verbs.Alter said args = let a = of_body said args in (Alter a.0, a.1, refl, a.2)
request_of verbs.Begin said args = let a = of_session said args in (Begin a.0, a.1, refl, a.2)
request_of verbs.Mutate said args = let a = of_session_body said args in (Mutate a.0 a.1, a.2, refl, a.3)
request_of verbs.Upsert said args = let a = of_session_body said args in (Upsert a.0 a.1, a.2, refl, a.3)
request_of verbs.Query said args = let a = of_session_body said args in (Query a.0 a.1, a.2, refl, a.3)
request_of verbs.Commit said args = let a = of_session said args in (Commit a.0, a.1, refl, a.2)
request_of verbs.Discard said args = let a = of_session said args in (Discard a.0, a.1, refl, a.2)
request_of verbs.Line said args = (Line, tt, refl, nothing said args)
request_of verbs.Roll said args = let a = of_name said args in (Roll a.0, a.1, refl, a.2)
request_of verbs.RollPlan said args = let a = of_name said args in (RollPlan a.0, a.1, refl, a.2)
request_of verbs.RollInstall said args = let a = of_name said args in (RollInstall a.0, a.1, refl, a.2)
request_of verbs.MoveStart said args = let a = of_name_group said args in (MoveStart a.0 a.1, a.2, refl, a.3)
request_of verbs.MoveCopy said args = let a = of_name said args in (MoveCopy a.0, a.1, refl, a.2)
request_of verbs.MoveHold said args = let a = of_name said args in (MoveHold a.0, a.1, refl, a.2)
request_of verbs.MoveFlip said args = let a = of_name said args in (MoveFlip a.0, a.1, refl, a.2)
request_of verbs.MoveOff said args = let a = of_name said args in (MoveOff a.0, a.1, refl, a.2)
request_of verbs.State said args = (State, tt, refl, nothing said args)

-- a request's arguments are those that its verb takes
pub are_arguments : (request : Request) → IsRequest request → AreArguments (takes (verb_of request)) (arguments request)
are_arguments (Alter body) ok = ((length body, ok, refl), tt)
are_arguments (Begin sid) ok = ((sid, ok, refl), tt)
are_arguments (Mutate sid body) ok = ((sid, ok.0, refl), ((length body, ok.1, refl), tt))
are_arguments (Upsert sid body) ok = ((sid, ok.0, refl), ((length body, ok.1, refl), tt))
are_arguments (Query sid body) ok = ((sid, ok.0, refl), ((length body, ok.1, refl), tt))
are_arguments (Commit sid) ok = ((sid, ok, refl), tt)
are_arguments (Discard sid) ok = ((sid, ok, refl), tt)
are_arguments Line ok = tt
are_arguments (Roll pred) ok = (ok, tt)
are_arguments (RollPlan pred) ok = (ok, tt)
are_arguments (RollInstall pred) ok = (ok, tt)
are_arguments (MoveStart pred group) ok = (ok.0, ((group, ok.1, refl), tt))
are_arguments (MoveCopy pred) ok = (ok, tt)
are_arguments (MoveHold pred) ok = (ok, tt)
are_arguments (MoveFlip pred) ok = (ok, tt)
are_arguments (MoveOff pred) ok = (ok, tt)
are_arguments State ok = tt

-- a name is one verb's
named : List ℕ → Verb
named word = get_or ALL (position_or_len (λ verb. bytes_eq (name_of verb) word) ALL) verbs.Alter

named_of : (verb : Verb) → named (name_of verb) ≡ verb
unfolding named
named_of verbs.Alter = refl
named_of verbs.Begin = refl
named_of verbs.Mutate = refl
named_of verbs.Upsert = refl
named_of verbs.Query = refl
named_of verbs.Commit = refl
named_of verbs.Discard = refl
named_of verbs.Line = refl
named_of verbs.Roll = refl
named_of verbs.RollPlan = refl
named_of verbs.RollInstall = refl
named_of verbs.MoveStart = refl
named_of verbs.MoveCopy = refl
named_of verbs.MoveHold = refl
named_of verbs.MoveFlip = refl
named_of verbs.MoveOff = refl
named_of verbs.State = refl

one_verb : (a b : Verb) → name_of a ≡ name_of b → a ≡ b
one_verb a b e = sym (named_of a) ∙ ap named e ∙ named_of b

-- one word is a front of a verb's name
pub by_verb : (b : Bool) (front : List ℕ) (fronts : List (List ℕ)) → fronts ≡ front ∷ [] → (IsTrue b → BeginsVerb front) × (BeginsVerb front → IsTrue b) → (IsTrue b → BeginsWords fronts) × (BeginsWords fronts → IsTrue b)
by_verb b front fronts is h = (λ yes. subst BeginsWords (sym is) (some_request (h.0 yes)), λ begins. h.1 (some_verb (subst BeginsWords is begins)))
  where
    some_request : BeginsVerb front → BeginsWords (front ∷ [])
    some_request (verb, (rest, e)) =
        let args = some_arguments (takes verb) in
        let request = request_of verb args.0 args.1 in
        (request.0, request.1, (rest, e ∙ ap name_of (sym request.2)))

    some_verb : BeginsWords (front ∷ []) → BeginsVerb front
    some_verb (request, ok, first) = (verb_of request, first)

-- more words are a verb's name and the first of its arguments
pub by_arguments : (b : Bool) (verb : Verb) (word : List ℕ) (said fronts : List (List ℕ)) → fronts ≡ word ∷ said → 0 < length said → word ≡ name_of verb → (IsTrue b → BeginsArguments (takes verb) said) × (BeginsArguments (takes verb) said → IsTrue b) → (IsTrue b → BeginsWords fronts) × (BeginsWords fronts → IsTrue b)
by_arguments b verb word said fronts is some name h = (λ yes. subst BeginsWords (sym is) (some_request said some (h.0 yes)), λ begins. h.1 (some_words said some (subst BeginsWords is begins)))
  where
    some_request : (said : List (List ℕ)) → 0 < length said → BeginsArguments (takes verb) said → BeginsWords (word ∷ said)
    some_request [] some begins = absurd (omega arith)
    some_request (f ∷ fs) some (ws, args, first) =
        let request = request_of verb ws args in
        (request.0, request.1, (name ∙ ap name_of (sym request.2), subst (AreFirst (f ∷ fs)) (sym request.3) first))

    some_words : (said : List (List ℕ)) → 0 < length said → BeginsWords (word ∷ said) → BeginsArguments (takes verb) said
    some_words [] some begins = absurd (omega arith)
    some_words (f ∷ fs) some (request, ok, (e, first)) =
        let same = one_verb (verb_of request) verb (sym e ∙ name) in
        (arguments request, subst (λ (v : Verb). AreArguments (takes v) (arguments request)) same (are_arguments request ok), first)

-- cut at spaces, a front of bytes is the first of their words

nothing_first : (ws : List (List ℕ)) → 0 < length ws → AreFirst ([] ∷ []) ws
nothing_first [] some = absurd (omega arith)
nothing_first (w ∷ ws) some = (w, refl)

some_words : (bytes : List ℕ) → 0 < length (slice_split (λ b. eqb b 32) bytes)
some_words [] = omega arith
some_words (c ∷ cs) = by (eqb c 32) (slice_split (λ b. eqb b 32) cs)
  where
    by : (b : Bool) (ws : List (List ℕ)) → 0 < length (cond b ([] ∷ ws) (onto_first c ws))
    by true ws = omega arith
    by false [] = omega arith
    by false (w ∷ ws) = omega arith

first_more : (c : ℕ) (b : Bool) (fs ws : List (List ℕ)) → AreFirst fs ws → AreFirst (cond b ([] ∷ fs) (onto_first c fs)) (cond b ([] ∷ ws) (onto_first c ws))
first_more c true [] ws first = absurd first
first_more c true (f ∷ fs) ws first = (refl, first)
first_more c false [] ws first = absurd first
first_more c false (f ∷ []) [] first = absurd first
first_more c false (f ∷ []) (w ∷ ws) (rest, is) = (rest, ap (λ (l : List ℕ). c ∷ l) is)
first_more c false (f ∷ g ∷ fs) [] first = absurd first
first_more c false (f ∷ g ∷ fs) (w ∷ ws) (is, first) = (ap (λ (l : List ℕ). c ∷ l) is, first)

split_first : (front rest : List ℕ) → AreFirst (slice_split (λ b. eqb b 32) front) (slice_split (λ b. eqb b 32) (front ++ rest))
split_first [] rest = nothing_first (slice_split (λ b. eqb b 32) rest) (some_words rest)
split_first (c ∷ cs) rest = first_more c (eqb c 32) (slice_split (λ b. eqb b 32) cs) (slice_split (λ b. eqb b 32) (cs ++ rest)) (split_first cs rest)

-- and joined, the first words are a front
join_first : (fs ws : List (List ℕ)) → AreFirst fs ws → IsFront (join_with_byte 32 fs) (join_with_byte 32 ws)
join_first [] ws first = absurd first
join_first (f ∷ []) [] first = absurd first
join_first (f ∷ []) (w ∷ []) first = first
join_first (f ∷ []) (w ∷ v ∷ vs) (rest, is) = (rest ++ (32 ∷ join_with_byte 32 (v ∷ vs)), sym (append_assoc f rest (32 ∷ join_with_byte 32 (v ∷ vs))) ∙ ap (λ (l : List ℕ). l ++ (32 ∷ join_with_byte 32 (v ∷ vs))) is)
join_first (f ∷ g ∷ gs) [] first = absurd first
join_first (f ∷ g ∷ gs) (w ∷ []) (is, first) = absurd (never g gs first)
  where
    never : (g : List ℕ) (gs : List (List ℕ)) → AreFirst (g ∷ gs) [] → ⊥
    never g [] first = first
    never g (h ∷ hs) first = first
join_first (f ∷ g ∷ gs) (w ∷ v ∷ vs) (is, first) =
    let more = join_first (g ∷ gs) (v ∷ vs) first in
    (more.0, append_assoc f (32 ∷ join_with_byte 32 (g ∷ gs)) more.0 ∙ ap (λ (l : List ℕ). l ++ (32 ∷ (join_with_byte 32 (g ∷ gs) ++ more.0))) is ∙ ap (λ (l : List ℕ). w ++ (32 ∷ l)) more.1)

-- bytes are a front of a request's line where their words are the first of its words
pub by_line : (b : Bool) (bytes : List ℕ) (fronts : List (List ℕ)) → fronts ≡ slice_split (λ b. eqb b 32) bytes → (IsTrue b → BeginsWords fronts) × (BeginsWords fronts → IsTrue b) → (IsTrue b → BeginsLine bytes) × (BeginsLine bytes → IsTrue b)
by_line b bytes fronts cut h = (λ yes. is_line (subst BeginsWords cut (h.0 yes)), λ begins. h.1 (subst BeginsWords (sym cut) (are_words begins)))
  where
    is_line : BeginsWords (slice_split (λ b. eqb b 32) bytes) → BeginsLine bytes
    is_line (request, ok, first) =
        let front = join_first (slice_split (λ b. eqb b 32) bytes) (words request) first in
        (request, ok, (front.0, ap (λ (l : List ℕ). l ++ front.0) (sym (join_with_byte-slice_split 32 bytes)) ∙ front.1))

    are_words : BeginsLine bytes → BeginsWords (slice_split (λ b. eqb b 32) bytes)
    are_words (request, ok, (rest, is)) =
        let cut = ap (slice_split (λ b. eqb b 32)) is ∙ split_join (name_of (verb_of request)) (arguments request) (words_ink request ok) in
        (request, ok, subst (AreFirst (slice_split (λ b. eqb b 32) bytes)) cut (split_first bytes rest))

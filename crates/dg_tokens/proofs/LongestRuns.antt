-- The terms that are read from left to right are the longest runs.
use Rattle.std.proofs.Common.{◌≡◌, ℕ, ◌<◌, Bool, true, false, List, [], ◌∷◌, ◌++◌, length, map, refl, sym, ap, ◌∙◌, subst, arith, inl, inr, append_assoc}
use Rattle.std.specs.Prelude.{◌⊎◌, if◌then◌else◌, chars, encode_utf8, encode_utf8_all}
use Rattle.std.specs.List.{AllByRecursion}
use Rattle.std.proofs.lemmas.Str.{length-le-encodes}
use Rattle.std.proofs.lemmas.List.{append-nil, length-map}
use Rattle.unicode.specs.CaseFolding.{simple_fold}
use Rattle.dg_tokens.specs.Terms.{is_of_term, EndsOutside, BeginsOutside, IsLongestRun, IsTerm, ended, terms_from, terms_of}
use Rattle.dg_tokens.proofs.Among.{IsAmong}

abbrev Inside : List ℕ → Type 0
Inside cs = AllByRecursion (λ (c : ℕ). is_of_term c ≡ true) cs

-- a run as its term is spelled
abbrev folded : List ℕ → List ℕ
folded run = encode_utf8_all (map simple_fold run)

folded-push : (run : List ℕ) (c : ℕ) → folded (run ++ c ∷ []) ≡ folded run ++ encode_utf8 (simple_fold c)
folded-push [] c = append-nil (encode_utf8 (simple_fold c))
folded-push (r ∷ rs) c = ap (λ (l : List ℕ). encode_utf8 (simple_fold r) ++ l) (folded-push rs c) ∙ sym (append_assoc (encode_utf8 (simple_fold r)) (folded rs) (encode_utf8 (simple_fold c)))

folded_some : (run : List ℕ) → 0 < length run → 0 < length (folded run)
folded_some run h = omega (arith, length-le-encodes (map simple_fold run), length-map run simple_fold)

inside-push : (run : List ℕ) (c : ℕ) → Inside run → is_of_term c ≡ true → Inside (run ++ c ∷ [])
inside-push [] c h e = (e, tt)
inside-push (r ∷ rs) c h e = (h.0, inside-push rs c h.1 e)

ends-push : (before : List ℕ) (c : ℕ) → is_of_term c ≡ false → EndsOutside (before ++ c ∷ [])
ends-push [] c e = e
ends-push (b ∷ []) c e = e
ends-push (b ∷ d ∷ bs) c e = ends-push (d ∷ bs) c e

ended_some : (begun : List ℕ) (later : List (List ℕ)) → 0 < length begun → ended begun later ≡ begun ∷ later
ended_some [] later h = absurd (omega arith)
ended_some (b ∷ bs) later h = refl

-- ---- what is read is a longest run

-- the run from which a term was read, in a text that begins with these characters
record IsFrom (before held rest term : List ℕ) : Type 0 where
  run : List ℕ
  longest : IsLongestRun (before ++ held ++ rest) run
  spelled : folded run ≡ term

ended_from : (before held rest term : List ℕ) (later : List (List ℕ)) → EndsOutside before → Inside held → BeginsOutside rest
    → (IsAmong later term → IsFrom before held rest term) → IsAmong (ended (folded held) later) term → IsFrom before held rest term
ended_from before [] rest term later starts inside stops more among = more among
ended_from before (c ∷ cs) rest term later starts inside stops more among =
    by_case (subst (λ (l : List (List ℕ)). IsAmong l term) (ended_some (folded (c ∷ cs)) later (folded_some (c ∷ cs) (omega arith))) among)
  where
    by_case : (folded (c ∷ cs) ≡ term) ⊎ IsAmong later term → IsFrom before (c ∷ cs) rest term
    by_case (inl e) = record {
      run = c ∷ cs;
      longest = record { before = before; after = rest; shape = refl; some = omega arith; inside = inside; starts = starts; stops = stops };
      spelled = e;
    }
    by_case (inr h) = more h

moved : (before held rest before₂ held₂ rest₂ term : List ℕ) → before₂ ++ held₂ ++ rest₂ ≡ before ++ held ++ rest → IsFrom before₂ held₂ rest₂ term → IsFrom before held rest term
moved before held rest before₂ held₂ rest₂ term e f = record { run = f.run; longest = subst (λ (l : List ℕ). IsLongestRun l f.run) e f.longest; spelled = f.spelled }

pushed : (before held cs : List ℕ) (c : ℕ) → before ++ (held ++ c ∷ []) ++ cs ≡ before ++ held ++ c ∷ cs
pushed before held cs c = simp append_assoc

closed : (before held cs : List ℕ) (c : ℕ) → (before ++ held ++ c ∷ []) ++ [] ++ cs ≡ before ++ held ++ c ∷ cs
closed before held cs c = ap (λ (l : List ℕ). l ++ cs) (append-nil (before ++ held ++ c ∷ [])) ∙ simp append_assoc

read_case : (before held : List ℕ) (c : ℕ) (cs term : List ℕ)
    → ((front run : List ℕ) → EndsOutside front → Inside run → IsAmong (terms_from (folded run) cs) term → IsFrom front run cs term)
    → EndsOutside before → Inside held → (t : Bool) → is_of_term c ≡ t
    → IsAmong (if t then terms_from (folded held ++ encode_utf8 (simple_fold c)) cs else ended (folded held) (terms_from [] cs)) term → IsFrom before held (c ∷ cs) term
read_case before held c cs term later starts inside true e among =
    moved before held (c ∷ cs) before (held ++ c ∷ []) cs term (pushed before held cs c)
    (later before (held ++ c ∷ []) starts (inside-push held c inside e) (subst (λ (l : List ℕ). IsAmong (terms_from l cs) term) (sym (folded-push held c)) among))
read_case before held c cs term later starts inside false e among =
    ended_from before held (c ∷ cs) term (terms_from [] cs) starts inside e
    (λ h. moved before held (c ∷ cs) (before ++ held ++ c ∷ []) [] cs term (closed before held cs c) (later (before ++ held ++ c ∷ []) [] (ends-push (before ++ held) c e) tt h)) among

read_from : (before held rest term : List ℕ) → EndsOutside before → Inside held → IsAmong (terms_from (folded held) rest) term → IsFrom before held rest term
read_from before held [] term starts inside among = ended_from before held [] term [] starts inside tt (λ h. absurd h) among
read_from before held (c ∷ cs) term starts inside among =
    read_case before held c cs term (λ front run starts₂ inside₂ among₂. read_from front run cs term starts₂ inside₂ among₂) starts inside (is_of_term c) refl among

pub terms_are_runs : (text term : List ℕ) → IsAmong (terms_of text) term → IsTerm text term
terms_are_runs text term among =
    let f = read_from [] [] (chars text) term tt tt among in
    record { run = f.run; longest = f.longest; folded = f.spelled }

-- ---- each longest run is read

one_kind : (c d : ℕ) → c ≡ d → is_of_term c ≡ true → is_of_term d ≡ false → ⊥
one_kind c d e f g = cc

head_same : (c d : ℕ) (cs ds : List ℕ) → c ∷ cs ≡ d ∷ ds → c ≡ d
head_same c d cs ds e = cc

tail_same : (c d : ℕ) (cs ds : List ℕ) → c ∷ cs ≡ d ∷ ds → cs ≡ ds
tail_same c d cs ds e = cc

-- characters of terms with none behind them are cut off in one way
cut_once : (a x b y : List ℕ) → Inside a → Inside b → BeginsOutside x → BeginsOutside y → a ++ x ≡ b ++ y → a ≡ b
cut_once [] x [] y p q s t e = refl
cut_once [] [] (d ∷ b) y p q s t e = cc
cut_once [] (c ∷ x) (d ∷ b) y p q s t e = absurd (one_kind d c (sym (head_same c d x (b ++ y) e)) q.0 s)
cut_once (c ∷ a) x [] [] p q s t e = cc
cut_once (c ∷ a) x [] (d ∷ y) p q s t e = absurd (one_kind c d (head_same c d (a ++ x) y e) p.0 t)
cut_once (c ∷ a) x (d ∷ b) y p q s t e =
    let first = head_same c d (a ++ x) (b ++ y) e in
    let rest = cut_once a x b y p.1 q.1 s t (tail_same c d (a ++ x) (b ++ y) e) in
    λ i. first i ∷ rest i

-- what stands before a run that begins later: the held term, the character that ends it, and more
record IsLater (held : List ℕ) (c : ℕ) (cs front back : List ℕ) : Type 0 where
  more : List ℕ
  starts : EndsOutside more
  shape : cs ≡ more ++ back

ends_tail : (c d : ℕ) (cs : List ℕ) → EndsOutside (c ∷ d ∷ cs) → EndsOutside (d ∷ cs)
ends_tail c d cs h = h

ends_rest : (d : ℕ) (front : List ℕ) → EndsOutside (d ∷ front) → EndsOutside front
ends_rest d [] h = tt
ends_rest d (b ∷ bs) h = h

later_run : (held : List ℕ) (c : ℕ) (cs : List ℕ) (d : ℕ) (front back : List ℕ) → Inside held → EndsOutside (d ∷ front) → held ++ c ∷ cs ≡ d ∷ front ++ back → IsLater held c cs (d ∷ front) back
later_run [] c cs d front back p h e = record { more = front; starts = ends_rest d front h; shape = tail_same c d cs (front ++ back) e }
later_run (o ∷ os) c cs d [] back p h e = absurd (one_kind o d (head_same o d (os ++ c ∷ cs) back e) p.0 h)
later_run (o ∷ os) c cs d (b ∷ bs) back p h e =
    let r = later_run os c cs b bs back p.1 h (tail_same o d (os ++ c ∷ cs) (b ∷ bs ++ back) e) in
    record { more = r.more; starts = r.starts; shape = r.shape }

among_ended : (begun : List ℕ) (later : List (List ℕ)) (term : List ℕ) → IsAmong later term → IsAmong (ended begun later) term
among_ended [] later term h = h
among_ended (b ∷ bs) later term h = inr h

this_ended : (held run : List ℕ) (later : List (List ℕ)) → 0 < length run → held ≡ run → IsAmong (ended (folded held) later) (folded run)
this_ended held run later some e =
    subst (λ (o : List ℕ). IsAmong (ended (folded o) later) (folded run)) (sym e)
    (subst (λ (l : List (List ℕ)). IsAmong l (folded run)) (sym (ended_some (folded run) later (folded_some run some))) (inl refl))

nothing_before : (held : List ℕ) (d : ℕ) (front back : List ℕ) → Inside held → EndsOutside (d ∷ front) → held ≡ d ∷ front ++ back → ⊥
nothing_before [] d front back p h e = cc
nothing_before (o ∷ os) d [] back p h e = one_kind o d (head_same o d os back e) p.0 h
nothing_before (o ∷ os) d (b ∷ bs) back p h e = nothing_before os b bs back p.1 h (tail_same o d os (b ∷ bs ++ back) e)

module _ (run after : List ℕ) (some : 0 < length run) (q : Inside run) (stops : BeginsOutside after) where
  run_case : (held : List ℕ) (c : ℕ) (cs front : List ℕ)
      → ((begun front : List ℕ) → Inside begun → EndsOutside front → begun ++ cs ≡ front ++ (run ++ after) → IsAmong (terms_from (folded begun) cs) (folded run))
      → Inside held → EndsOutside front → held ++ c ∷ cs ≡ front ++ (run ++ after)
      → (t : Bool) → is_of_term c ≡ t → IsAmong (if t then terms_from (folded held ++ encode_utf8 (simple_fold c)) cs else ended (folded held) (terms_from [] cs)) (folded run)
  run_case held c cs front later p starts e true f =
      subst (λ (l : List ℕ). IsAmong (terms_from l cs) (folded run)) (folded-push held c)
      (later (held ++ c ∷ []) front (inside-push held c p f) starts (append_assoc held (c ∷ []) cs ∙ e))
  run_case held c cs [] later p starts e false f = this_ended held run (terms_from [] cs) some (cut_once held (c ∷ cs) run after p q f stops e)
  run_case held c cs (d ∷ front) later p starts e false f =
      let l = later_run held c cs d front (run ++ after) p starts e in
      among_ended (folded held) (terms_from [] cs) (folded run) (later [] l.more tt l.starts l.shape)

  run_read : (held rest front : List ℕ) → Inside held → EndsOutside front → held ++ rest ≡ front ++ (run ++ after) → IsAmong (terms_from (folded held) rest) (folded run)
  run_read held [] [] p starts e = this_ended held run [] some (cut_once held [] run after p q tt stops e)
  run_read held [] (d ∷ front) p starts e = absurd (nothing_before held d front (run ++ after) p starts (sym (append-nil held) ∙ e))
  run_read held (c ∷ cs) front p starts e =
      run_case held c cs front (λ begun before p₂ starts₂ e₂. run_read begun cs before p₂ starts₂ e₂) p starts e (is_of_term c) refl

pub runs_are_terms : (text term : List ℕ) → IsTerm text term → IsAmong (terms_of text) term
runs_are_terms text term t =
    let r = t.longest in
    subst (IsAmong (terms_of text)) t.folded
    (run_read t.run r.after r.some r.inside r.stops [] (chars text) r.before tt r.starts (r.shape ∙ append_assoc r.before t.run r.after))

use Rattle.std.proofs.Common.{◌≡◌, ℕ, ◌≤◌, List, [], ◌∷◌, ◌++◌, length, take, drop, Option, Some, None, eqb, refl, ap, sym, ◌∙◌, append_assoc, arith}
use Rattle.std.specs.Prelude.{codes, cond}
use Rattle.std.specs.List.{slice_split}
use Rattle.std.specs.Option.{option_map}
use Rattle.std.specs.Str.{bytes_eq}
use Rattle.std.specs.Str.Parse.{digits_value}
use Rattle.std.specs.Fmt.{decimal}
use Rattle.std.proofs.lemmas.Fmt.{decimal_is_IsNumeral}
use Rattle.std.proofs.Math.Seq.{take-append_seam, drop-append_seam}
use Rattle.dg_wire.specs.declared.request.Request.{Request}
use Rattle.dg_wire.specs.declared.request.Request.TheVariants.{Alter, Begin, Mutate, Upsert, Query, Commit, Discard, Line, Roll, RollPlan, RollInstall, MoveStart, MoveCopy, MoveHold, MoveFlip, MoveOff, State}
use Rattle.dg_wire.specs.declared.verb.Verb.{Verb}
use Rattle.dg_wire.specs.declared.verb.Verb.TheVariants as verbs
use Rattle.dg_wire.specs.Verbs.{name_of}
use Rattle.dg_wire.specs.Frames.{words, verb_of, arguments, line, frame, frames, request_body, IsRequest, AreRequests}
use Rattle.dg_wire.specs.Exact.{NoWhole}
use Rattle.dg_wire.specs.Spelling.{Spells}
use Rattle.dg_wire.proofs.LineLemmas.{words_ink, split_join, join_feed, unique_line}
use Rattle.dg_wire.proofs.ExactLemmas.{behind_line, frame_parts}

-- the verb of a name
verb_named : List ℕ → Option Verb
verb_named w =
    cond (bytes_eq w (codes "alter")) (Some verbs.Alter)
    (cond (bytes_eq w (codes "begin")) (Some verbs.Begin)
    (cond (bytes_eq w (codes "mutate")) (Some verbs.Mutate)
    (cond (bytes_eq w (codes "upsert")) (Some verbs.Upsert)
    (cond (bytes_eq w (codes "query")) (Some verbs.Query)
    (cond (bytes_eq w (codes "commit")) (Some verbs.Commit)
    (cond (bytes_eq w (codes "discard")) (Some verbs.Discard)
    (cond (bytes_eq w (codes "line")) (Some verbs.Line)
    (cond (bytes_eq w (codes "roll")) (Some verbs.Roll)
    (cond (bytes_eq w (codes "rollplan")) (Some verbs.RollPlan)
    (cond (bytes_eq w (codes "rollinstall")) (Some verbs.RollInstall)
    (cond (bytes_eq w (codes "movestart")) (Some verbs.MoveStart)
    (cond (bytes_eq w (codes "movecopy")) (Some verbs.MoveCopy)
    (cond (bytes_eq w (codes "movehold")) (Some verbs.MoveHold)
    (cond (bytes_eq w (codes "moveflip")) (Some verbs.MoveFlip)
    (cond (bytes_eq w (codes "moveoff")) (Some verbs.MoveOff)
    (cond (bytes_eq w (codes "state")) (Some verbs.State) None))))))))))))))))

verb_named-name_of : (v : Verb) → verb_named (name_of v) ≡ Some v
unfolding verb_named
verb_named-name_of verbs.Alter = refl
verb_named-name_of v = refl

-- the number of some digits
number : List ℕ → ℕ
number ds = digits_value 10 ds

number-decimal : (n : ℕ) → n ≤ 1048576 → number (decimal n) ≡ n
unfolding number
number-decimal n h = (decimal_is_IsNumeral n (omega arith)).1

-- how long a body the arguments of a verb tell, where it has one
told_len : Verb → List (List ℕ) → Option ℕ
told_len verbs.Alter (w ∷ ws) = Some (number w)
told_len verbs.Mutate (w ∷ v ∷ ws) = Some (number v)
told_len verbs.Upsert (w ∷ v ∷ ws) = Some (number v)
told_len verbs.Query (w ∷ v ∷ ws) = Some (number v)
told_len v ws = None

told_len-request : (r : Request) → IsRequest r → told_len (verb_of r) (arguments r) ≡ option_map length (request_body r)
unfolding told_len
told_len-request (Alter body) ok = ap (λ (n : ℕ). Some n) (number-decimal (length body) ok)
told_len-request (Mutate sid body) ok = ap (λ (n : ℕ). Some n) (number-decimal (length body) ok.1)
told_len-request (Upsert sid body) ok = ap (λ (n : ℕ). Some n) (number-decimal (length body) ok.1)
told_len-request (Query sid body) ok = ap (λ (n : ℕ). Some n) (number-decimal (length body) ok.1)
told_len-request r ok = refl

-- the request with this verb, these arguments and this body
request_with : Verb → List (List ℕ) → Option (List ℕ) → Option Request
request_with verbs.Alter ws (Some body) = Some (Alter body)
request_with verbs.Begin (w ∷ ws) b = Some (Begin (number w))
request_with verbs.Mutate (w ∷ ws) (Some body) = Some (Mutate (number w) body)
request_with verbs.Upsert (w ∷ ws) (Some body) = Some (Upsert (number w) body)
request_with verbs.Query (w ∷ ws) (Some body) = Some (Query (number w) body)
request_with verbs.Commit (w ∷ ws) b = Some (Commit (number w))
request_with verbs.Discard (w ∷ ws) b = Some (Discard (number w))
request_with verbs.Line ws b = Some Line
request_with verbs.Roll (w ∷ ws) b = Some (Roll w)
request_with verbs.RollPlan (w ∷ ws) b = Some (RollPlan w)
request_with verbs.RollInstall (w ∷ ws) b = Some (RollInstall w)
request_with verbs.MoveStart (w ∷ v ∷ ws) b = Some (MoveStart w (number v))
request_with verbs.MoveCopy (w ∷ ws) b = Some (MoveCopy w)
request_with verbs.MoveHold (w ∷ ws) b = Some (MoveHold w)
request_with verbs.MoveFlip (w ∷ ws) b = Some (MoveFlip w)
request_with verbs.MoveOff (w ∷ ws) b = Some (MoveOff w)
request_with verbs.State ws b = Some State
request_with v ws b = None

sid_back : (sid : ℕ) → sid ≤ 16 → number (decimal sid) ≡ sid
sid_back sid h = number-decimal sid (omega arith)

request_with-parts : (r : Request) → IsRequest r → request_with (verb_of r) (arguments r) (request_body r) ≡ Some r
unfolding request_with
request_with-parts (Begin sid) ok = ap (λ (n : ℕ). Some (Begin n)) (sid_back sid ok.1)
request_with-parts (Mutate sid body) ok = ap (λ (n : ℕ). Some (Mutate n body)) (sid_back sid ok.0.1)
request_with-parts (Upsert sid body) ok = ap (λ (n : ℕ). Some (Upsert n body)) (sid_back sid ok.0.1)
request_with-parts (Query sid body) ok = ap (λ (n : ℕ). Some (Query n body)) (sid_back sid ok.0.1)
request_with-parts (Commit sid) ok = ap (λ (n : ℕ). Some (Commit n)) (sid_back sid ok.1)
request_with-parts (Discard sid) ok = ap (λ (n : ℕ). Some (Discard n)) (sid_back sid ok.1)
request_with-parts (MoveStart pred group) ok = ap (λ (n : ℕ). Some (MoveStart pred n)) (sid_back group ok.1.1)
request_with-parts r ok = refl

-- requests of the same words and the same body are one
same_request : (a b : Request) → IsRequest a → IsRequest b → verb_of a ≡ verb_of b → arguments a ≡ arguments b → request_body a ≡ request_body b → a ≡ b
same_request a b ok too verb said body =
    let parts = request_with-parts a ok in
    let others = request_with-parts b too in
    one a b (sym parts ∙ ap (λ (v : Verb). request_with v (arguments a) (request_body a)) verb ∙ ap (λ (ws : List (List ℕ)). request_with (verb_of b) ws (request_body a)) said ∙ ap (request_with (verb_of b) (arguments b)) body ∙ others)
  where
    one : (a b : Request) → Some a ≡ Some b → a ≡ b
    one a b e = cc

-- bodies of one length, each with its line feed, are one
same_body : (a b : Option (List ℕ)) (r s : List ℕ) → option_map length a ≡ option_map length b → behind_line a ++ r ≡ behind_line b ++ s → (a ≡ b) × (r ≡ s)
same_body None None r s long e = (refl, e)
same_body None (Some y) r s long e = absurd (cc)
same_body (Some x) None r s long e = absurd (cc)
same_body (Some x) (Some y) r s long e =
    let same : length x ≡ length y = cc in
    let whole : x ++ (10 ∷ r) ≡ y ++ (10 ∷ s) = sym (append_assoc x (10 ∷ []) r) ∙ e ∙ append_assoc y (10 ∷ []) s in
    let front : x ≡ y = sym (take-append_seam x (10 ∷ r)) ∙ ap (take (length x)) whole ∙ ap (λ (n : ℕ). take n (y ++ (10 ∷ s))) same ∙ take-append_seam y (10 ∷ s) in
    let back : 10 ∷ r ≡ 10 ∷ s = sym (drop-append_seam x (10 ∷ r)) ∙ ap (drop (length x)) whole ∙ ap (λ (n : ℕ). drop n (y ++ (10 ∷ s))) same ∙ drop-append_seam y (10 ∷ s) in
    (ap (λ (l : List ℕ). Some l) front, tails r s back)
  where
    tails : (r s : List ℕ) → 10 ∷ r ≡ 10 ∷ s → r ≡ s
    tails r s e = cc

-- the words of a line
same_words : (a b : Request) → IsRequest a → IsRequest b → line a ≡ line b → words a ≡ words b
same_words a b ok too e =
    sym (split_join (name_of (verb_of a)) (arguments a) (words_ink a ok)) ∙ ap (slice_split (λ b. eqb b 32)) e ∙ split_join (name_of (verb_of b)) (arguments b) (words_ink b too)

same_verb : (a b : Request) → words a ≡ words b → (verb_of a ≡ verb_of b) × (arguments a ≡ arguments b)
same_verb a b e =
    (one (verb_of a) (verb_of b) (sym (verb_named-name_of (verb_of a)) ∙ ap verb_named (heads _ _ _ _ e) ∙ verb_named-name_of (verb_of b)), tails _ _ _ _ e)
  where
    one : (a b : Verb) → Some a ≡ Some b → a ≡ b
    one a b e = cc

    heads : (w v : List ℕ) (ws vs : List (List ℕ)) → w ∷ ws ≡ v ∷ vs → w ≡ v
    heads w v ws vs e = cc

    tails : (w v : List ℕ) (ws vs : List (List ℕ)) → w ∷ ws ≡ v ∷ vs → ws ≡ vs
    tails w v ws vs e = cc

-- no frame begins another
pub frame_unique : (a b : Request) (r s : List ℕ) → IsRequest a → IsRequest b → frame a ++ r ≡ frame b ++ s → (a ≡ b) × (r ≡ s)
frame_unique a b r s ok too e =
    let parts = unique_line (line a) (line b) (behind_line (request_body a) ++ r) (behind_line (request_body b) ++ s)
    (join_feed (name_of (verb_of a)) (arguments a) (words_ink a ok))
    (join_feed (name_of (verb_of b)) (arguments b) (words_ink b too))
    (sym (frame_parts a r) ∙ e ∙ frame_parts b s) in
    let said = same_verb a b (same_words a b ok too parts.0) in
    let long : option_map length (request_body a) ≡ option_map length (request_body b) =
    sym (told_len-request a ok) ∙ ap (λ (v : Verb). told_len v (arguments a)) said.0 ∙ ap (told_len (verb_of b)) said.1 ∙ told_len-request b too in
    let body = same_body (request_body a) (request_body b) r s long parts.1 in
    (same_request a b ok too said.0 said.1 body.0, body.1)

frames_unique : (a b : List Request) (r s : List ℕ) → AreRequests a → AreRequests b → NoWhole r → NoWhole s → frames a ++ r ≡ frames b ++ s → (a ≡ b) × (r ≡ s)
frames_unique [] [] r s ok too none nor e = (refl, e)
frames_unique [] (y ∷ b) r s ok too none nor e = absurd (none y too.0 (frames b ++ s) (e ∙ append_assoc (frame y) (frames b) s))
frames_unique (x ∷ a) [] r s ok too none nor e = absurd (nor x ok.0 (frames a ++ r) (sym e ∙ append_assoc (frame x) (frames a) r))
frames_unique (x ∷ a) (y ∷ b) r s ok too none nor e =
    let first = frame_unique x y (frames a ++ r) (frames b ++ s) ok.0 too.0 (sym (append_assoc (frame x) (frames a) r) ∙ e ∙ append_assoc (frame y) (frames b) s) in
    let more = frames_unique a b r s ok.1 too.1 none nor first.1 in
    (both x y a b first.0 more.0, more.1)
  where
    both : (x y : Request) (a b : List Request) → x ≡ y → a ≡ b → x ∷ a ≡ y ∷ b
    both x y a b e f = cc

-- two spellings of the same bytes are one
pub spelling_unique : (bytes : List ℕ) (some others : List Request) (rest more : List ℕ) → Spells bytes some rest → Spells bytes others more → (some ≡ others) × (rest ≡ more)
spelling_unique bytes some others rest more a b = frames_unique some others rest more a.valid b.valid a.no_whole b.no_whole (sym a.whole ∙ b.whole)

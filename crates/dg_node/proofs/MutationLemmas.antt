-- What a mutation is answered, case by case.
use Rattle.std.proofs.Common.{◌≡◌, ◌≢◌, ℕ, ◌+◌, ◌<◌, true, false, arith, List, [], ◌∷◌, Option, Some, None, refl, ap, sym, subst, ◌∙◌}
use Rattle.std.specs.Prelude.{◌==◌, length, Result, Err}
use Rattle.std.specs.Str.{IsUtf8, IsValidUpTo}
use Rattle.std.specs.Str.Lossy.{utf8_valid_len}
use Rattle.std.proofs.lemmas.Grind.{common_steps}
use Rattle.std.proofs.lemmas.Str.{utf8_valid_len-IsUtf8, utf8_valid_len-IsValidUpTo}
use Rattle.dg_wire.specs.declared.refusal.Refusal.TheVariants as refusals
use Rattle.dg_wire.specs.declared.reply.Reply.{Reply}
use Rattle.dg_wire.specs.declared.reply.Reply.TheVariants as replies
use Rattle.dg_edges.specs.declared.edge.Edge.{Edge}
use Rattle.dg_edges.specs.declared.fault.EdgeFault.{EdgeFault}
use Rattle.dg_edges.specs.Resolving.{IsAnswer}
use Rattle.dg_edges.specs.Expanding.{new_names, expanded}
use Rattle.dg_nquad.specs.declared.fault.NquadFault.{NquadFault}
use Rattle.dg_nquad.specs.declared.fault.NquadFault.TheVariants as texts
use Rattle.dg_nquad.specs.declared.mutation.Statement.{Statement}
use Rattle.dg_node.specs.Graphs as machines
use Rattle.dg_node.specs.Machine.{Machine, Session, with_changes, leased_upto}
use Rattle.dg_node.specs.Mutations.{first_leased, added, added_from, MutatesAs}
use Rattle.dg_node.specs.NewUids.{uids_text}

abbrev Pair : Type 0
Pair = Reply × Machine

-- ---- what is answered

module _ (m : Machine) (s : Session) where
  some_added : (edges : List Edge) → edges ≢ [] → ◌≡◌ {A = Pair} (added m s edges) (added_from m s edges (first_leased m edges))
  some_added [] some = absurd (some refl)
  some_added (edge ∷ edges) some = refl

  pub added_spent : (edges : List Edge) → edges ≢ [] → first_leased m edges ≡ None → ◌≡◌ {A = Pair} (added m s edges) (replies.Refused (refusals.UidsSpent m.next_uid), m)
  added_spent edges some none = some_added edges some ∙ ap (λ (o : Option ℕ). added_from m s edges o) none

  pub added_is : (edges : List Edge) (first : ℕ) → edges ≢ [] → first_leased m edges ≡ Some first → ◌≡◌ {A = Pair} (added m s edges) (
    replies.Mutate s.sid (uids_text first (new_names edges)),
    with_changes (leased_upto m (first + length (new_names edges))) s.sid (expanded (machines.graph_at m.alters m.commits s.start s.own) edges first),
  )
  added_is edges first some e = some_added edges some ∙ ap (λ (o : Option ℕ). added_from m s edges o) e

-- ---- whether a body is a text

pub is_whole : (body : List ℕ) → IsUtf8 body → (utf8_valid_len body == length body) ≡ true
is_whole body u = let e : utf8_valid_len body ≡ length body = utf8_valid_len-IsUtf8 body u in grind (arith, common_steps)

pub not_whole : (body : List ℕ) (n : ℕ) → IsValidUpTo body n → (utf8_valid_len body == length body) ≡ false
not_whole body n v =
    let is : utf8_valid_len body ≡ n = utf8_valid_len-IsValidUpTo body n v in
    let lt : n < length body = v.short in
    grind (arith, common_steps)

-- ---- what was checked

pub unless_memory : (R : Result (List Edge) EdgeFault → Type 0) (result expected : Result (List Edge) EdgeFault) → result ≡ expected → IsAnswer R result → IsAnswer R expected
unless_memory R result expected e is = subst (IsAnswer R) e is

-- ---- what a text says

pub bad_token : (m : Machine) (s : Session) (read : Result (List Statement) NquadFault) (offset k : ℕ) → read ≡ Err (texts.BadToken offset) → k ≡ offset → MutatesAs m s read (replies.Refused (refusals.BadToken k)) m
bad_token m s read offset k e is = subst (λ (r : Result (List Statement) NquadFault). MutatesAs m s r (replies.Refused (refusals.BadToken k)) m) (sym e) (subst (λ (j : ℕ). ◌≡◌ {A = Pair} (replies.Refused (refusals.BadToken offset), m) (replies.Refused (refusals.BadToken j), m)) (sym is) refl)

pub bad_syntax : (m : Machine) (s : Session) (read : Result (List Statement) NquadFault) (offset k : ℕ) → read ≡ Err (texts.BadSyntax offset) → k ≡ offset → MutatesAs m s read (replies.Refused (refusals.BadSyntax k)) m
bad_syntax m s read offset k e is = subst (λ (r : Result (List Statement) NquadFault). MutatesAs m s r (replies.Refused (refusals.BadSyntax k)) m) (sym e) (subst (λ (j : ℕ). ◌≡◌ {A = Pair} (replies.Refused (refusals.BadSyntax offset), m) (replies.Refused (refusals.BadSyntax j), m)) (sym is) refl)

-- A step is a function of the request where memory isn't wanting.
use Rattle.std.proofs.Common.{◌≡◌, ◌≢◌, ℕ, inl, inr, Bool, true, false, List, [], ◌∷◌, Option, Some, None, length, refl, ap, sym, subst, ◌∙◌}
use Rattle.std.specs.Prelude.{◌==◌, Result, Ok, Err}
use Rattle.std.specs.Str.Lossy.{utf8_valid_len}
use Rattle.dg_wire.specs.declared.refusal.Refusal.TheVariants as refusals
use Rattle.dg_wire.specs.declared.reply.Reply.{Reply}
use Rattle.dg_wire.specs.declared.reply.Reply.TheVariants as replies
use Rattle.dg_wire.specs.declared.request.Request.{Request}
use Rattle.dg_wire.specs.declared.request.Request.TheVariants as requests
use Rattle.dg_nquad.specs.declared.fault.NquadFault.{NquadFault}
use Rattle.dg_nquad.specs.declared.fault.NquadFault.TheVariants as texts
use Rattle.dg_nquad.specs.declared.mutation.Statement.{Statement}
use Rattle.dg_nquad.specs.Whole.{mutation}
use Rattle.dg_edges.proofs.ResolveLaws.{resolves_once}
use Rattle.dg_schema.specs.declared.definition.PredDef.{PredDef}
use Rattle.dg_graph.specs.declared.change.Triple.{Triple}
use Rattle.dg_parse.specs.declared.fault.DqlFault.{DqlFault}
use Rattle.dg_parse.specs.declared.fault.DqlFault.TheVariants as queries
use Rattle.dg_parse.specs.declared.query.Query.{Query}
use Rattle.dg_parse.specs.declared.upsert.Upsert.{Upsert}
use Rattle.dg_parse.specs.Whole.{query_of, upsert_of}
use Rattle.dg_check.specs.declared.fault.CheckFault.{CheckFault}
use Rattle.dg_check.specs.Faults.{fault_of, fault_of_upsert}
use Rattle.dg_level.specs.Meaning.{overflow_of}
use Rattle.dg_node.specs.Schemas.{schema_at}
use Rattle.dg_node.specs.Graphs.{graph_at}
use Rattle.dg_node.specs.Machine.{Machine, Session, session_of, empty}
use Rattle.dg_node.specs.Mutations.{mutated, MutatesBy, MutatesAs, MutatesText, MutatesIn}
use Rattle.dg_node.specs.Queries.{IsFound, answer_or_fault, QueriesBy, QueriesAs, QueriesText, QueriesIn}
use Rattle.dg_node.specs.Steps.{Outcome, Step, Steps, HadMemory, IsDetermined}
use Rattle.dg_node.specs.Upserts.{as_upsert, statements_of, IsFoundIn, Adds, AddsUnless, UpsertsOr, UpsertsBy, UpsertsAs, UpsertsText, UpsertsIn}
use Rattle.dg_node.proofs.Refusing.{none_found, fault_there, none_in, fault_in}

abbrev Pair : Type 0
Pair = Reply × Machine

-- one reply and one state
abbrev Same : Reply → Reply → Machine → Machine → Type 0
Same p q a b = ◌≡◌ {A = Pair} (p, a) (q, b)

-- statements are checked in one way
checked_one : (old : Machine) (session : Session) (statements : List Statement) (p q : Reply) (a b : Machine) → MutatesBy old session statements p a → MutatesBy old session statements q b → Same p q a b
checked_one old session statements p q a b x y =
    sym x.outcome ∙ ap (mutated old session) (resolves_once (schema_at old.alters session.start) statements x.checked y.checked x.resolves y.resolves) ∙ y.outcome

read_one : (old : Machine) (session : Session) (read : Result (List Statement) NquadFault) (p q : Reply) (a b : Machine) → MutatesAs old session read p a → MutatesAs old session read q b → Same p q a b
read_one old session (Ok statements) p q a b x y = checked_one old session statements p q a b x y
read_one old session (Err (texts.BadToken offset)) p q a b x y = sym x ∙ y
read_one old session (Err (texts.BadSyntax offset)) p q a b x y = sym x ∙ y
read_one old session (Err texts.OutOfMemory) p q a b x y = absurd x

text_one : (old : Machine) (session : Session) (body : List ℕ) (whole : Bool) (p q : Reply) (a b : Machine) → MutatesText old session body whole p a → MutatesText old session body whole q b → Same p q a b
text_one old session body true p q a b x y = read_one old session (mutation body) p q a b x y
text_one old session body false p q a b x y = sym x ∙ y

mutates_one : (old : Machine) (sid : ℕ) (body : List ℕ) (found : Option Session) (p q : Reply) (a b : Machine) → MutatesIn old sid found body p a → MutatesIn old sid found body q b → Same p q a b
mutates_one old sid body (Some session) p q a b x y = text_one old session body (utf8_valid_len body == length body) p q a b x y
mutates_one old sid body None p q a b x y = sym x ∙ y

one_fault : (found : Option CheckFault) (a b : CheckFault) → found ≡ Some a → found ≡ Some b → a ≡ b
one_fault found a b e f = cc

-- with no pattern refused the checks find one thing
found_one : (schema : List PredDef) (query : Query) (some other : Option CheckFault) → IsFound schema [] query some → IsFound schema [] query other → some ≡ other
found_one schema query None None x y = refl
found_one schema query None (Some fault) x y = absurd (none_found schema query fault x y)
found_one schema query (Some fault) None x y = absurd (none_found schema query fault y x)
found_one schema query (Some fault) (Some more) x y = ap Some (one_fault (fault_of schema query) fault more (fault_there schema query fault x) (fault_there schema query more y))

module _ (old : Machine) (sid : ℕ) (schema : List PredDef) (graph : List Triple) where
  answered_one : (query : Query) (p q : Reply) (a b : Machine) → QueriesBy [] old sid schema graph query p a → QueriesBy [] old sid schema graph query q b → Same p q a b
  answered_one query p q a b x y =
      sym x.outcome ∙ ap (answer_or_fault old sid schema graph query) (found_one schema query x.fault y.fault x.found y.found) ∙ y.outcome

  said_one : (read : Result Query DqlFault) (p q : Reply) (a b : Machine) → QueriesAs [] old sid schema graph read p a → QueriesAs [] old sid schema graph read q b → Same p q a b
  said_one (Ok query) p q a b x y = answered_one query p q a b x y
  said_one (Err (queries.BadToken offset)) p q a b x y = sym x ∙ y
  said_one (Err (queries.TooDeep offset)) p q a b x y = sym x ∙ y
  said_one (Err (queries.BadSyntax offset)) p q a b x y = sym x ∙ y
  said_one (Err queries.OutOfMemory) p q a b x y = absurd x

  body_one : (body : List ℕ) (whole : Bool) (p q : Reply) (a b : Machine) → QueriesText [] old sid schema graph body whole p a → QueriesText [] old sid schema graph body whole q b → Same p q a b
  body_one body true p q a b x y = said_one (query_of body) p q a b x y
  body_one body false p q a b x y = sym x ∙ y

queries_one : (old : Machine) (sid : ℕ) (body : List ℕ) (found : Option Session) (p q : Reply) (a b : Machine) → QueriesIn [] old sid found body p a → QueriesIn [] old sid found body q b → Same p q a b
queries_one old sid body (Some session) p q a b x y = body_one old sid (schema_at old.alters session.start) (graph_at old.alters old.commits session.start session.own) body (utf8_valid_len body == length body) p q a b x y
queries_one old sid body None p q a b x y = sym x ∙ y

-- in an upsert block too
found_in_one : (schema : List PredDef) (upsert : Upsert) (some other : Option CheckFault) → IsFoundIn schema [] upsert some → IsFoundIn schema [] upsert other → some ≡ other
found_in_one schema upsert None None x y = refl
found_in_one schema upsert None (Some fault) x y = absurd (none_in schema upsert fault x y)
found_in_one schema upsert (Some fault) None x y = absurd (none_in schema upsert fault y x)
found_in_one schema upsert (Some fault) (Some more) x y = ap Some (one_fault (fault_of_upsert schema upsert) fault more (fault_in schema upsert fault x) (fault_in schema upsert more y))

module _ (old : Machine) (session : Session) where
  meant_one : (statements : List Statement) (p q : Reply) (a b : Machine) → Adds old session statements p a → Adds old session statements q b → Same p q a b
  meant_one statements p q a b x y =
      let same : Same x.given y.given a b = checked_one old session statements x.given y.given a b x.mutates y.mutates in
      let first : Same p (as_upsert x.given) a a = ap (λ (r : Reply). (r, a)) x.reply_is in
      let mid : Same (as_upsert x.given) (as_upsert y.given) a b = ap (λ (z : Pair). (as_upsert z.0, z.1)) same in
      let last : Same (as_upsert y.given) q b b = ap (λ (r : Reply). (r, b)) (sym y.reply_is) in
      first ∙ (mid ∙ last)

  unless_one : (statements : List Statement) (overflow : Option (List ℕ)) (p q : Reply) (a b : Machine) → AddsUnless old session statements overflow p a → AddsUnless old session statements overflow q b → Same p q a b
  unless_one statements None p q a b x y = meant_one statements p q a b x y
  unless_one statements (Some name) p q a b x y = sym x ∙ y

  module _ (schema : List PredDef) (graph : List Triple) where
    or_one : (upsert : Upsert) (fault : Option CheckFault) (p q : Reply) (a b : Machine) → UpsertsOr old session schema graph upsert fault p a → UpsertsOr old session schema graph upsert fault q b → Same p q a b
    or_one upsert None p q a b x y = unless_one (statements_of schema graph upsert) (overflow_of schema graph upsert.query) p q a b x y
    or_one upsert (Some fault) p q a b x y = sym x ∙ y

    block_one : (upsert : Upsert) (p q : Reply) (a b : Machine) → UpsertsBy [] old session schema graph upsert p a → UpsertsBy [] old session schema graph upsert q b → Same p q a b
    block_one upsert p q a b x y =
        or_one upsert y.fault p q a b
        (subst (λ (f : Option CheckFault). UpsertsOr old session schema graph upsert f p a) (found_in_one schema upsert x.fault y.fault x.found y.found) x.outcome) y.outcome

    block_said_one : (read : Result Upsert DqlFault) (p q : Reply) (a b : Machine) → UpsertsAs [] old session schema graph read p a → UpsertsAs [] old session schema graph read q b → Same p q a b
    block_said_one (Ok upsert) p q a b x y = block_one upsert p q a b x y
    block_said_one (Err (queries.BadToken offset)) p q a b x y = sym x ∙ y
    block_said_one (Err (queries.TooDeep offset)) p q a b x y = sym x ∙ y
    block_said_one (Err (queries.BadSyntax offset)) p q a b x y = sym x ∙ y
    block_said_one (Err queries.OutOfMemory) p q a b x y = absurd x

    block_text_one : (body : List ℕ) (whole : Bool) (p q : Reply) (a b : Machine) → UpsertsText [] old session schema graph body whole p a → UpsertsText [] old session schema graph body whole q b → Same p q a b
    block_text_one body true p q a b x y = block_said_one (upsert_of body) p q a b x y
    block_text_one body false p q a b x y = sym x ∙ y

upserts_one : (old : Machine) (sid : ℕ) (body : List ℕ) (found : Option Session) (p q : Reply) (a b : Machine) → UpsertsIn [] old sid found body p a → UpsertsIn [] old sid found body q b → Same p q a b
upserts_one old sid body (Some session) p q a b x y = block_text_one old session (schema_at old.alters session.start) (graph_at old.alters old.commits session.start session.own) body (utf8_valid_len body == length body) p q a b x y
upserts_one old sid body None p q a b x y = sym x ∙ y

pub outcome_one : (old : Machine) (request : Request) (p q : Reply) (a b : Machine) → Outcome [] old request p a → Outcome [] old request q b → Same p q a b
outcome_one old (requests.Alter body) p q a b x y = sym x ∙ y
outcome_one old (requests.Begin sid) p q a b x y = sym x ∙ y
outcome_one old (requests.Mutate sid body) p q a b x y = mutates_one old sid body (session_of old sid) p q a b x y
outcome_one old (requests.Upsert sid body) p q a b x y = upserts_one old sid body (session_of old sid) p q a b x y
outcome_one old (requests.Query sid body) p q a b x y = queries_one old sid body (session_of old sid) p q a b x y
outcome_one old (requests.Commit sid) p q a b x y = sym x ∙ y
outcome_one old (requests.Discard sid) p q a b x y = sym x ∙ y
outcome_one old request p q a b x y = sym x ∙ y

step_one : (old : Machine) (request : Request) (p q : Reply) (a b : Machine) → p ≢ replies.Refused refusals.Memory → q ≢ replies.Refused refusals.Memory → Step [] old request p a → Step [] old request q b → Same p q a b
step_one old request p q a b h k (inl x) (inl y) = outcome_one old request p q a b x y
step_one old request p q a b h k (inl x) (inr y) = absurd (k y.free)
step_one old request p q a b h k (inr x) y = absurd (h x.free)

steps_one : (old : Machine) (requests : List Request) (ps qs : List Reply) (a b : Machine) → Steps [] old requests ps a → Steps [] old requests qs b → HadMemory ps → HadMemory qs → (ps ≡ qs) × (a ≡ b)
steps_one old [] [] [] a b x y h k = (refl, x ∙ sym y)
steps_one old [] [] (q ∷ qs) a b x y h k = absurd y
steps_one old [] (p ∷ ps) qs a b x y h k = absurd x
steps_one old (r ∷ rs) [] qs a b x y h k = absurd x
steps_one old (r ∷ rs) (p ∷ ps) [] a b x y h k = absurd y
steps_one old (r ∷ rs) (p ∷ ps) (q ∷ qs) a b x y h k =
    let first = step_one old r p q x.0 y.0 h.0 k.0 x.1 y.1 in
    let reply : p ≡ q = ap (λ (z : Pair). z.0) first in
    let mid : x.0 ≡ y.0 = ap (λ (z : Pair). z.1) first in
    let rest = steps_one y.0 rs ps qs a b (subst (λ (m : Machine). Steps [] m rs ps a) mid x.2) y.2 h.1 k.1 in
    (whole p q ps qs reply rest.0, rest.1)
  where
    whole : (p q : Reply) (ps qs : List Reply) → p ≡ q → ps ≡ qs → p ∷ ps ≡ q ∷ qs
    whole p q ps qs e f = cc

pub determined : IsDetermined
determined groups requests some others one other x y h k = steps_one (empty groups) requests some others one other x y h k

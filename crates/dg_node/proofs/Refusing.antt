-- Lists of refused patterns: what is found where there is none, and where a list grows.
use Rattle.std.proofs.Common.{◌≡◌, ℕ, inl, inr, Bool, true, false, List, [], ◌∷◌, ◌++◌, Option, Some, None, refl, sym, subst}
use Rattle.std.specs.Prelude.{◌==◌, ◌&&◌, ◌||◌, Result, Ok, Err, length}
use Rattle.std.specs.Ordering.{bool_cmp, is_eq}
use Rattle.std.specs.Str.Lossy.{utf8_valid_len}
use Rattle.dg_values.specs.Order.{same_text}
use Rattle.dg_schema.specs.declared.definition.PredDef.{PredDef}
use Rattle.dg_graph.specs.declared.change.Triple.{Triple}
use Rattle.dg_parse.specs.declared.fault.DqlFault.{DqlFault}
use Rattle.dg_parse.specs.declared.fault.DqlFault.TheVariants as texts
use Rattle.dg_parse.specs.declared.query.Query.{Query}
use Rattle.dg_parse.specs.declared.upsert.Upsert.{Upsert}
use Rattle.dg_parse.specs.Whole.{query_of, upsert_of}
use Rattle.dg_check.specs.declared.fault.CheckFault.{CheckFault}
use Rattle.dg_check.specs.declared.patterns.Refusal.{Refusal as BadPattern}
use Rattle.dg_check.specs.Faults.{fault_of, fault_of_upsert}
use Rattle.dg_check.specs.Outcomes.{IsOutcomeOf}
use Rattle.dg_check.specs.Patterns.{is_refused, IsFrontOf}
use Rattle.dg_check.specs.Places.{places_of_query}
use Rattle.dg_check.specs.Variables.{Use, uses_in, uses_of_mutations}
use Rattle.dg_wire.specs.declared.reply.Reply.{Reply}
use Rattle.dg_wire.specs.declared.request.Request.{Request}
use Rattle.dg_wire.specs.declared.request.Request.TheVariants as requests
use Rattle.dg_node.specs.Graphs.{graph_at}
use Rattle.dg_node.specs.Schemas.{schema_at}
use Rattle.dg_node.specs.Machine.{Machine, Session, session_of}
use Rattle.dg_node.specs.Queries.{IsFound, QueriesBy, QueriesAs, QueriesText, QueriesIn}
use Rattle.dg_node.specs.Steps.{Outcome, Step, Steps}
use Rattle.dg_node.specs.Upserts.{IsFoundIn, UpsertsBy, UpsertsAs, UpsertsText, UpsertsIn}

-- ---- no pattern was refused

-- the fault is that of the text alone
fault_alone : (schema : List PredDef) (query : Query) (uses : List Use) (whole : Option CheckFault) (fault : CheckFault) → IsOutcomeOf schema query uses whole [] (Err fault) → whole ≡ Some fault
fault_alone schema query uses whole fault (inl is) = is
fault_alone schema query uses whole fault (inr (before, pattern)) = let no = pattern.refused.listed in absurd (cc)

-- there isn't one and none
not_both : (whole : Option CheckFault) (fault : CheckFault) → whole ≡ None → whole ≡ Some fault → ⊥
not_both whole fault e f = absurd (cc)

-- of a query
pub fault_there : (schema : List PredDef) (query : Query) (fault : CheckFault) → IsFound schema [] query (Some fault) → fault_of schema query ≡ Some fault
fault_there schema query fault some = fault_alone schema query (uses_in (places_of_query query)) (fault_of schema query) fault some

pub none_found : (schema : List PredDef) (query : Query) (fault : CheckFault) → IsFound schema [] query None → IsFound schema [] query (Some fault) → ⊥
none_found schema query fault none some = not_both (fault_of schema query) fault none (fault_there schema query fault some)

-- of an upsert block
pub fault_in : (schema : List PredDef) (upsert : Upsert) (fault : CheckFault) → IsFoundIn schema [] upsert (Some fault) → fault_of_upsert schema upsert ≡ Some fault
fault_in schema upsert fault some =
    fault_alone schema upsert.query (uses_in (places_of_query upsert.query) ++ uses_of_mutations upsert.muts) (fault_of_upsert schema upsert) fault some

pub none_in : (schema : List PredDef) (upsert : Upsert) (fault : CheckFault) → IsFoundIn schema [] upsert None → IsFoundIn schema [] upsert (Some fault) → ⊥
none_in schema upsert fault none some = not_both (fault_of_upsert schema upsert) fault none (fault_in schema upsert fault some)

-- ---- the list grows

or_more : (b c d : Bool) → (c ≡ true → d ≡ true) → (b || c) ≡ true → (b || d) ≡ true
or_more true c d f e = refl
or_more false c d f e = f e

still_refused : (list more : List BadPattern) (text : List ℕ) (fold : Bool) → is_refused list text fold ≡ true → is_refused (list ++ more) text fold ≡ true
still_refused [] more text fold e = absurd (cc)
still_refused (r ∷ list) more text fold e =
    or_more (same_text text r.text && is_eq (bool_cmp fold r.fold)) (is_refused list text fold) (is_refused (list ++ more) text fold) (still_refused list more text fold) e

module _ (list more : List BadPattern) where
  -- the checks may find the same
  fault_more : (schema : List PredDef) (query : Query) (uses : List Use) (whole : Option CheckFault) (fault : CheckFault) → IsOutcomeOf schema query uses whole list (Err fault) → IsOutcomeOf schema query uses whole (list ++ more) (Err fault)
  fault_more schema query uses whole fault (inl is) = inl is
  fault_more schema query uses whole fault (inr (before, p)) = inr (
    before,
    record {
      before = p.before;
      place = p.place;
      after = p.after;
      stands = p.stands;
      refused = record {
        pred = p.refused.pred;
        pattern = p.refused.pattern;
        fold = p.refused.fold;
        sought = p.refused.sought;
        listed = still_refused list more p.refused.pattern p.refused.fold p.refused.listed;
        is = p.refused.is;
      };
      clean = p.clean;
      read = p.read;
      are_read = p.are_read;
    },
  )

  pub found_more : (schema : List PredDef) (query : Query) (fault : Option CheckFault) → IsFound schema list query fault → IsFound schema (list ++ more) query fault
  found_more schema query None f = f
  found_more schema query (Some fault) f = fault_more schema query (uses_in (places_of_query query)) (fault_of schema query) fault f

  found_in_more : (schema : List PredDef) (upsert : Upsert) (fault : Option CheckFault) → IsFoundIn schema list upsert fault → IsFoundIn schema (list ++ more) upsert fault
  found_in_more schema upsert None f = f
  found_in_more schema upsert (Some fault) f =
      fault_more schema upsert.query (uses_in (places_of_query upsert.query) ++ uses_of_mutations upsert.muts) (fault_of_upsert schema upsert) fault f

  module _ (old : Machine) (sid : ℕ) (schema : List PredDef) (graph : List Triple) where
    read_more : (query : Query) (p : Reply) (new : Machine) → QueriesBy list old sid schema graph query p new → QueriesBy (list ++ more) old sid schema graph query p new
    read_more query p new q = record { fault = q.fault; found = found_more schema query q.fault q.found; outcome = q.outcome }

    as_more : (read : Result Query DqlFault) (p : Reply) (new : Machine) → QueriesAs list old sid schema graph read p new → QueriesAs (list ++ more) old sid schema graph read p new
    as_more (Ok query) p new q = read_more query p new q
    as_more (Err (texts.BadToken offset)) p new q = q
    as_more (Err (texts.TooDeep offset)) p new q = q
    as_more (Err (texts.BadSyntax offset)) p new q = q
    as_more (Err texts.OutOfMemory) p new q = absurd q

    text_more : (body : List ℕ) (whole : Bool) (p : Reply) (new : Machine) → QueriesText list old sid schema graph body whole p new → QueriesText (list ++ more) old sid schema graph body whole p new
    text_more body true p new q = as_more (query_of body) p new q
    text_more body false p new q = q

  queries_more : (old : Machine) (sid : ℕ) (body : List ℕ) (found : Option Session) (p : Reply) (new : Machine) → QueriesIn list old sid found body p new → QueriesIn (list ++ more) old sid found body p new
  queries_more old sid body (Some session) p new q = text_more old sid (schema_at old.alters session.start) (graph_at old.alters old.commits session.start session.own) body (utf8_valid_len body == length body) p new q
  queries_more old sid body None p new q = q

  module _ (old : Machine) (session : Session) (schema : List PredDef) (graph : List Triple) where
    block_more : (upsert : Upsert) (p : Reply) (new : Machine) → UpsertsBy list old session schema graph upsert p new → UpsertsBy (list ++ more) old session schema graph upsert p new
    block_more upsert p new u = record { fault = u.fault; found = found_in_more schema upsert u.fault u.found; outcome = u.outcome }

    block_as_more : (read : Result Upsert DqlFault) (p : Reply) (new : Machine) → UpsertsAs list old session schema graph read p new → UpsertsAs (list ++ more) old session schema graph read p new
    block_as_more (Ok upsert) p new u = block_more upsert p new u
    block_as_more (Err (texts.BadToken offset)) p new u = u
    block_as_more (Err (texts.TooDeep offset)) p new u = u
    block_as_more (Err (texts.BadSyntax offset)) p new u = u
    block_as_more (Err texts.OutOfMemory) p new u = absurd u

    block_text_more : (body : List ℕ) (whole : Bool) (p : Reply) (new : Machine) → UpsertsText list old session schema graph body whole p new → UpsertsText (list ++ more) old session schema graph body whole p new
    block_text_more body true p new u = block_as_more (upsert_of body) p new u
    block_text_more body false p new u = u

  upserts_more : (old : Machine) (sid : ℕ) (body : List ℕ) (found : Option Session) (p : Reply) (new : Machine) → UpsertsIn list old sid found body p new → UpsertsIn (list ++ more) old sid found body p new
  upserts_more old sid body (Some session) p new u = block_text_more old session (schema_at old.alters session.start) (graph_at old.alters old.commits session.start session.own) body (utf8_valid_len body == length body) p new u
  upserts_more old sid body None p new u = u

  outcome_more : (old : Machine) (request : Request) (p : Reply) (new : Machine) → Outcome list old request p new → Outcome (list ++ more) old request p new
  outcome_more old (requests.Alter body) p new o = o
  outcome_more old (requests.Begin sid) p new o = o
  outcome_more old (requests.Mutate sid body) p new o = o
  outcome_more old (requests.Upsert sid body) p new o = upserts_more old sid body (session_of old sid) p new o
  outcome_more old (requests.Query sid body) p new o = queries_more old sid body (session_of old sid) p new o
  outcome_more old (requests.Commit sid) p new o = o
  outcome_more old (requests.Discard sid) p new o = o
  outcome_more old request p new o = o

  step_more : (old : Machine) (request : Request) (p : Reply) (new : Machine) → Step list old request p new → Step (list ++ more) old request p new
  step_more old request p new (inl o) = inl (outcome_more old request p new o)
  step_more old request p new (inr w) = inr w

  steps_more : (old : Machine) (rs : List Request) (ps : List Reply) (new : Machine) → Steps list old rs ps new → Steps (list ++ more) old rs ps new
  steps_more old [] [] new s = s
  steps_more old [] (p ∷ ps) new s = absurd s
  steps_more old (r ∷ rs) [] new s = absurd s
  steps_more old (r ∷ rs) (p ∷ ps) new s = (s.0, step_more old r p s.0 s.1, steps_more s.0 rs ps new s.2)

-- the same replies may come where more patterns were refused in the end
pub steps_grown : (list after : List BadPattern) (old : Machine) (rs : List Request) (ps : List Reply) (new : Machine) → IsFrontOf list after → Steps list old rs ps new → Steps after old rs ps new
steps_grown list after old rs ps new (more, e) s = subst (λ (l : List BadPattern). Steps l old rs ps new) (sym e) (steps_more list more old rs ps new s)

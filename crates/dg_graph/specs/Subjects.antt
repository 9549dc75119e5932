-- Where the triples of a subject stand among ascending ones.
use Rattle.std.specs.Prelude.{◌≡◌, ℕ, ◌≤◌, List, ◌∷◌, ◌++◌, not, filter, length, take, drop}
use Rattle.std.specs.List.{slice_range}
use Rattle.std.specs.declared.cmp.Ordering.{Ordering}
use Rattle.std.specs.Ordering.{nat_cmp, ordering_then}
use Rattle.dg_values.specs.Ascending.{with_one}
use Rattle.dg_values.specs.Order.{text_cmp}
use Rattle.dg_values.specs.declared.value.Posting.{Posting}
use Rattle.dg_graph.specs.Graphs.{triple_cmp, is_of_subject}
use Rattle.dg_graph.specs.declared.change.Triple.{Triple}

-- a triple against a predicate and a subject
abbrev pub subject_cmp : List ℕ → ℕ → Triple → Ordering
subject_cmp p s triple = ordering_then (text_cmp triple.p p) (nat_cmp triple.s s)

-- these without the triples of a subject
abbrev pub without_subject : List ℕ → ℕ → List Triple → List Triple
without_subject p s triples = filter (λ t. not (is_of_subject p s t)) triples

-- the triples of a subject stand together, from `first` to before `behind`, and one that takes their place is put in there
pub record IsRun (p : List ℕ) (s : ℕ) (triples : List Triple) (first behind : ℕ) : Type 0 where
  pub order : first ≤ behind
  pub within : behind ≤ length triples
  pub together : filter (is_of_subject p s) triples ≡ slice_range triples first behind
  pub others : without_subject p s triples ≡ take first triples ++ drop behind triples
  pub replaced : (o : Posting) → with_one triple_cmp (without_subject p s triples) (record { s = s; p = p; o = o }) ≡ take first triples ++ (record { s = s; p = p; o = o }) ∷ drop behind triples

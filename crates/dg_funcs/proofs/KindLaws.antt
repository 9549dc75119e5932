-- The values of a lawful graph are of the kinds that their predicates are declared with.
use Rattle.std.proofs.Common.{◌≡◌, ℕ, Bool, true, false, cond, List, [], ◌∷◌, map, refl, subst}
use Rattle.std.specs.Prelude.{◌||◌, Option, Some, None, option_map, filter, filter_map}
use Rattle.std.specs.List.{list_any, cons_option, AllByRecursion}
use Rattle.std.proofs.lemmas.Bool.{false≢true}
use Rattle.dg_values.specs.declared.kind.Kind.{Kind}
use Rattle.dg_values.specs.declared.kind.Kind.TheVariants as kinds
use Rattle.dg_values.specs.declared.kind.Tokenizer.{Tokenizer}
use Rattle.dg_values.specs.declared.kind.Tokenizer.TheVariants as tokenizers
use Rattle.dg_values.specs.declared.value.Value.{Value}
use Rattle.dg_values.specs.declared.value.Value.TheVariants.{Int, Text, Bool as Truth}
use Rattle.dg_values.specs.declared.value.Posting.{Posting}
use Rattle.dg_values.specs.declared.value.Posting.TheVariants as postings
use Rattle.dg_schema.specs.declared.definition.PredDef.{PredDef}
use Rattle.dg_schema.specs.Definitions.{definition_of}
use Rattle.dg_tokens.specs.Tokens.{one_token, tokens_of}
use Rattle.dg_graph.specs.declared.change.Triple.{Triple}
use Rattle.dg_graph.specs.Graphs.{is_of_kind, is_of_subject, fits, fits_by}
use Rattle.dg_graph.proofs.GraphLaws.{same_subject}
use Rattle.dg_funcs.specs.Truth.{value_in, values_at}
use Rattle.dg_funcs.specs.Kinds.{is_of_known_kind, declared_kind, keeps}

-- two tests that agree where something holds agree on what it holds of
pub any_where : {X : Type 0} (P : X → Type 0) (f g : X → Bool) → ((x : X) → P x → f x ≡ g x) → (xs : List X) → AllByRecursion P xs → list_any f xs ≡ list_any g xs
any_where P f g e [] a = refl
any_where P f g e (x ∷ xs) a =
    let here = e x a.0 in
    let rest = any_where P f g e xs a.1 in
    λ i. here i || rest i

-- each of these values is of a kind
abbrev pub AreOf : Option Kind → List Value → Type 0
AreOf kind = AllByRecursion (λ v. is_of_known_kind kind v ≡ true)

object_fits : (d : Option PredDef) (t : Triple) (more : List Value) → fits_by d t ≡ true → AreOf (option_map (λ d. d.kind) d) more → AreOf (option_map (λ d. d.kind) d) (cons_option (value_in t.o) more)
object_fits None t more e a = absurd (false≢true e)
object_fits (Some d) t more e a = by t.o e
  where
    by : (o : Posting) → is_of_kind d.kind o ≡ true → AreOf (Some d.kind) (cons_option (value_in o) more)
    by (postings.Uid n) e = a
    by (postings.Val v) e = (e, a)

-- values of a graph that fits are of their predicate's kind
pub values_fit : (schema : List PredDef) (p : List ℕ) (node : ℕ) (graph : List Triple) → AllByRecursion (λ t. fits schema t ≡ true) graph → AreOf (declared_kind schema p) (values_at graph p node)
values_fit schema p node [] a = tt
values_fit schema p node (t ∷ graph) a = by (is_of_subject p node t) refl (values_fit schema p node graph a.1)
  where
    by : (b : Bool) → is_of_subject p node t ≡ b → AreOf (declared_kind schema p) (values_at graph p node)
        → AreOf (declared_kind schema p) (filter_map value_in (map (λ t. t.o) (cond b (t ∷ filter (is_of_subject p node) graph) (filter (is_of_subject p node) graph))))
    by false e rest = rest
    by true e rest = object_fits (definition_of schema p) t (values_at graph p node) (subst (λ (q : List ℕ). fits_by (definition_of schema q) t ≡ true) (same_subject p node t e).0 a.0) rest

-- a value that is listed under itself has no other token
pub own_token : (tokenizer : Tokenizer) (kind : Option Kind) (v : Value) → keeps tokenizer kind ≡ true → is_of_known_kind kind v ≡ true → tokens_of tokenizer v ≡ one_token tokenizer v
own_token tokenizers.Exact (Some kinds.Text) (Text t) e f = refl
own_token tokenizers.Exact (Some kinds.Default) (Text t) e f = refl
own_token tokenizers.Int (Some kinds.Int) (Int n) e f = refl
own_token tokenizers.Bool (Some kinds.Bool) (Truth b) e f = refl
own_token tokenizer kind v e f = absurd (cc)

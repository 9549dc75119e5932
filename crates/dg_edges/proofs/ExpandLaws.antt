-- The changes of checked statements fit the schema.
use Rattle.std.proofs.Common.{◌≡◌, ℕ, Bool, true, false, cond, List, [], ◌∷◌, Option, Some, None, Ok, flat_map, map, refl, ap, subst, sym, ◌∙◌}
use Rattle.std.specs.Prelude.{filter}
use Rattle.std.specs.List.{AllByRecursion}
use Rattle.dg_values.specs.declared.kind.Kind.{Kind}
use Rattle.dg_values.specs.declared.kind.Kind.TheVariants as kinds
use Rattle.dg_values.specs.declared.value.Value.{Value}
use Rattle.dg_values.specs.declared.value.Value.TheVariants.{Int, Text, Bool as Truth, Time}
use Rattle.dg_values.specs.declared.value.Posting.TheVariants.{Uid, Val}
use Rattle.dg_values.specs.Reading.{Reads}
use Rattle.dg_schema.specs.declared.definition.PredDef.{PredDef}
use Rattle.dg_schema.specs.Definitions.{definition_of}
use Rattle.dg_nquad.specs.declared.mutation.Object.{Object}
use Rattle.dg_nquad.specs.declared.mutation.Object.TheVariants as said
use Rattle.dg_nquad.specs.declared.mutation.Statement.{Statement}
use Rattle.dg_graph.specs.declared.change.Triple.{Triple}
use Rattle.dg_graph.specs.declared.change.Change.{Change}
use Rattle.dg_graph.specs.declared.change.Change.TheVariants.{Del}
use Rattle.dg_graph.specs.Graphs.{is_of_kind, is_of_subject, fits_by, fits}
use Rattle.dg_graph.specs.Changes.{changed}
use Rattle.dg_graph.proofs.GraphLaws.{same_subject}
use Rattle.dg_edges.specs.declared.edge.Named.{Named}
use Rattle.dg_edges.specs.declared.edge.Target.{Target}
use Rattle.dg_edges.specs.declared.edge.Target.TheVariants as targets
use Rattle.dg_edges.specs.declared.edge.Edge.{Edge}
use Rattle.dg_edges.specs.Deltas.{AreFitting}
use Rattle.dg_edges.specs.Resolving.{TargetSaid, SaysBy, Resolves}
use Rattle.dg_edges.specs.Expanding.{change_of, changes_by, changes_in, number_of, new_names}
use Rattle.dg_edges.specs.Laws.{ExpandedFits}
use Rattle.dg_edges.proofs.PartLaws.{all_joined}

-- what a text reads as is of the kind
read_fits : (kind : Kind) (text : List ℕ) (v : Value) → Reads kind text v → is_of_kind kind (Val v) ≡ true
read_fits kinds.Default text (Text t) h = refl
read_fits kinds.Text text (Text t) h = refl
read_fits kinds.Int text (Int n) h = refl
read_fits kinds.Bool text (Truth b) h = refl
read_fits kinds.Time text (Time m) h = refl
read_fits kinds.Default text (Int n) h = absurd h
read_fits kinds.Default text (Truth b) h = absurd h
read_fits kinds.Default text (Time m) h = absurd h
read_fits kinds.Text text (Int n) h = absurd h
read_fits kinds.Text text (Truth b) h = absurd h
read_fits kinds.Text text (Time m) h = absurd h
read_fits kinds.Int text (Text t) h = absurd h
read_fits kinds.Int text (Truth b) h = absurd h
read_fits kinds.Int text (Time m) h = absurd h
read_fits kinds.Bool text (Int n) h = absurd h
read_fits kinds.Bool text (Text t) h = absurd h
read_fits kinds.Bool text (Time m) h = absurd h
read_fits kinds.Time text (Int n) h = absurd h
read_fits kinds.Time text (Text t) h = absurd h
read_fits kinds.Time text (Truth b) h = absurd h
read_fits kinds.Uid text (Int n) h = absurd h
read_fits kinds.Uid text (Text t) h = absurd h
read_fits kinds.Uid text (Truth b) h = absurd h
read_fits kinds.Uid text (Time m) h = absurd h

-- a node stands on a predicate of nodes
node_fits : (o : Object) (node : Named) (n : ℕ) (kind : Kind) → TargetSaid o (targets.Node node) kind → is_of_kind kind (Uid n) ≡ true
node_fits (said.Node x) node n kinds.Uid h = refl
node_fits (said.Node x) node n kinds.Default h = absurd h
node_fits (said.Node x) node n kinds.Text h = absurd h
node_fits (said.Node x) node n kinds.Int h = absurd h
node_fits (said.Node x) node n kinds.Bool h = absurd h
node_fits (said.Node x) node n kinds.Time h = absurd h
node_fits (said.Literal text tag) node n kind h = absurd h
node_fits said.Star node n kind h = absurd h
node_fits (said.Val name) node n kind h = absurd h

-- and a value on one of its kind
value_fits : (o : Object) (v : Value) (kind : Kind) → TargetSaid o (targets.Value v) kind → is_of_kind kind (Val v) ≡ true
value_fits (said.Literal text tag) v kind h = read_fits kind text v h.reads
value_fits (said.Node x) v kind h = absurd h
value_fits said.Star v kind h = absurd h
value_fits (said.Val name) v kind h = absurd h

change_is : (delete : Bool) (t : Triple) → changed (change_of delete t) ≡ t
change_is true t = refl
change_is false t = refl

-- a change of one triple of a declared predicate
one_fits : (schema : List PredDef) (delete : Bool) (t : Triple) (def : PredDef) → definition_of schema t.p ≡ Some def → is_of_kind def.kind t.o ≡ true → AreFitting schema (change_of delete t ∷ [])
one_fits schema delete t def e k = (ap (fits schema) (change_is delete t) ∙ ((λ i. fits_by (e i) t) ∙ k), tt)

-- the objects that a subject has in a graph that fits
objects_fit : (schema : List PredDef) (graph : List Triple) (p : List ℕ) (s : ℕ) → AllByRecursion (λ t. fits schema t ≡ true) graph → AreFitting schema (map (λ o. Del (record { s = s; p = p; o = o })) (map (λ t. t.o) (filter (is_of_subject p s) graph)))
objects_fit schema [] p s a = tt
objects_fit schema (t ∷ graph) p s a = by (is_of_subject p s t) refl (objects_fit schema graph p s a.1)
  where
    by : (v : Bool) → is_of_subject p s t ≡ v → AreFitting schema (map (λ o. Del (record { s = s; p = p; o = o })) (map (λ t. t.o) (filter (is_of_subject p s) graph))) → AreFitting schema (map (λ o. Del (record { s = s; p = p; o = o })) (map (λ t. t.o) (cond v (t ∷ filter (is_of_subject p s) graph) (filter (is_of_subject p s) graph))))
    by true e rest =
        let both = same_subject p s t e in
        let same : fits schema t ≡ fits schema (record { s = s; p = p; o = t.o }) = λ i. fits schema (record { s = both.1 i; p = both.0 i; o = t.o }) in
        (sym same ∙ a.0, rest)
    by false e rest = rest

-- the changes of one statement
target_fits : (schema : List PredDef) (graph : List Triple) (number : Named → ℕ) (delete : Bool) (s : ℕ) (p : List ℕ) (def : PredDef) (o : Object) (target : Target) → AllByRecursion (λ t. fits schema t ≡ true) graph → definition_of schema p ≡ Some def → TargetSaid o target def.kind → AreFitting schema (changes_by graph number delete s p target)
target_fits schema graph number delete s p def o (targets.Node node) a e h = one_fits schema delete (record { s = s; p = p; o = Uid (number node) }) def e (node_fits o node (number node) def.kind h)
target_fits schema graph number delete s p def o (targets.Value v) a e h = one_fits schema delete (record { s = s; p = p; o = Val v }) def e (value_fits o v def.kind h)
target_fits schema graph number delete s p def o targets.All a e h = objects_fit schema graph p s a

said_fits : (schema : List PredDef) (graph : List Triple) (number : Named → ℕ) (statement : Statement) (edge : Edge) (o : Option PredDef) → AllByRecursion (λ t. fits schema t ≡ true) graph → definition_of schema statement.p ≡ o → SaysBy o statement (Ok edge) → AreFitting schema (changes_in graph number edge)
said_fits schema graph number statement edge None a e h = absurd (cc)
said_fits schema graph number statement edge (Some def) a e h = target_fits schema graph number edge.delete (number edge.s) edge.p def statement.o edge.o a (ap (definition_of schema) h.same_predicate ∙ e) h.target

all_fit : (schema : List PredDef) (graph : List Triple) (number : Named → ℕ) (statements : List Statement) (edges : List Edge) → AllByRecursion (λ t. fits schema t ≡ true) graph → Resolves schema statements (Ok edges) → AreFitting schema (flat_map (changes_in graph number) edges)
all_fit schema graph number [] edges a r = let none : edges ≡ [] = cc in subst (λ (es : List Edge). AreFitting schema (flat_map (changes_in graph number) es)) (sym none) tt
all_fit schema graph number (statement ∷ statements) [] a r = absurd r
all_fit schema graph number (statement ∷ statements) (edge ∷ edges) a r =
    all_joined (λ (c : Change). fits schema (changed c) ≡ true) (changes_in graph number edge) (flat_map (changes_in graph number) edges)
    (said_fits schema graph number statement edge (definition_of schema statement.p) a refl r.0)
    (all_fit schema graph number statements edges a r.1)

pub expanded_fits : ExpandedFits
expanded_fits schema graph statements edges first r l = all_fit schema graph (number_of (new_names edges) first) statements edges l.fit r

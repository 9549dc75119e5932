-- What comes of statements is determined, and is found from the front.
use Rattle.std.proofs.Common.{◌≡◌, ℕ, zero, suc, ◌<◌, true, List, [], ◌∷◌, ◌++◌, Option, Some, None, Result, Ok, Err, length, get_or, take, map, refl, ap, subst, sym, ◌∙◌, inl, inr, arith}
use mathlib.Core.Logic.{◌⊎◌}
use mathlib.Core.List.{map-id}
use Rattle.dg_values.specs.declared.kind.Kind.{Kind}
use Rattle.dg_values.specs.declared.kind.Kind.TheVariants as kinds
use Rattle.dg_values.specs.declared.value.Value.{Value}
use Rattle.dg_values.specs.declared.value.Value.TheVariants as values
use Rattle.dg_values.specs.Reading.{Reads}
use Rattle.dg_values.proofs.Readings.{unique}
use Rattle.dg_schema.specs.declared.definition.PredDef.{PredDef}
use Rattle.dg_schema.specs.Definitions.{definition_of}
use Rattle.dg_nquad.specs.declared.mutation.Node.{Node}
use Rattle.dg_nquad.specs.declared.mutation.Object.{Object}
use Rattle.dg_nquad.specs.declared.mutation.Object.TheVariants as objects
use Rattle.dg_nquad.specs.declared.mutation.Statement.{Statement}
use Rattle.dg_edges.specs.declared.edge.Named.{Named}
use Rattle.dg_edges.specs.declared.edge.Target.{Target}
use Rattle.dg_edges.specs.declared.edge.Target.TheVariants as targets
use Rattle.dg_edges.specs.declared.edge.Edge.{Edge}
use Rattle.dg_edges.specs.declared.fault.EdgeFault.{EdgeFault}
use Rattle.dg_edges.specs.declared.fault.EdgeFault.TheVariants as faults
use Rattle.dg_edges.specs.Resolving.{node_said, IsValueOf, TargetSaid, is_wrong, IsBadLiteral, IsChecked, SaysBy, Says, Resolves, IsAnswer}

-- ---- one statement

same_node : (node : Node) (a b : Named) → node_said node ≡ Some a → node_said node ≡ Some b → a ≡ b
same_node node a b h k = cc

-- what each object is

of_node : (node : Node) (a : Target) (kind : Kind) → TargetSaid (objects.Node node) a kind → (n : Named) × (a ≡ targets.Node n) × (node_said node ≡ Some n)
of_node node (targets.Node n) kinds.Uid h = (n, refl, h)
of_node node a kind h = absurd h

of_literal : (text : List ℕ) (tag : Option Kind) (a : Target) (kind : Kind) → TargetSaid (objects.Literal text tag) a kind → (v : Value) × (a ≡ targets.Value v) × IsValueOf kind tag text v
of_literal text tag (targets.Value v) kind h = (v, refl, h)
of_literal text tag a kind h = absurd h

of_star : (a : Target) (kind : Kind) → TargetSaid objects.Star a kind → a ≡ targets.All
of_star targets.All kind h = refl
of_star a kind h = absurd h

of_val : (name : List ℕ) (a : Target) (kind : Kind) → TargetSaid (objects.Val name) a kind → ⊥
of_val name a kind h = h

same_target : (object : Object) (a b : Target) (kind : Kind) → TargetSaid object a kind → TargetSaid object b kind → a ≡ b
same_target (objects.Node node) a b kind h k =
    let p = of_node node a kind h in
    let q = of_node node b kind k in
    p.1 ∙ ap targets.Node (same_node node p.0 q.0 p.2 q.2) ∙ sym q.1
same_target (objects.Literal text tag) a b kind h k =
    let p = of_literal text tag a kind h in
    let q = of_literal text tag b kind k in
    p.1 ∙ ap targets.Value (unique kind text p.0 q.0 p.2.reads q.2.reads) ∙ sym q.1
same_target objects.Star a b kind h k = of_star a kind h ∙ sym (of_star b kind k)
same_target (objects.Val name) a b kind h k = absurd (of_val name a kind h)

-- what an object is rules out both faults

not_wrong : (object : Object) (a : Target) (kind : Kind) → TargetSaid object a kind → is_wrong object kind ≡ true → ⊥
not_wrong (objects.Node node) (targets.Node n) kinds.Uid h w = cc
not_wrong (objects.Literal text tag) (targets.Value v) kinds.Uid h w = h.reads
not_wrong (objects.Literal text tag) (targets.Value v) kind h w = cc
not_wrong objects.Star targets.All kind h w = cc
not_wrong object a kind h w = h

not_bad : (object : Object) (a : Target) (kind : Kind) → TargetSaid object a kind → IsBadLiteral object kind → ⊥
not_bad (objects.Literal text tag) a kind h b = let p = of_literal text tag a kind h in b p.0 p.2
not_bad (objects.Node node) a kind h b = b
not_bad objects.Star a kind h b = b
not_bad (objects.Val name) a kind h b = b

same_edge : (kind : Kind) (statement : Statement) (a b : Edge) → IsChecked kind statement a → IsChecked kind statement b → a ≡ b
same_edge kind statement a b h k =
    let delete = h.same_delete ∙ sym k.same_delete in
    let s = same_node statement.s a.s b.s h.same_subject k.same_subject in
    let p = h.same_predicate ∙ sym k.same_predicate in
    let o = same_target statement.o a.o b.o kind h.target k.target in
    λ i. record { delete = delete i; s = s i; p = p i; o = o i }

not_both : (def : PredDef) (statement : Statement) (edge : Edge) (fault : EdgeFault) → SaysBy (Some def) statement (Ok edge) → SaysBy (Some def) statement (Err fault) → ⊥
not_both def statement edge (faults.WrongObject pred) h k = not_wrong statement.o edge.o def.kind h.target k.1
not_both def statement edge (faults.BadLiteral pred) h k = not_bad statement.o edge.o def.kind h.target k.2
not_both def statement edge fault h k = k

same_fault : (def : PredDef) (statement : Statement) (a b : EdgeFault) → SaysBy (Some def) statement (Err a) → SaysBy (Some def) statement (Err b) → a ≡ b
same_fault def statement (faults.WrongObject a) (faults.WrongObject b) h k = ap (λ p. faults.WrongObject p) (h.0 ∙ sym k.0)
same_fault def statement (faults.BadLiteral a) (faults.BadLiteral b) h k = ap (λ p. faults.BadLiteral p) (h.0 ∙ sym k.0)
same_fault def statement (faults.WrongObject a) (faults.BadLiteral b) h k = let x = h.1 in let y = k.1 in absurd (cc)
same_fault def statement (faults.BadLiteral a) (faults.WrongObject b) h k = let x = h.1 in let y = k.1 in absurd (cc)
same_fault def statement (faults.WrongObject a) b h k = absurd k
same_fault def statement (faults.BadLiteral a) b h k = absurd k
same_fault def statement a b h k = absurd h

says_once : (def : Option PredDef) (statement : Statement) (one other : Result Edge EdgeFault) → SaysBy def statement one → SaysBy def statement other → one ≡ other
says_once None statement one other h k = h ∙ sym k
says_once (Some def) statement (Ok a) (Ok b) h k = ap (λ e. Ok e) (same_edge def.kind statement a b h k)
says_once (Some def) statement (Ok a) (Err b) h k = absurd (not_both def statement a b h k)
says_once (Some def) statement (Err a) (Ok b) h k = absurd (not_both def statement b a k h)
says_once (Some def) statement (Err a) (Err b) h k = ap (λ f. Err f) (same_fault def statement a b h k)

-- ---- texts

-- a text is a value of each kind of texts
pub text_typed : (kind : Kind) (text : List ℕ) → (kind ≡ kinds.Default) ⊎ (kind ≡ kinds.Text) → (value : Value) × Reads kind text value
text_typed kinds.Default text h = (values.Text text, refl)
text_typed kinds.Text text h = (values.Text text, refl)
text_typed kind text (inl e) = absurd (cc)
text_typed kind text (inr e) = absurd (cc)

-- ---- all statements

pub resolves_once : (schema : List PredDef) (statements : List Statement) (one other : Result (List Edge) EdgeFault) → Resolves schema statements one → Resolves schema statements other → one ≡ other
resolves_once schema [] one other h k = h ∙ sym k
resolves_once schema (y ∷ ys) (Ok []) other h k = absurd h
resolves_once schema (y ∷ ys) (Ok (a ∷ xs)) (Ok []) h k = absurd k
resolves_once schema (y ∷ ys) (Ok (a ∷ xs)) (Ok (b ∷ ws)) h k =
    let first = says_once (definition_of schema y.p) y (Ok a) (Ok b) h.0 k.0 in
    let rest = resolves_once schema ys (Ok xs) (Ok ws) h.1 k.1 in
    cc
resolves_once schema (y ∷ ys) (Ok (a ∷ xs)) (Err f) h (inl k) = let first = says_once (definition_of schema y.p) y (Ok a) (Err f) h.0 k in absurd (cc)
resolves_once schema (y ∷ ys) (Ok (a ∷ xs)) (Err f) h (inr k) = let rest = resolves_once schema ys (Ok xs) (Err f) h.1 k.2 in absurd (cc)
resolves_once schema (y ∷ ys) (Err f) (Ok []) h k = absurd k
resolves_once schema (y ∷ ys) (Err f) (Ok (b ∷ ws)) (inl h) k = let first = says_once (definition_of schema y.p) y (Err f) (Ok b) h k.0 in absurd (cc)
resolves_once schema (y ∷ ys) (Err f) (Ok (b ∷ ws)) (inr h) k = let rest = resolves_once schema ys (Err f) (Ok ws) h.2 k.1 in absurd (cc)
resolves_once schema (y ∷ ys) (Err f) (Err g) (inl h) (inl k) = let first = says_once (definition_of schema y.p) y (Err f) (Err g) h k in cc
resolves_once schema (y ∷ ys) (Err f) (Err g) (inl h) (inr k) = let first = says_once (definition_of schema y.p) y (Err f) (Ok k.0) h k.1 in absurd (cc)
resolves_once schema (y ∷ ys) (Err f) (Err g) (inr h) (inl k) = let first = says_once (definition_of schema y.p) y (Ok h.0) (Err g) h.1 k in absurd (cc)
resolves_once schema (y ∷ ys) (Err f) (Err g) (inr h) (inr k) = let rest = resolves_once schema ys (Err f) (Err g) h.2 k.2 in cc

-- ---- from the front

pub one_more : (schema : List PredDef) (ys : List Statement) (es : List Edge) (y : Statement) (e : Edge) → Resolves schema ys (Ok es) → Says schema y (Ok e) → Resolves schema (ys ++ y ∷ []) (Ok (es ++ e ∷ []))
one_more schema [] [] y e h s = (s, refl)
one_more schema [] (x ∷ es) y e h s = absurd (cc)
one_more schema (z ∷ ys) [] y e h s = absurd h
one_more schema (z ∷ ys) (x ∷ es) y e h s = (h.0, one_more schema ys es y e h.1 s)

refused_at : (schema : List PredDef) (statements : List Statement) (n : ℕ) (y : Statement) (es : List Edge) (fault : EdgeFault) → n < length statements → y ≡ get_or statements n y → Resolves schema (take n statements) (Ok es) → Says schema y (Err fault) → Resolves schema statements (Err fault)
refused_at schema [] n y es fault lt is h s = absurd (omega arith)
refused_at schema (z ∷ zs) zero y es fault lt is h s = inl (subst (λ (w : Statement). Says schema w (Err fault)) is s)
refused_at schema (z ∷ zs) (suc n) y [] fault lt is h s = absurd h
refused_at schema (z ∷ zs) (suc n) y (e ∷ es) fault lt is h s = inr (e, h.0, refused_at schema zs n y es fault (omega arith) is h.1 s)

answer : (relation : Result (List Edge) EdgeFault → Type 0) (fault : EdgeFault) → relation (Err fault) → IsAnswer relation (Err fault)
answer relation faults.OutOfMemory h = tt
answer relation fault h = h

-- a statement is refused behind those that were checked
pub refused : (schema : List PredDef) (statements ys : List Statement) (y : Statement) (es : List Edge) (fault : EdgeFault) → map (λ w. w) ys ≡ take (length ys) statements → (length ys < length statements) × (y ≡ get_or statements (length ys) y) → Resolves schema ys (Ok es) → Says schema y (Err fault) → IsAnswer (Resolves schema statements) (Err fault)
refused schema statements ys y es fault so_far turn h s =
    let here : Resolves schema (take (length ys) statements) (Ok es) = subst (λ (ws : List Statement). Resolves schema ws (Ok es)) (sym (map-id ys) ∙ so_far) h in
    answer (Resolves schema statements) fault (refused_at schema statements (length ys) y es fault turn.0 turn.1 here s)

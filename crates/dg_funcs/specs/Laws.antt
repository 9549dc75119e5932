-- A plan's functions and filters mean what the text's do.
use Rattle.std.specs.Prelude.{◌≡◌, ℕ, List, true, false, IfSome}
use Rattle.dg_schema.specs.declared.definition.PredDef.{PredDef}
use Rattle.dg_graph.specs.declared.change.Triple.{Triple}
use Rattle.dg_graph.specs.Graphs.{IsLawful}
use Rattle.dg_parse.specs.declared.query.QFilter.{QFilter}
use Rattle.dg_parse.specs.declared.query.QFunc.{QFunc}
use Rattle.dg_check.specs.declared.parts.Filter.{Filter}
use Rattle.dg_check.specs.declared.parts.Func.{Func}
use Rattle.dg_check.specs.declared.vars.Variable.{Variable}
use Rattle.dg_check.specs.Faults.{kind_named}
use Rattle.dg_check.specs.Parts.{IsFuncOf, IsFilterOf}
use Rattle.dg_check.specs.Plans.{place_of}
use Rattle.dg_check.specs.Variables.{Definition, names_for}
use Rattle.dg_check.specs.Vars.{value_at}
use Rattle.dg_funcs.specs.Kinds.{is_of_known_kind}
use Rattle.dg_funcs.specs.Truth.{holds_at, passes}
use Rattle.dg_funcs.specs.Roots.{root_nodes}
use Rattle.dg_funcs.specs.Meaning.{text_holds_at, text_passes, text_root_nodes}

-- each value that a variable has is of the variable's kind
abbrev pub AreOfKind : List Definition → List Variable → Type 0
AreOfKind ds vars = (x : List ℕ) (node : ℕ) → IfSome (value_at vars (place_of ds x) node) (λ v. is_of_known_kind (kind_named ds x) v ≡ true)

-- a function holds by the plan where it holds by the text
abbrev pub FuncsMeanTheirTexts : Type 0
FuncsMeanTheirTexts = (schema : List PredDef) (ds : List Definition) (graph : List Triple) (vars : List Variable) (node : ℕ) (q : QFunc) (f : Func) → IsLawful schema graph → AreOfKind ds vars → IsFuncOf schema ds q f → text_holds_at graph (names_for false ds) vars node q ≡ holds_at graph vars node f

-- a filter passes by the plan where it passes by the text
abbrev pub FiltersMeanTheirTexts : Type 0
FiltersMeanTheirTexts = (schema : List PredDef) (ds : List Definition) (graph : List Triple) (vars : List Variable) (node : ℕ) (q : QFilter) (f : Filter) → IsLawful schema graph → AreOfKind ds vars → IsFilterOf schema ds q f → text_passes graph (names_for false ds) vars node q ≡ passes graph vars node f

-- a root gives the same nodes by the plan and by the text
abbrev pub RootsMeanTheirTexts : Type 0
RootsMeanTheirTexts = (schema : List PredDef) (ds : List Definition) (graph : List Triple) (vars : List Variable) (q : QFunc) (f : Func) → IsLawful schema graph → AreOfKind ds vars → IsFuncOf schema ds q f → text_root_nodes graph (names_for false ds) vars q ≡ root_nodes graph vars f

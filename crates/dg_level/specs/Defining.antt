-- Which parts of a plan define variables, and what one item makes known.
use Rattle.std.specs.Prelude.{◌≡◌, ℕ, Bool, false, ◌||◌, List, [], ◌++◌, Option, is_some, map}
use Rattle.std.specs.List.{list_any}
use Rattle.dg_schema.specs.declared.definition.PredDef.{PredDef}
use Rattle.dg_schema.specs.Definitions.{definition_of}
use Rattle.dg_graph.specs.declared.change.Triple.{Triple}
use Rattle.dg_parse.specs.declared.query.QArg.{QArg}
use Rattle.dg_parse.specs.declared.query.QEdge.{QEdge}
use Rattle.dg_parse.specs.declared.query.QField.{QField}
use Rattle.dg_parse.specs.declared.query.QItem.{QItem}
use Rattle.dg_parse.specs.declared.query.QItem.TheFolds.{fold-QItem}
use Rattle.dg_check.specs.declared.parts.Field.{Field as Kept}
use Rattle.dg_check.specs.declared.parts.Item.{Item}
use Rattle.dg_check.specs.declared.parts.Item.TheOpen.{Item-F, Field-F}
use Rattle.dg_check.specs.declared.parts.Item.TheFolds.{fold-Field, fold-Item}
use Rattle.dg_check.specs.declared.vars.Variable.{Variable}
use Rattle.dg_level.specs.Shown.{sort_of}
use Rattle.dg_level.specs.Given.{Known}
use Rattle.dg_level.specs.PlannedGiven.{PlannedHas, PlannedGives, edge_kept_has, edge_kept_inside, step_of_item, step_of_field, at_place, planned_given, planned_fields}

-- ---- what defines a variable

-- an item: a field in its braces does
abbrev pub defines_inside : Item-F Bool Bool → Bool
defines_inside Item-F.Plain = false
defines_inside (Item-F.Val place) = false
defines_inside (Item-F.Edge orders filters inner) = list_any (λ b. b) inner

-- a field: itself, or one in its braces
abbrev pub defines_there : Field-F Bool Bool → Bool
defines_there f = is_some f.var || f.item

-- a field that is kept
abbrev pub field_defines : Kept → Bool
field_defines = fold-Field Bool Bool defines_inside defines_there

-- an item that is kept
abbrev pub item_defines : Item → Bool
item_defines = fold-Item Bool Bool defines_inside defines_there

-- ---- what one item makes known

-- an item of the text
abbrev pub given_item : List PredDef → List Triple → List Variable → QItem → PlannedHas
given_item schema graph vars = fold-QItem PlannedHas PlannedGives (step_of_item schema graph vars) step_of_field

-- what it makes known: its own variable, where one stands for it, before those in its braces
abbrev pub item_gives : List PredDef → List Triple → List Variable → QItem → Option ℕ → Item → List ℕ → List Known
item_gives schema graph vars item var kept nodes = at_place var ((given_item schema graph vars item).has kept nodes) ++ (given_item schema graph vars item).inside kept nodes

-- the same of an edge, by what is kept of it
abbrev pub edge_gives : {A : Type 0} → List PredDef → List Triple → List Variable → QEdge → List QArg → List QField → Option ℕ → Item-F A Kept → List ℕ → List Known
edge_gives schema graph vars e args braces var kept nodes =
    at_place var (edge_kept_has graph vars e args (sort_of (definition_of schema e.pred) e.back) kept nodes)
    ++ edge_kept_inside graph vars e args (map (planned_given schema graph vars) braces) (sort_of (definition_of schema e.pred) e.back) kept nodes

-- ---- what makes nothing known, whatever the graph and the text

-- a field
abbrev pub FieldGivesNothing : Kept → Type 0
FieldGivesNothing kept = (schema : List PredDef) (graph : List Triple) (vars : List Variable) (text : QField) (nodes : List ℕ) → planned_given schema graph vars text kept nodes ≡ []

-- what stands in the braces of an item
abbrev pub InsideGivesNothing : Item → Type 0
InsideGivesNothing kept = (schema : List PredDef) (graph : List Triple) (vars : List Variable) (text : QItem) (nodes : List ℕ) → (given_item schema graph vars text).inside kept nodes ≡ []

-- fields
abbrev pub FieldsGiveNothing : List Kept → Type 0
FieldsGiveNothing kept = (schema : List PredDef) (graph : List Triple) (vars : List Variable) (text : List QField) (nodes : List ℕ) → planned_fields schema graph vars text kept nodes ≡ []

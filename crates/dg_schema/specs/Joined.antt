-- Two schemas in one: what stays in its place, and what comes behind.
use Rattle.std.specs.Prelude.{not, List, map, filter, unwrap_or}
use Rattle.dg_schema.specs.declared.definition.PredDef.{PredDef}
use Rattle.dg_schema.specs.Definitions.{definition_of, is_declared}

-- the newer definition of the same name, where there is one
abbrev pub newest : List PredDef → PredDef → PredDef
newest newer older = unwrap_or (definition_of newer older.name) older

-- the older definitions, each in its place or with its newer namesake there
abbrev pub renewed : List PredDef → List PredDef → List PredDef
renewed newer older = map (newest newer) older

-- the newer definitions whose names the older schema lacks
abbrev pub added : List PredDef → List PredDef → List PredDef
added older newer = filter (λ d. not (is_declared older d.name)) newer

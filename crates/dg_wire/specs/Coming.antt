-- What of a generated script is still to come.
use Rattle.std.specs.Prelude.{ℕ, ◌+◌, List, [], ◌∷◌, ◌++◌, codes}
use Rattle.dg_wire.specs.declared.request.Request.{Request}
use Rattle.dg_wire.specs.declared.request.Request.TheVariants.{Alter, Mutate, Query, Commit, Discard, Roll}
use Rattle.dg_wire.specs.declared.generator.Step.{Step}
use Rattle.dg_wire.specs.declared.generator.Step.TheVariants as steps
use Rattle.dg_wire.specs.Generator.{schema, question, batch_len, batch_body, batches, ending}

-- so many batches behind so many nodes, and the end
abbrev pub rest : ℕ → ℕ → ℕ → ℕ → List Request
rest seed size done left = batches seed size done left ++ ending

-- the requests from a step on. `left` counts the batches that aren't begun
abbrev pub to_come : Step → ℕ → ℕ → ℕ → ℕ → List Request
to_come steps.Alter seed size done left = Alter schema ∷ rest seed size done left
to_come steps.Begin seed size done left = rest seed size done left
to_come steps.Mutate seed size done left = Mutate 1 (batch_body seed size done) ∷ Commit 1 ∷ Roll (codes "name") ∷ rest seed size (done + batch_len size done) left
to_come steps.Commit seed size done left = Commit 1 ∷ Roll (codes "name") ∷ rest seed size done left
to_come steps.Roll seed size done left = Roll (codes "name") ∷ rest seed size done left
to_come steps.Query seed size done left = Query 1 question ∷ Discard 1 ∷ []
to_come steps.Discard seed size done left = Discard 1 ∷ []
to_come steps.End seed size done left = []

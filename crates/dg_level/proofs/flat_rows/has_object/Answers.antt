use Rattle.std.proofs.Common.{◌∙◌, rules, tests, Bor}
use Rattle.std.specs.Prelude.{List}
use Rattle.std.proofs.lemmas.Iterator.{YieldsList-from_slice}
use Rattle.std.proofs.lemmas.Iterator.Search.{any_from_yields_List}
use Rattle.dg_tree.specs.declared.tree.Field.{Field}
use Rattle.dg_level.specs.Flats.{has_object}
use Rattle.dg_level.proofs.FlatCounts.{any_object}
use Rattle.dg_level.proofs.flat_rows.has_object.Goals as goal

pub returns : goal.returns
returns c =
    any_from_yields_List (λ (part : Bor (List (List Field))). has_object part.now) _ _ c.any.result c.any.ensures.ran (YieldsList-from_slice c.args.parts.now cc) (λ x b q k. search (rules, tests))
    ∙ any_object (λ (part : Bor (List (List Field))). part.now) c.args.parts.now

use Rattle.std.proofs.Common.{eqb, rules, tests}
use Rattle.std.specs.List.{starts_with}
use Rattle.std.proofs.lemmas.Iterator.{YieldsList-from_slice}
use Rattle.std.proofs.lemmas.Iterator.Search.{any_from_yields_List}
use Rattle.dg_wire.specs.declared.verb.TheConstants.Verb.{ALL}
use Rattle.dg_wire.specs.Verbs.{name_of}
use Rattle.dg_wire.proofs.VerbCuts.{names_begin}
use Rattle.dg_wire.proofs.verb.Verb.any_begins_with.Goals as goal

pub returns : goal.returns
returns c =
    names_begin c.args.word.now c.any.result (any_from_yields_List (λ verb. starts_with eqb (name_of verb) c.args.word.now) _ _ c.any.result c.any.ensures.ran (YieldsList-from_slice ALL cc) (λ x b q k. search (rules, tests)))

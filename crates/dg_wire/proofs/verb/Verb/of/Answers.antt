use Rattle.std.proofs.Common.{◌∙◌, rules, tests}
use Rattle.std.specs.Str.{bytes_eq}
use Rattle.std.proofs.lemmas.Iterator.{YieldsList-from_slice}
use Rattle.std.proofs.lemmas.Iterator.Search.{find_from_yields_List}
use Rattle.dg_wire.specs.declared.verb.TheConstants.Verb.{ALL}
use Rattle.dg_wire.specs.Verbs.{name_of}
use Rattle.dg_wire.proofs.VerbCuts.{none_named}
use Rattle.dg_wire.proofs.verb.Verb.of.Goals as goal

pub returns-clause-none : goal.returns-clause-none
returns-clause-none c =
    none_named c.args.word.now c.copied.result (c.copied.ensures ∙ find_from_yields_List (λ verb. bytes_eq (name_of verb) c.args.word.now) _ _ c.find.result c.find.ensures.ran (YieldsList-from_slice ALL cc) (λ x b q k. search (rules, tests)))

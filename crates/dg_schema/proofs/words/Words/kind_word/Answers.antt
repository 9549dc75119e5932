use Rattle.dg_table.proofs.WordLemmas.{has_name, name_is}
use Rattle.dg_schema.proofs.WordTables.{kind_there}
use Rattle.dg_schema.proofs.words.Words.kind_word.Goals as goal

pub unwrap-requires : goal.unwrap-requires
unwrap-requires c =
    has_name (λ name. name.now) _ c.self.inside.kinds _ _ _ c.name_of.result
    c.self.invariant.0 (kind_there c.args.kind) c.code_of_kind.ensures c.name_of.ensures.answer

pub returns : goal.returns
returns c =
    name_is (λ name. name.now) _ c.self.inside.kinds _ _ _ c.name_of.result c.unwrap.result c.unwrap.ensures
    c.self.invariant.0 (kind_there c.args.kind) c.code_of_kind.ensures c.name_of.ensures.answer

use Rattle.dg_table.proofs.WordLemmas.{has_name, name_is}
use Rattle.dg_schema.proofs.WordTables.{tokenizer_there}
use Rattle.dg_schema.proofs.words.Words.tokenizer_word.Goals as goal

pub unwrap-requires : goal.unwrap-requires
unwrap-requires c =
    has_name (λ name. name.now) _ c.self.inside.tokenizers _ _ _ c.name_of.result
    c.self.invariant.1 (tokenizer_there c.args.tokenizer) c.code_of_tokenizer.ensures c.name_of.ensures.answer

pub returns : goal.returns
returns c =
    name_is (λ name. name.now) _ c.self.inside.tokenizers _ _ _ c.name_of.result c.unwrap.result c.unwrap.ensures
    c.self.invariant.1 (tokenizer_there c.args.tokenizer) c.code_of_tokenizer.ensures c.name_of.ensures.answer

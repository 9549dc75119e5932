use Rattle.dg_nquad.proofs.Formed.{tokens_formed}
use Rattle.dg_nquad.proofs.GroupsBack.{groups_read}
use Rattle.dg_nquad.proofs.MutationBack.{mutation_back, plain_back}
use Rattle.dg_nquad.proofs.Standing.{read_stands, read_stand_alone}
use Rattle.dg_nquad.proofs.StatementWords.{statement_are, groups_are}
use Rattle.dg_nquad.proofs.Understood.{statement_read}
use Rattle.dg_nquad.proofs.laws.statements_read_back.Goals as goal

pub returns : goal.returns
returns c = record {
  formed = tokens_formed;
  stands = read_stands;
  stand_alone = read_stand_alone;
  statement = λ block s q. (statement_are block s q, statement_read block s q);
  groups = λ upsert all a. (groups_are upsert all a, groups_read upsert all a);
  plain = plain_back;
  whole = mutation_back;
}

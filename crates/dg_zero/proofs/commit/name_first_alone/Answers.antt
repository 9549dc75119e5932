use Rattle.std.proofs.Common.{rules}
use Rattle.std.proofs.lemmas.Slice.Eq.{bytes_eq-Decides}
use Rattle.dg_zero.proofs.Committing.{first_alone}
use Rattle.dg_zero.proofs.commit.name_first_alone.Goals as goal

pub returns-in-len1-len1-up : goal.returns-in-len1-len1-up
returns-in-len1-len1-up c = λ same. first_alone c.args.preds.now c.args.changes.now c.pred-item.result c.first-item.result (search rules) (search rules) c.pred-item.is c.first-item.is (search (rules, bytes_eq-Decides c.pred-item.result c.triple.result.now.p))

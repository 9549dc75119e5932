use Rattle.std.proofs.Common.{suc, arith}
use Rattle.dg_text.specs.Lexing.{lexed}
use Rattle.dg_print.proofs.Room.{fits}
use Rattle.dg_print.proofs.Alike.{filters, all_conditions}
use Rattle.dg_print.proofs.AnyDepth.{all_fields, any_query, any_upsert}
use Rattle.dg_print.proofs.depth.depth_is_never_met.Goals as goal

pub returns-clause-filters : goal.returns-clause-filters
returns-clause-filters c n depth left h lt = filters depth (suc n) n lt (omega arith) left (fits n left.tokens h)

pub returns-clause-conditions : goal.returns-clause-conditions
returns-clause-conditions c n depth left h lt = all_conditions depth (suc n) n lt (omega arith) left (fits n left.tokens h)

pub returns-clause-fields : goal.returns-clause-fields
returns-clause-fields c b n depth left h most lt = all_fields b depth (suc n) n (omega (arith, most)) lt (omega arith) left (fits n left.tokens h)

pub returns-clause-queries : goal.returns-clause-queries
returns-clause-queries c depth text deep = any_query depth text (lexed text) deep

pub returns-clause-upserts : goal.returns-clause-upserts
returns-clause-upserts c depth text deep = any_upsert depth text (lexed text) deep

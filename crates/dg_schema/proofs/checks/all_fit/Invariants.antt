use Rattle.std.proofs.Common.{◌≡◌, drop}
use Rattle.std.specs.List.{list_all}
use Rattle.dg_schema.specs.Words.{fits_kind}
use Rattle.dg_schema.proofs.checks.all_fit.Given as goal

abbrev pub invariant-loop-tokenizer : goal.invariant-loop-tokenizer
invariant-loop-tokenizer l = list_all (fits_kind l.kind) (drop l.tokenizer-index l.listed) ≡ list_all (fits_kind l.kind) l.listed

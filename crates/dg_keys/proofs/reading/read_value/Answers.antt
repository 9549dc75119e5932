use Rattle.std.proofs.Common.{rules, refl}
use Rattle.std.proofs.lemmas.Result.{err_from_is_err_and}
use Rattle.dg_values.specs.declared.value.Value.TheVariants.{Text}
use Rattle.dg_keys.proofs.Carried.{none_read}
use Rattle.dg_keys.proofs.Spelled.{integer_in, truth_in, moment_of_kind}
use Rattle.dg_keys.proofs.reading.read_value.Goals as goal

pub returns-in_err-from_str-in-Exact : goal.returns-in_err-from_str-in-Exact
returns-in_err-from_str-in-Exact c =
    let p = err_from_is_err_and c.from_residual-in_err-from_str-in-Exact.result c.from_residual-in_err-from_str-in-Exact.ensures.1 in
    rw (p.1, p.2) (Text c.args.bytes.now, (search rules, c.in_ok-text-in-Exact.ensures.1), refl)

pub returns-in_err-read_int-in-Int : goal.returns-in_err-read_int-in-Int
returns-in_err-read_int-in-Int c =
    let p = err_from_is_err_and c.from_residual-in_err-read_int-in-Int.result c.from_residual-in_err-read_int-in-Int.ensures.1 in
    rw (p.1, p.2) (none_read _ _ _ _ _ _ (integer_in c.args.bytes.now c.args.tokenizer c.in-Int.is) _ c.in_err-read_int-in-Int.ensures)

pub returns-in_err-read_truth-in-Bool : goal.returns-in_err-read_truth-in-Bool
returns-in_err-read_truth-in-Bool c =
    let p = err_from_is_err_and c.from_residual-in_err-read_truth-in-Bool.result c.from_residual-in_err-read_truth-in-Bool.ensures.1 in
    rw (p.1, p.2) (none_read _ _ _ _ _ _ (truth_in c.args.bytes.now c.args.tokenizer c.in-Bool.is) _ c.in_err-read_truth-in-Bool.ensures)

pub returns-in_err-read_moment-in-Year : goal.returns-in_err-read_moment-in-Year
returns-in_err-read_moment-in-Year c =
    let p = err_from_is_err_and c.from_residual-in_err-read_moment-in-Year.result c.from_residual-in_err-read_moment-in-Year.ensures.1 in
    rw (p.1, p.2) (none_read _ _ _ _ _ _ (moment_of_kind c.args.bytes.now c.args.tokenizer (λ n. search rules) (λ x. search rules) (λ b. search rules)) _ c.in_err-read_moment-in-Year.ensures)

use Rattle.std.proofs.Common.{◌∙◌, ap, ℕ, ℤ, Bool, List}
use Rattle.std.specs.Prelude.{Option, option_map}
use Rattle.std.specs.Option.{ok_or}
use Rattle.dg_values.specs.Instant.{Instant}
use Rattle.dg_values.specs.declared.kind.Kind.TheVariants as kinds
use Rattle.dg_values.specs.declared.value.Value.TheVariants.{Int, Bool as Truth, Time}
use Rattle.dg_values.specs.declared.reading.ValueFault.TheVariants.{BadLiteral}
use Rattle.dg_values.specs.Scanning.{time_of_text}
use Rattle.dg_values.proofs.Outcomes.{scanned, not_bad}
use Rattle.dg_values.proofs.reading.read_value.Goals as goal

pub returns-in-Int-clause-value : goal.returns-in-Int-clause-value
returns-in-Int-clause-value c =
    (scanned c.args.kind kinds.Int c.args.text.now c.number.result c.in-Int.is (c.number.ensures ∙ ap (λ (o : Option ℤ). ok_or (option_map Int o) BadLiteral) c.read_int.ensures)).value

pub returns-in-Int-clause-bad : goal.returns-in-Int-clause-bad
returns-in-Int-clause-bad c =
    (scanned c.args.kind kinds.Int c.args.text.now c.number.result c.in-Int.is (c.number.ensures ∙ ap (λ (o : Option ℤ). ok_or (option_map Int o) BadLiteral) c.read_int.ensures)).bad

pub returns-in-Bool-clause-value : goal.returns-in-Bool-clause-value
returns-in-Bool-clause-value c =
    (scanned c.args.kind kinds.Bool c.args.text.now c.truth.result c.in-Bool.is (c.truth.ensures ∙ ap (λ (o : Option Bool). ok_or (option_map Truth o) BadLiteral) c.read_bool.ensures)).value

pub returns-in-Bool-clause-bad : goal.returns-in-Bool-clause-bad
returns-in-Bool-clause-bad c =
    (scanned c.args.kind kinds.Bool c.args.text.now c.truth.result c.in-Bool.is (c.truth.ensures ∙ ap (λ (o : Option Bool). ok_or (option_map Truth o) BadLiteral) c.read_bool.ensures)).bad

pub returns-in-Time-clause-value : goal.returns-in-Time-clause-value
returns-in-Time-clause-value c =
    (scanned c.args.kind kinds.Time c.args.text.now c.time.result c.in-Time.is (c.time.ensures ∙ ap (λ (o : Option Instant). ok_or (option_map Time o) BadLiteral) c.read_time.ensures ∙ ap (λ (t : List ℕ). ok_or (option_map Time (time_of_text t)) BadLiteral) c.as_bytes.ensures.value)).value

pub returns-in-Time-clause-bad : goal.returns-in-Time-clause-bad
returns-in-Time-clause-bad c =
    (scanned c.args.kind kinds.Time c.args.text.now c.time.result c.in-Time.is (c.time.ensures ∙ ap (λ (o : Option Instant). ok_or (option_map Time o) BadLiteral) c.read_time.ensures ∙ ap (λ (t : List ℕ). ok_or (option_map Time (time_of_text t)) BadLiteral) c.as_bytes.ensures.value)).bad

pub returns-in_err-from_str-in-Default-clause-bad : goal.returns-in_err-from_str-in-Default-clause-bad
returns-in_err-from_str-in-Default-clause-bad c = not_bad c.args.kind c.args.text.now c.from_residual.result c.in-Default.is (λ h. let k = rw h at c.from_residual.ensures.1 in cc)

pub returns-in_ok-from_str-in-Default-clause-bad : goal.returns-in_ok-from_str-in-Default-clause-bad
returns-in_ok-from_str-in-Default-clause-bad c = not_bad c.args.kind c.args.text.now _ c.in-Default.is (λ h. cc)

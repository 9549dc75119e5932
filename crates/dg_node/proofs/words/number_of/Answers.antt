use Rattle.std.proofs.Common.{refl}
use Rattle.std.proofs.lemmas.Bool.{false≢true}
use Rattle.std.specs.Str.Parse.{AllDigits}
use Rattle.std.proofs.lemmas.Str.Parse.{parse_plain, numerals_by_value, tells_digits}
use Rattle.dg_wire.specs.Numbers.{IsPlain}
use Rattle.dg_node.proofs.WordLemmas.{not_plain, read_found, read_none}
use Rattle.dg_node.proofs.words.number_of.Goals as goal

pub returns-then-not-is_plain-clause-none : goal.returns-then-not-is_plain-clause-none
returns-then-not-is_plain-clause-none c = λ n small.
    not_plain c.as_bytes.result.now c.args.digits.now n small c.as_bytes.ensures.value (λ plain. false≢true (c.if-not-is_plain.ensures.1 plain))

pub returns-clause-found : goal.returns-clause-found
returns-clause-found c =
    let plain = rw c.as_bytes.ensures.value at c.if-not-is_plain.ensures.0 refl in
    let read = parse_plain (numerals_by_value (AllDigits 10) tells_digits) 32 c.args.digits.now c.parse.result c.parse.ensures.value.0 plain.1 in
    rw c.ok.ensures.value (read_found c.parse.result c.args.digits.now read plain.0)

pub returns-clause-none : goal.returns-clause-none
returns-clause-none c =
    let plain = rw c.as_bytes.ensures.value at c.if-not-is_plain.ensures.0 refl in
    let read = parse_plain (numerals_by_value (AllDigits 10) tells_digits) 32 c.args.digits.now c.parse.result c.parse.ensures.value.0 plain.1 in
    rw c.ok.ensures.value (read_none c.parse.result c.args.digits.now read plain.0)

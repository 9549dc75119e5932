use Rattle.std.proofs.Common.{◌≡◌, ◌++◌, ◌-◌, ◌≤◌, List, ℕ, length, drop, string_bytes, arith, ◌∙◌, ap, subst}
use Rattle.std.specs.List.{prefix_len}
use Rattle.dg_text.proofs.EscapeLemmas.{is_plain, plain_says, plain_ends, plain_some}
use Rattle.dg_text.proofs.escapes.push_plain.Goals as goal

pub range-requires-clause-end_boundary : goal.range-requires-clause-end_boundary
range-requires-clause-end_boundary c =
    let Long : List ℕ → Type 0 = λ text. c.run.result ≡ prefix_len is_plain (drop c.args.at text) in
    let Within : List ℕ → Type 0 = λ text. c.run.result ≤ length text - c.args.at in
    plain_ends c.args.text.now c.args.at c.run.result (omega (arith, c.requires.place)) (subst Long c.as_bytes.ensures.value c.run.ensures.len) (subst Within c.as_bytes.ensures.value c.run.ensures.bound)

pub returns-clause-says : goal.returns-clause-says
returns-clause-says c =
    let Long : List ℕ → Type 0 = λ text. c.run.result ≡ prefix_len is_plain (drop c.args.at text) in
    plain_says (string_bytes c.args.out.now) (string_bytes c.push_str.new.self) c.args.text.now c.args.at c.run.result
    (c.in_ok-push_str.ensures.bytes ∙ ap (λ more. string_bytes c.args.out.now ++ more) c.range.ensures.value) (subst Long c.as_bytes.ensures.value c.run.ensures.len)

pub returns-clause-forward : goal.returns-clause-forward
returns-clause-forward c =
    let Long : List ℕ → Type 0 = λ text. c.run.result ≡ prefix_len is_plain (drop c.args.at text) in
    plain_some c.args.text.now c.args.at c.run.result c.requires.place c.requires.plain (subst Long c.as_bytes.ensures.value c.run.ensures.len)

pub returns-clause-cut : goal.returns-clause-cut
returns-clause-cut c =
    let Long : List ℕ → Type 0 = λ text. c.run.result ≡ prefix_len is_plain (drop c.args.at text) in
    let Within : List ℕ → Type 0 = λ text. c.run.result ≤ length text - c.args.at in
    plain_ends c.args.text.now c.args.at c.run.result (omega (arith, c.requires.place)) (subst Long c.as_bytes.ensures.value c.run.ensures.len) (subst Within c.as_bytes.ensures.value c.run.ensures.bound)

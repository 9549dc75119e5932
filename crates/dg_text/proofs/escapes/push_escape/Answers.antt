use Rattle.std.proofs.Common.{◌≡◌, ◌+◌, ◌-◌, ◌++◌, ◌≤◌, List, ℕ, length, drop, string_bytes, subst}
use Rattle.dg_text.specs.Escapes.{HasLowEnd, escape_bytes, escape_len}
use Rattle.dg_text.proofs.EscapeLemmas.{escape_says, escape_ends}
use Rattle.dg_text.proofs.escapes.push_escape.Goals as goal

pub returns-clause-says : goal.returns-clause-says
returns-clause-says c =
    let Added : List ℕ → Type 0 = λ text. string_bytes c.push_escaped.new.out ≡ string_bytes c.args.out.now ++ escape_bytes (drop (c.args.at + 1) text) in
    let Long : List ℕ → Type 0 = λ text. c.escape_len.result ≡ escape_len (drop (c.args.at + 1) text) in
    escape_says (string_bytes c.args.out.now) (string_bytes c.push_escaped.new.out) c.args.text.now c.args.at c.escape_len.result c.requires.place c.requires.escape
    (subst Added c.as_bytes-bytes.ensures.value c.in_ok-push_escaped.ensures) (subst Long c.as_bytes-bytes.ensures.value c.escape_len.ensures.len)

pub returns-clause-cut : goal.returns-clause-cut
returns-clause-cut c =
    let Within : List ℕ → Type 0 = λ text. c.escape_len.result ≤ length text - (c.args.at + 1) in
    let Ends : List ℕ → Type 0 = λ text. HasLowEnd text (c.args.at + 1) c.escape_len.result in
    escape_ends c.args.text.now c.args.at c.escape_len.result c.utf8.text c.requires.place c.requires.escape
    (subst Within c.as_bytes-bytes.ensures.value c.escape_len.ensures.bound) (subst Ends c.as_bytes-bytes.ensures.value c.escape_len.ensures.last)

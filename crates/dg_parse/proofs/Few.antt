-- The tokens of a text of at most 1 MiB are few.
use Rattle.std.proofs.Common.{ℕ, ◌≤◌, List, [], ◌∷◌, ◌++◌, length, drop, ap, arith, length-append, length-drop}
use Rattle.std.proofs.lemmas.List.{length-map}
use Rattle.std.specs.List.{concat}
use Rattle.dg_text.proofs.Small.{are_small}
use Rattle.dg_text.specs.Tokenized.{IsGap, TokensFrom, TokensOf}
use Rattle.dg_text.specs.Tokens.{AreCut, tok_of, toks_of}
use Rattle.dg_text.specs.declared.token.Token.{Token}
use Rattle.dg_parse.specs.Sizes.{AreFew}

gap_short : (text rest : List ℕ) → IsGap text rest → length rest ≤ length text
gap_short text rest g = omega (arith, ap length g.is, length-append (concat g.pieces) (g.last ++ rest), length-append g.last rest)

-- each token takes a byte or more
no_more : (tokens : List Token) (size : ℕ) (left end : List ℕ) → TokensFrom size tokens end left → length tokens ≤ length left
no_more [] size left end f = omega arith
no_more (t ∷ more) size left end f =
    let rest : length more ≤ length f.rest = no_more more size f.rest end f.more in
    omega (arith, rest, gap_short (drop f.len left) f.rest f.gap, length-drop f.len left, f.starts.some, f.starts.within)

pub are_few : (text : List ℕ) (tokens : List Token) (end : List ℕ) → length text ≤ 1048576 → AreCut text tokens → TokensOf text tokens end → AreFew (toks_of text tokens)
are_few text tokens end le cut o =
    let count : length tokens ≤ length o.rest = no_more tokens (length text) o.rest end o.from in
    (are_small text tokens le cut, omega (arith, count, gap_short text o.rest o.gap, length-map tokens (tok_of text)))

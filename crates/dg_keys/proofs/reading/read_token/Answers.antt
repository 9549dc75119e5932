use Rattle.std.proofs.Common.{refl, ◌≡◌, ◌-◌, ◌∷◌, length, take, drop, get_or}
use Rattle.std.proofs.lemmas.Result.{err_from_is_err_and}
use Rattle.dg_keys.proofs.Carried.{none_carried}
use Rattle.dg_keys.proofs.Spelled.{opened, value_in, token_of}
use Rattle.dg_keys.proofs.reading.read_token.Goals as goal

pub returns-in_err-value-in-len1-up : goal.returns-in_err-value-in-len1-up
returns-in_err-value-in-len1-up c =
    let p = err_from_is_err_and c.from_residual-in_err-value-in-len1-up.result c.from_residual-in_err-value-in-len1-up.ensures.1 in
    let t = c.in_ok-tokenizer-in-len1-up.tokenizer in
    let whole : c.args.bytes.now ≡ get_or c.args.bytes.now 0 0 ∷ take (length c.args.bytes.now - 1) (drop 1 c.args.bytes.now) = opened c.args.bytes.now _ c.in-len1-up.len_at_least refl in
    rw (p.1, p.2) (none_carried _ _ _ _ _ _ (value_in _ _ c.args.bytes.now t whole c.in_ok-tokenizer-in-len1-up.ensures) (token_of _ _ c.args.bytes.now t whole c.in_ok-tokenizer-in-len1-up.ensures) _ c.in_err-value-in-len1-up.ensures)

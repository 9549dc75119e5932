use Rattle.std.proofs.Common.{rules, refl, ◌≡◌, ◌-◌, ◌∷◌, length, take, drop, get_or}
use Rattle.std.proofs.lemmas.Result.{err_from_is_err_and}
use Rattle.dg_keys.specs.declared.key.Key.TheVariants.{Data, Index, Reverse, Count, RCount}
use Rattle.dg_keys.proofs.Carried.{none_carried}
use Rattle.dg_keys.proofs.Spelled.{opened, led, token_in, index_of}
use Rattle.dg_keys.proofs.reading.read_field.Goals as goal

pub returns-in_err-p-in-1 : goal.returns-in_err-p-in-1
returns-in_err-p-in-1 c =
    let p = err_from_is_err_and c.from_residual-in_err-p-in-1.result c.from_residual-in_err-p-in-1.ensures.1 in
    let first : get_or c.args.bytes.now 0 0 ≡ 1 = search rules in
    let whole : c.args.bytes.now ≡ 1 ∷ take (length c.args.bytes.now - 1) (drop 1 c.args.bytes.now) = opened c.args.bytes.now 1 c.in-1.len_at_least first in
    rw (p.1, p.2) (Data c.args.pred.now c.in_ok-s-in-1.s, (refl, refl, c.in_ok-s-in-1.ensures.0), led 1 _ _ _ c.in_ok-s-in-1.ensures.1 whole)

pub returns-in_err-p-in-3 : goal.returns-in_err-p-in-3
returns-in_err-p-in-3 c =
    let p = err_from_is_err_and c.from_residual-in_err-p-in-3.result c.from_residual-in_err-p-in-3.ensures.1 in
    let first : get_or c.args.bytes.now 0 0 ≡ 3 = search rules in
    let whole : c.args.bytes.now ≡ 3 ∷ take (length c.args.bytes.now - 1) (drop 1 c.args.bytes.now) = opened c.args.bytes.now 3 c.in-3.len_at_least first in
    rw (p.1, p.2) (Reverse c.args.pred.now c.in_ok-o-in-3.o, (refl, refl, c.in_ok-o-in-3.ensures.0), led 3 _ _ _ c.in_ok-o-in-3.ensures.1 whole)

pub returns-in_err-p-in-4 : goal.returns-in_err-p-in-4
returns-in_err-p-in-4 c =
    let p = err_from_is_err_and c.from_residual-in_err-p-in-4.result c.from_residual-in_err-p-in-4.ensures.1 in
    let first : get_or c.args.bytes.now 0 0 ≡ 4 = search rules in
    let whole : c.args.bytes.now ≡ 4 ∷ take (length c.args.bytes.now - 1) (drop 1 c.args.bytes.now) = opened c.args.bytes.now 4 c.in-4.len_at_least first in
    rw (p.1, p.2) (Count c.args.pred.now c.in_ok-n-in-4.n, (refl, refl, c.in_ok-n-in-4.ensures.0), led 4 _ _ _ c.in_ok-n-in-4.ensures.1 whole)

pub returns-in_err-p-in-5 : goal.returns-in_err-p-in-5
returns-in_err-p-in-5 c =
    let p = err_from_is_err_and c.from_residual-in_err-p-in-5.result c.from_residual-in_err-p-in-5.ensures.1 in
    let first : get_or c.args.bytes.now 0 0 ≡ 5 = search rules in
    let whole : c.args.bytes.now ≡ 5 ∷ take (length c.args.bytes.now - 1) (drop 1 c.args.bytes.now) = opened c.args.bytes.now 5 c.in-5.len_at_least first in
    rw (p.1, p.2) (RCount c.args.pred.now c.in_ok-n-in-5.n, (refl, refl, c.in_ok-n-in-5.ensures.0), led 5 _ _ _ c.in_ok-n-in-5.ensures.1 whole)

pub returns-in_err-p-in-2 : goal.returns-in_err-p-in-2
returns-in_err-p-in-2 c =
    let p = err_from_is_err_and c.from_residual-in_err-p-in-2.result c.from_residual-in_err-p-in-2.ensures.1 in
    let told = c.in_ok-t-in-2.ensures in
    let first : get_or c.args.bytes.now 0 0 ≡ 2 = search rules in
    let whole : c.args.bytes.now ≡ 2 ∷ take (length c.args.bytes.now - 1) (drop 1 c.args.bytes.now) = opened c.args.bytes.now 2 c.in-2.len_at_least first in
    rw (p.1, p.2) (Index c.args.pred.now c.in_ok-t-in-2.t, (refl, told.0.0, told.0.1), led 2 _ _ _ told.1 whole)

pub returns-in_err-t-in-2 : goal.returns-in_err-t-in-2
returns-in_err-t-in-2 c =
    let p = err_from_is_err_and c.from_residual-in_err-t-in-2.result c.from_residual-in_err-t-in-2.ensures.1 in
    let first : get_or c.args.bytes.now 0 0 ≡ 2 = search rules in
    let whole : c.args.bytes.now ≡ 2 ∷ take (length c.args.bytes.now - 1) (drop 1 c.args.bytes.now) = opened c.args.bytes.now 2 c.in-2.len_at_least first in
    rw (p.1, p.2) (none_carried _ _ _ _ _ _ (token_in _ c.args.bytes.now c.args.pred.now whole) (index_of _ c.args.bytes.now c.args.pred.now whole) _ c.in_err-t-in-2.ensures)

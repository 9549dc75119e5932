use Rattle.std.proofs.Common.{◌≡◌, ℕ, ◌+◌, ◌++◌, ◌∷◌, suc, List, length, take, drop, ap, sym, ◌∙◌, add-one, arith}
use Rattle.std.proofs.lemmas.Slice.{between_to_end}
use Rattle.std.specs.List.{between}
use Rattle.dg_uids.proofs.Runs.{split_at_item}
use Rattle.dg_uids.proofs.sides.around.Goals as goal

behind : (xs : List ℕ) (i : ℕ) → drop (suc i) xs ≡ between (i + 1) (length xs) xs
behind xs i = ap (λ n. drop n xs) (sym (add-one i)) ∙ sym (between_to_end xs (i + 1) (length xs) (omega arith))

pub returns-in-Ok-clause-put : goal.returns-in-Ok-clause-put
returns-in-Ok-clause-put c =
    let stands = c.in-Ok.ensures.there in
    stands.put ∙ split_at_item c.args.uids.now c.in-Ok.place c.args.uid stands.item_is ∙ ap (λ zs. take c.in-Ok.place c.args.uids.now ++ c.args.uid ∷ zs) (behind c.args.uids.now c.in-Ok.place)

pub returns-in-Ok-clause-taken : goal.returns-in-Ok-clause-taken
returns-in-Ok-clause-taken c = c.in-Ok.ensures.there.taken ∙ ap (λ zs. take c.in-Ok.place c.args.uids.now ++ zs) (behind c.args.uids.now c.in-Ok.place)

-- One step of a pass over operations and the next posting of a list that is handed over.
use Rattle.std.proofs.Common.{◌≡◌, ℕ, ◌+◌, ◌<◌, ◌≤◌, List, [], ◌∷◌, ◌++◌, length, get_or, drop, map, subst, sym}
use Rattle.std.proofs.lemmas.List.{map-id}
use Rattle.std.specs.declared.cmp.Ordering.TheVariants.{Less, Equal, Greater}
use Rattle.dg_values.specs.Order.{posting_cmp}
use Rattle.dg_values.specs.Ascending.{Ascends}
use Rattle.dg_values.specs.declared.value.Posting.{Posting}
use Rattle.dg_delta.specs.declared.op.Op.{Op}
use Rattle.dg_delta.specs.Ops.{posting_of, op_cmp, after_ops}
use Rattle.dg_delta.specs.Effects.{put_by, put_by_all}
use Rattle.dg_delta.proofs.Passes.{next_less, next_equal, next_greater, next_kept, all_passed}

module _ (ops : List Op) (s : Ascends op_cmp ops) (k : ℕ) (op : Op) (hk : k < length ops) (eo : op ≡ get_or ops k op) (list : List Posting) (x : Posting) (xs : List Posting) (a : Ascends posting_cmp (x ∷ xs)) where
  mapped_ascend : Ascends op_cmp (map (λ o. o) ops)
  mapped_ascend = subst (Ascends op_cmp) (sym (map-id ops)) s

  pub on_less : posting_cmp (posting_of op) x ≡ Less → (list ++ put_by op) ++ after_ops (x ∷ xs) (drop (k + 1) ops) ≡ list ++ after_ops (x ∷ xs) (drop k ops)
  on_less l =
      subst (λ (os : List Op). (list ++ put_by op) ++ after_ops (x ∷ xs) (drop (k + 1) os) ≡ list ++ after_ops (x ∷ xs) (drop k os)) (map-id ops)
      (next_less (λ o. o) ops mapped_ascend k op hk eo list x xs a l)

  pub on_equal : posting_cmp (posting_of op) x ≡ Equal → ((list ++ put_by op) ++ []) ++ after_ops xs (drop (k + 1) ops) ≡ list ++ after_ops (x ∷ xs) (drop k ops)
  on_equal e =
      subst (λ (os : List Op). ((list ++ put_by op) ++ []) ++ after_ops xs (drop (k + 1) os) ≡ list ++ after_ops (x ∷ xs) (drop k os)) (map-id ops)
      (next_equal (λ o. o) ops mapped_ascend k op hk eo list x xs a e)

  pub on_greater : posting_cmp (posting_of op) x ≡ Greater → (list ++ x ∷ []) ++ after_ops xs (drop k ops) ≡ list ++ after_ops (x ∷ xs) (drop k ops)
  on_greater g =
      subst (λ (os : List Op). (list ++ x ∷ []) ++ after_ops xs (drop k os) ≡ list ++ after_ops (x ∷ xs) (drop k os)) (map-id ops)
      (next_greater (λ o. o) ops mapped_ascend k op hk eo list x xs a g)

-- with no operation left it stays
pub on_none : (ops : List Op) (k : ℕ) (list : List Posting) (x : Posting) (xs : List Posting) → length ops ≤ k → (list ++ x ∷ []) ++ after_ops xs (drop k ops) ≡ list ++ after_ops (x ∷ xs) (drop k ops)
on_none ops k list x xs le =
    subst (λ (os : List Op). (list ++ x ∷ []) ++ after_ops xs (drop k os) ≡ list ++ after_ops (x ∷ xs) (drop k os)) (map-id ops)
    (next_kept (λ o. o) ops k list x xs le)

-- at the end what is left of the operations is put in
pub on_end : (ops : List Op) (list all : List Posting) (k : ℕ) → Ascends op_cmp ops → list ++ after_ops [] (drop k ops) ≡ all → list ++ put_by_all (drop k ops) ≡ all
on_end ops list all k s so_far =
    subst (λ (os : List Op). list ++ put_by_all os ≡ all) (map-id (drop k ops))
    (all_passed (λ o. o) ops list all k (subst (Ascends op_cmp) (sym (map-id ops)) s) (subst (λ (os : List Op). list ++ after_ops [] (drop k os) ≡ all) (sym (map-id ops)) so_far))

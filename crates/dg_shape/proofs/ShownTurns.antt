-- One turn of the loop over the fields of a node that are shown.
use Rattle.std.proofs.Common.{◌≡◌, ℕ, suc, ◌+◌, ◌<◌, ◌≤◌, Bool, true, false, cond, List, [], ◌∷◌, ◌++◌, length, get_or, set, take, drop, refl, ap, sym, ◌∙◌, append_assoc, append-nil, drop-cons, add-one, arith}
use Rattle.std.specs.Prelude.{Some, None, if◌then◌else◌, option_map, bytes_eq}
use Rattle.std.specs.List.{cons_option}
use Rattle.std.proofs.lemmas.List.{drop_all, take-set-le, drop-set, drop-set-lt}
use Rattle.dg_tree.specs.declared.tree.Tree.{Tree}
use Rattle.dg_tree.specs.declared.tree.Field.{Field}
use Rattle.dg_shape.specs.Asked.{Asked}
use Rattle.dg_shape.specs.Strip.{shown_fields, shown_from}

nothing_left : (asked : List Asked) → shown_fields asked [] ≡ []
nothing_left [] = refl
nothing_left (a ∷ more) = refl

-- behind the last field there is nothing to be shown
pub past_end : (fields : List Field) (kept at : ℕ) (asked : Asked) (more : List Asked) → length fields ≤ at → shown_from fields kept at (asked ∷ more) ≡ shown_from fields kept at more
past_end fields kept at asked more le =
    let none : drop at fields ≡ [] = drop_all at fields le in
    (λ i. take kept fields ++ shown_fields (asked ∷ more) (none i)) ∙ λ i. take kept fields ++ (sym (nothing_left more) ∙ λ j. shown_fields more (sym none j)) i

-- a field of another key is left for those that ask later
pub other_first : (fields : List Field) (kept at : ℕ) (asked : Asked) (more : List Asked) (f : Field) → at < length fields → f ≡ get_or fields at f → bytes_eq f.key asked.key ≡ false
    → shown_from fields kept at (asked ∷ more) ≡ shown_from fields kept at more
other_first fields kept at asked more f lt e key =
    let split : drop at fields ≡ f ∷ drop (suc at) fields = drop-cons fields at f lt ∙ λ i. sym e i ∷ drop (suc at) fields in
    (λ i. take kept fields ++ shown_fields (asked ∷ more) (split i))
    ∙ ((λ i. take kept fields ++ cond (key i) (cons_option (option_map (λ t. record { key = f.key; tree = t }) (asked.left f.tree)) (shown_fields more (drop (suc at) fields))) (shown_fields more (f ∷ drop (suc at) fields)))
    ∙ λ i. take kept fields ++ shown_fields more (sym split i))

-- what a field of the key shows stands behind what is shown so far
pub passed_first : (fields : List Field) (kept at : ℕ) (asked : Asked) (more : List Asked) (f : Field) → kept ≤ at → at < length fields → f ≡ get_or fields at f → bytes_eq f.key asked.key ≡ true
    → (t : Tree) (stays : Bool) → asked.left f.tree ≡ (if stays then Some t else None)
    → (cut : List Field) → cut ≡ set fields at (record { key = f.key; tree = t })
    → (after : List Field) (kept' at' : ℕ) → at' ≡ at + 1 → take kept' after ≡ take kept cut ++ (if stays then take 1 (drop at cut) else []) → drop (at + 1) after ≡ drop (at + 1) cut
    → shown_from fields kept at (asked ∷ more) ≡ shown_from after kept' at' more
passed_first fields kept at asked more f few lt e key t stays left cut p after kept' at' next front rest =
    let g : Field = record { key = f.key; tree = t } in
    let others = shown_fields more (drop (suc at) fields) in
    let split : drop at fields ≡ f ∷ drop (suc at) fields = drop-cons fields at f lt ∙ λ i. sym e i ∷ drop (suc at) fields in
    let set_there : drop at (set fields at g) ≡ g ∷ drop (at + 1) fields = drop-set fields at g lt in
    let set_rest : drop (at + 1) (set fields at g) ≡ drop (at + 1) fields = drop-set-lt (at + 1) fields at g (omega arith) in
    let set_front : take kept (set fields at g) ≡ take kept fields = take-set-le kept fields at g few in
    let one : drop (at + 1) fields ≡ drop (suc at) fields = ap (λ n. drop n fields) (add-one at) in
    (λ i. take kept fields ++ shown_fields (asked ∷ more) (split i))
    ∙ ((λ i. take kept fields ++ cond (key i) (cons_option (option_map (λ u. record { key = f.key; tree = u }) (asked.left f.tree)) others) (shown_fields more (f ∷ drop (suc at) fields)))
    ∙ ((λ i. take kept fields ++ cons_option (option_map (λ u. record { key = f.key; tree = u }) (left i)) others)
    ∙ (by stays
    ∙ ((λ i. (sym set_front i ++ (if stays then take 1 (sym set_there i) else [])) ++ others)
    ∙ ((λ i. (take kept (sym p i) ++ (if stays then take 1 (drop at (sym p i)) else [])) ++ others)
    ∙ ((λ i. sym front i ++ others)
    ∙ ap (λ rs. take kept' after ++ shown_fields more rs) (sym one ∙ (sym set_rest ∙ (ap (drop (at + 1)) (sym p) ∙ (sym rest ∙ ap (λ n. drop n after) (sym next)))))))))))
  where
    by : (b : Bool) → take kept fields ++ cons_option (option_map (λ u. record { key = f.key; tree = u }) (if b then Some t else None)) (shown_fields more (drop (suc at) fields)) ≡ (take kept fields ++ (if b then record { key = f.key; tree = t } ∷ [] else [])) ++ shown_fields more (drop (suc at) fields)
    by true = sym (append_assoc (take kept fields) (record { key = f.key; tree = t } ∷ []) (shown_fields more (drop (suc at) fields)))
    by false = ap (λ xs. xs ++ shown_fields more (drop (suc at) fields)) (sym (append-nil (take kept fields)))

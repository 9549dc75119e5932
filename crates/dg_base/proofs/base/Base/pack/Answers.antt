use Rattle.std.proofs.Common.{◌≡◌, ◌++◌, ◌∙◌, ℕ, List, length, drop, map, subst, ap, sym, arith}
use Rattle.dg_values.specs.Ascending.{Ascends}
use Rattle.dg_values.specs.Order.{posting_cmp}
use Rattle.dg_values.specs.declared.value.Posting.{Posting}
use Rattle.dg_values.specs.declared.value.Posting.TheVariants.{Uid}
use Rattle.dg_base.specs.Packed.{uids_of}
use Rattle.dg_base.proofs.Postings.{parted, none_behind, length-uids_of}
use Rattle.dg_base.proofs.base.Base.pack.Goals as goal

pub split_at-requires : goal.split_at-requires
split_at-requires c = omega (arith, c.len.ensures, ap (λ (xs : List ℕ). length xs) c.in_ok-nodes.ensures, length-uids_of c.args.items.now)

pub invariant_of-result : goal.invariant_of-result
invariant_of-result c =
    let items = c.args.items.now in
    let count : c.len.result ≡ length (uids_of items) = c.len.ensures ∙ ap (λ (xs : List ℕ). length xs) c.in_ok-nodes.ensures in
    let values : c.in_ok-values.values.items ≡ drop (length (uids_of items)) items = c.in_ok-values.ensures ∙ c.split_at.ensures.back ∙ ap (λ (n : ℕ). drop n items) count in
    let whole : map (λ n. Uid n) c.in_ok-nodes.nodes ++ c.in_ok-values.values.items ≡ items = rw (c.in_ok-nodes.ensures, values) (parted items c.requires) in
    record {
      ascend = subst (λ (ps : List Posting). Ascends posting_cmp ps) (sym whole) c.requires;
      none = rw values (none_behind items c.requires);
      fit = omega (arith, ap (λ (ps : List Posting). length ps) whole);
    }

pub returns : goal.returns
returns c =
    let items = c.args.items.now in
    let count : c.len.result ≡ length (uids_of items) = c.len.ensures ∙ ap (λ (xs : List ℕ). length xs) c.in_ok-nodes.ensures in
    let values : c.in_ok-values.values.items ≡ drop (length (uids_of items)) items = c.in_ok-values.ensures ∙ c.split_at.ensures.back ∙ ap (λ (n : ℕ). drop n items) count in
    rw (c.in_ok-nodes.ensures, values) (parted items c.requires)

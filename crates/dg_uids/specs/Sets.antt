-- Ascending lists of uids as sets, and their pages.
use Rattle.std.specs.Prelude.{ℕ, suc, ◌-◌, ℤ, pos, negsuc, List, Option, Some, None, fold, filter, not, length, take, drop, nat_lt}
use Rattle.std.specs.Ordering.{nat_cmp}
use Rattle.dg_values.specs.Ascending.{has, with_one}

-- the uids of the first list that the second has
abbrev pub common : List ℕ → List ℕ → List ℕ
common uids others = filter (λ uid. has nat_cmp others uid) uids

-- the uids of the first list that the second lacks
abbrev pub lacking : List ℕ → List ℕ → List ℕ
lacking uids others = filter (λ uid. not (has nat_cmp others uid)) uids

-- the uids of the first list, with those of the second put in
abbrev pub either : List ℕ → List ℕ → List ℕ
either uids others = fold (with_one nat_cmp) uids others

-- the first `most` uids, or the last `-most` where it is negative
abbrev pub first_or_last : Option ℤ → List ℕ → List ℕ
first_or_last None uids = uids
first_or_last (Some (pos most)) uids = take most uids
first_or_last (Some (negsuc n)) uids = drop (length uids - suc n) uids

-- the uids above `after` but for the first `offset` of them, and of those the first or the last
abbrev pub page_of : List ℕ → ℕ → ℕ → Option ℤ → List ℕ
page_of uids after offset first = first_or_last first (drop offset (filter (λ uid. nat_lt after uid) uids))

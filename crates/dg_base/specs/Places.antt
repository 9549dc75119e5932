-- Places in ascending lists of postings.
use Rattle.std.specs.Prelude.{◌≡◌, ℕ, ◌<◌, ◌^◌, List, [], ◌++◌, map, length, count_by}
use Rattle.std.specs.Ordering.{is_lt}
use Rattle.dg_values.specs.Ascending.{Ascends}
use Rattle.dg_values.specs.Order.{posting_cmp}
use Rattle.dg_values.specs.declared.value.Posting.{Posting}
use Rattle.dg_values.specs.declared.value.Posting.TheVariants.{Uid}
use Rattle.dg_base.specs.Packed.{uids_of}

-- how many postings are below this one
abbrev pub count_below : List Posting → Posting → ℕ
count_below postings posting = count_by (λ other. is_lt (posting_cmp other posting)) postings

-- ascending postings, of which the nodes stand before the values
pub record AreParted (nodes : List ℕ) (values : List Posting) : Type 0 where
  pub ascend : Ascends posting_cmp (map (λ n. Uid n) nodes ++ values)
  pub none : uids_of values ≡ []
  pub fit : length (map (λ n. Uid n) nodes ++ values) < 2 ^ 64

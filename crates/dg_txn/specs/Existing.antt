-- Which lists show that a predicate has a triple.
use Rattle.std.specs.Prelude.{ℕ, ◌&&◌, nat_lt, Bool, false, List, length}
use Rattle.dg_values.specs.Order.{same_text}
use Rattle.dg_keys.specs.declared.key.Key.{Key}
use Rattle.dg_keys.specs.declared.key.Key.TheVariants.{Data}
use Rattle.dg_list.specs.Lists.{Layered, reading}

-- the key is that of a subject's list of a predicate (this project's own)
abbrev pub is_data_of : List ℕ → Key → Bool
is_data_of pred (Data p s) = same_text p pred
is_data_of pred key = false

-- and the list has a posting at a timestamp
abbrev pub lists_some : List ℕ → ℕ → Key × Layered → Bool
lists_some pred at e = is_data_of pred e.0 && nat_lt 0 (length (reading e.1 at))

-- The keys of the fields of a level.
use Rattle.std.specs.Prelude.{ℕ, Bool, if◌then◌else◌, List, [], ◌∷◌, flat_map}
use Rattle.dg_parse.specs.declared.query.QField.{QField}
use Rattle.dg_parse.specs.declared.query.QItem.TheViews.{out-QItem}
use Rattle.dg_parse.specs.Keys.{key_of}
use Rattle.dg_level.specs.Shown.{is_count}

-- a field asks for the number of nodes of its list
abbrev pub asks_count : QField → Bool
asks_count f = is_count (out-QItem f.item)

-- the key under which it does
abbrev pub count_keys : QField → List (List ℕ)
count_keys f = if asks_count f then key_of f ∷ [] else []

-- the keys under which fields do
abbrev pub all_count_keys : List QField → List (List ℕ)
all_count_keys fields = flat_map count_keys fields

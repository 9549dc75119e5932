-- The order of a list of nodes, and the page of it that is asked.
use Rattle.std.specs.Prelude.{ℕ, suc, ◌-◌, ℤ, pos, negsuc, Bool, List, [], ◌∷◌, Option, Some, None, if◌then◌else◌, length, take, drop, filter, nat_lt}
use Rattle.std.specs.Option.{option_or}
use Rattle.std.specs.declared.cmp.Ordering.{Ordering}
use Rattle.std.specs.declared.cmp.Ordering.TheVariants.{Less, Equal, Greater}
use Rattle.std.specs.Ordering.{nat_cmp, ordering_then}
use Rattle.dg_values.specs.declared.value.Value.{Value}
use Rattle.dg_values.specs.Ascending.{ascending}
use Rattle.dg_values.specs.Order.{value_cmp}
use Rattle.dg_parse.specs.declared.query.QArg.{QArg}
use Rattle.dg_parse.specs.declared.query.QArg.TheVariants.{First, Offset, After}
use Rattle.dg_check.specs.Vars.{value_beside}
use Rattle.dg_shape.specs.declared.ordering.Key.{Key}

-- ---- order

-- the values of two nodes by a key, the greatest first or the least; one that is missing comes last either way
abbrev pub key_cmp : Bool → Option Value → Option Value → Ordering
key_cmp down None None = Equal
key_cmp down None (Some b) = Greater
key_cmp down (Some a) None = Less
key_cmp down (Some a) (Some b) = if down then value_cmp b a else value_cmp a b

-- two nodes by the keys in turn, each of which is its direction and the values of nodes, and then by number
abbrev pub node_cmp : List (Bool × (ℕ → Option Value)) → ℕ → ℕ → Ordering
node_cmp [] a b = nat_cmp a b
node_cmp (key ∷ keys) a b = ordering_then (key_cmp key.0 (key.1 a) (key.1 b)) (node_cmp keys a b)

-- nodes in the order of keys, each once
abbrev pub ordered : List (Bool × (ℕ → Option Value)) → List ℕ → List ℕ
ordered keys nodes = ascending (node_cmp keys) nodes

-- the direction and the values of a key
abbrev pub meant : Key → Bool × (ℕ → Option Value)
meant key = (key.down, value_beside key.values.now.nodes key.values.now.values)

-- ---- page

-- what the first argument gives of which something is given
abbrev pub given_by : {X : Type 0} → (QArg → Option X) → List QArg → Option X
given_by f [] = None
given_by f (arg ∷ args) = option_or (f arg) (given_by f args)

-- how many nodes an argument asks for
abbrev pub first_of : QArg → Option ℤ
first_of (First n) = Some n
first_of arg = None

-- how many nodes an argument leaves out at the front
abbrev pub offset_of : QArg → Option ℤ
offset_of (Offset n) = Some n
offset_of arg = None

-- the node after which an argument lets the page begin
abbrev pub after_of : QArg → Option ℕ
after_of (After n) = Some n
after_of arg = None

-- how many nodes are asked for, by the first argument that says so
abbrev pub first_in : List QArg → Option ℤ
first_in args = given_by first_of args

-- how many nodes are left out at the front, by the first argument that says so
abbrev pub offset_in : List QArg → Option ℤ
offset_in args = given_by offset_of args

-- the node after which the page begins, by the first argument that says so
abbrev pub after_in : List QArg → Option ℕ
after_in args = given_by after_of args

-- the nodes of a greater number
abbrev pub above : Option ℕ → List ℕ → List ℕ
above None nodes = nodes
above (Some n) nodes = filter (nat_lt n) nodes

-- the nodes without the first so many
abbrev pub past : Option ℤ → List ℕ → List ℕ
past None nodes = nodes
past (Some (pos n)) nodes = drop n nodes
past (Some (negsuc n)) nodes = nodes

-- the first so many nodes, or for a negative number the last
abbrev pub at_most : Option ℤ → List ℕ → List ℕ
at_most None nodes = nodes
at_most (Some (pos n)) nodes = take n nodes
at_most (Some (negsuc n)) nodes = drop (length nodes - suc n) nodes

-- the page that arguments ask of nodes
abbrev pub page : List QArg → List ℕ → List ℕ
page args nodes = at_most (first_in args) (past (offset_in args) (above (after_in args) nodes))

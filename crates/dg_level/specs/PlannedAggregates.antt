-- What blocks without a function show, by what a plan keeps of them, and as text.
use Rattle.std.specs.Prelude.{ℕ, Bool, false, if◌then◌else◌, List, [], ◌∷◌, ◌++◌, Option, Some, None, option_to_list, map, flat_map}
use Rattle.std.specs.Ordering.{is_lt, is_gt}
use Rattle.dg_values.specs.declared.value.Value.{Value}
use Rattle.dg_values.specs.Order.{value_cmp}
use Rattle.dg_parse.specs.declared.query.AggOp.TheVariants as ops
use Rattle.dg_parse.specs.declared.query.QItem.TheOpen.{QItem-F}
use Rattle.dg_check.specs.declared.parts.Item.TheOpen.{Item-F}
use Rattle.dg_check.specs.declared.vars.Variable.{Variable}
use Rattle.dg_tree.specs.declared.tree.Tree.{Tree}
use Rattle.dg_tree.specs.declared.tree.Tree.TheVariants as trees
use Rattle.dg_tree.specs.Texts.{key_text, tree_text}
use Rattle.dg_level.specs.declared.aggregates.Aggregate.{Aggregate}
use Rattle.dg_level.specs.Aggregates.{values_of, number_in, sum_of, is_beyond, aggregate}
use Rattle.dg_level.specs.Answers.{value_tree}
use Rattle.dg_level.specs.Rows.{braced}
use Rattle.dg_level.specs.Shown.{under}

-- the lesser of two values, of which the first may be missing
abbrev pub lesser : Option Value → Value → Value
lesser None value = value
lesser (Some least) value = if is_lt (value_cmp value least) then value else least

-- the greater of two
abbrev pub greater : Option Value → Value → Value
greater None value = value
greater (Some greatest) value = if is_gt (value_cmp value greatest) then value else greatest

-- the text of a value, where there is one
abbrev pub text_where : Option Value → List ℕ
text_where None = []
text_where (Some value) = tree_text (value_tree value)

-- the text of an object of this value under a key
abbrev pub object_where : List ℕ → Option Value → List ℕ
object_where key value = braced (key_text key ++ text_where value)

-- the aggregate that an item is, if it is one
abbrev pub aggregate_kept : {A B C D : Type 0} → QItem-F A B → Item-F C D → Option Aggregate
aggregate_kept (QItem-F.Agg op x) (Item-F.Val place) = Some (record { op = op; place = place })
aggregate_kept item kept = None

-- the object of a value under a key, where there is one
abbrev pub objects_with : List ℕ → Option Value → List Tree
objects_with key value = map (λ value. trees.Node (under key (value_tree value) ∷ [])) (option_to_list value)

-- the objects that it shows under a key: one where the variable has a value
abbrev pub objects_by : List Variable → List ℕ → Option Aggregate → List Tree
objects_by vars key None = []
objects_by vars key (Some a) = objects_with key (aggregate a.op (values_of vars a.place))

-- the sum of the numbers of its variable is no number of 64 bits
abbrev pub is_sum_beyond : {C D : Type 0} → List Variable → Item-F C D → Bool
is_sum_beyond vars Item-F.Plain = false
is_sum_beyond vars (Item-F.Val place) = is_beyond (sum_of (flat_map number_in (values_of vars place)))
is_sum_beyond vars (Item-F.Edge orders filters inner) = false

-- its variable, where it is such a sum
abbrev pub beyond_by : {A B C D : Type 0} → List Variable → QItem-F A B → Item-F C D → List (List ℕ)
beyond_by vars (QItem-F.Agg ops.Sum x) kept = if is_sum_beyond vars kept then x ∷ [] else []
beyond_by vars item kept = []

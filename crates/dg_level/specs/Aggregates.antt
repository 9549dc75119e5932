-- What blocks without a function show: the least and the greatest value of a variable, and the sum of its numbers.
use Rattle.std.specs.Prelude.{ℕ, ℤ, pos, neg_ℤ, ◌+ℤ◌, ◌-◌, ◌^◌, int_lt, Bool, ◌||◌, if◌then◌else◌, List, [], ◌∷◌, Option, Some, None, option_to_list, fold, map, flat_map, reverse, slice_get}
use Rattle.dg_values.specs.declared.value.Value.{Value}
use Rattle.dg_values.specs.declared.value.Value.TheVariants as values
use Rattle.dg_values.specs.Ascending.{ascending}
use Rattle.dg_values.specs.Order.{value_cmp}
use Rattle.dg_parse.specs.declared.query.AggOp.{AggOp}
use Rattle.dg_parse.specs.declared.query.AggOp.TheVariants as ops
use Rattle.dg_parse.specs.declared.query.QBlock.{QBlock}
use Rattle.dg_parse.specs.declared.query.QField.{QField}
use Rattle.dg_parse.specs.declared.query.QItem.TheOpen.{QItem-F}
use Rattle.dg_parse.specs.declared.query.QItem.TheViews.{out-QItem}
use Rattle.dg_parse.specs.Keys.{key_of}
use Rattle.dg_check.specs.declared.vars.Variable.{Variable}
use Rattle.dg_check.specs.Plans.{place_of}
use Rattle.dg_check.specs.Variables.{Definition}
use Rattle.dg_tree.specs.declared.tree.Tree.{Tree}
use Rattle.dg_tree.specs.declared.tree.Tree.TheVariants as trees
use Rattle.dg_level.specs.Answers.{value_tree}
use Rattle.dg_level.specs.Lists.{first_value}
use Rattle.dg_level.specs.Shown.{under}

-- the values of the variable at a place
abbrev pub values_of : List Variable → ℕ → List Value
values_of vars place = elim (slice_get vars place) [ None ↦ [] | Some v ↦ v.values ]

-- the whole number that a value is, if it is one
abbrev pub number_in : Value → List ℤ
number_in (values.Int n) = n ∷ []
number_in value = []

-- the sum of whole numbers, without bound
abbrev pub sum_of : List ℤ → ℤ
sum_of = fold (λ a b. a +ℤ b) (pos 0)

-- it is no number of 64 bits with a sign
abbrev pub is_beyond : ℤ → Bool
is_beyond n = int_lt n (neg_ℤ (pos (2 ^ 63))) || int_lt (pos (2 ^ 63 - 1)) n

-- one value of all, where there are any: the least, the greatest, or the sum of those that are numbers
abbrev pub aggregate : AggOp → List Value → Option Value
aggregate op [] = None
aggregate ops.Min (value ∷ more) = first_value (ascending value_cmp (value ∷ more))
aggregate ops.Max (value ∷ more) = first_value (reverse (ascending value_cmp (value ∷ more)))
aggregate ops.Sum (value ∷ more) = Some (values.Int (sum_of (flat_map number_in (value ∷ more))))

-- the objects that a field shows under its key: one where the variable has a value
abbrev pub objects_of_item : {A B : Type 0} → List Definition → List Variable → List ℕ → QItem-F A B → List Tree
objects_of_item ds vars key (QItem-F.Agg op x) = map (λ value. trees.Node (under key (value_tree value) ∷ [])) (option_to_list (aggregate op (values_of vars (place_of ds x))))
objects_of_item ds vars key item = []

-- the objects of a field
abbrev pub objects_of_field : List Definition → List Variable → QField → List Tree
objects_of_field ds vars f = objects_of_item ds vars (key_of f) (out-QItem f.item)

-- the objects of the aggregates among fields, in their order
abbrev pub aggregates_shown : List Definition → List Variable → List QField → List Tree
aggregates_shown ds vars fields = flat_map (objects_of_field ds vars) fields

-- the variable of a sum that is no number of 64 bits
abbrev pub beyond_in : {A B : Type 0} → List Definition → List Variable → QItem-F A B → List (List ℕ)
beyond_in ds vars (QItem-F.Agg ops.Sum x) = if is_beyond (sum_of (flat_map number_in (values_of vars (place_of ds x)))) then x ∷ [] else []
beyond_in ds vars item = []

-- the same of a field
abbrev pub beyond_of_field : List Definition → List Variable → QField → List (List ℕ)
beyond_of_field ds vars f = beyond_in ds vars (out-QItem f.item)

-- the variables of such sums among fields
abbrev pub fields_beyond : List Definition → List Variable → List QField → List (List ℕ)
fields_beyond ds vars fields = flat_map (beyond_of_field ds vars) fields

-- the same of all blocks, in the order of the text, also of those that aren't shown
abbrev pub sums_beyond : List Definition → List Variable → List QBlock → List (List ℕ)
sums_beyond ds vars blocks = flat_map (λ block. fields_beyond ds vars block.fields) blocks

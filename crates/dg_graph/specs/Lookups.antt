-- What is looked up in a graph beside the objects of a subject: nodes by what they point to, by tokens and by numbers.
use Rattle.std.specs.Prelude.{ℕ, nat_le, Bool, true, false, ◌&&◌, ◌==◌, List, [], Option, Some, None, if◌then◌else◌, fold, map, filter, filter_map, length}
use Rattle.std.specs.List.{list_any}
use Rattle.std.specs.Ordering.{nat_cmp, is_eq, is_le}
use Rattle.dg_values.specs.Ascending.{with_one, has, ascending}
use Rattle.dg_values.specs.Order.{posting_cmp, value_cmp, tokenizer_cmp}
use Rattle.dg_values.specs.declared.kind.Tokenizer.{Tokenizer}
use Rattle.dg_values.specs.declared.value.Value.{Value}
use Rattle.dg_values.specs.declared.value.Posting.{Posting}
use Rattle.dg_values.specs.declared.value.Posting.TheVariants.{Uid, Val}
use Rattle.dg_schema.specs.declared.definition.PredDef.{PredDef}
use Rattle.dg_schema.specs.Definitions.{definition_of}
use Rattle.dg_tokens.specs.declared.tokens.IndexToken.{IndexToken}
use Rattle.dg_tokens.specs.Orders.{index_token_cmp}
use Rattle.dg_tokens.specs.Tokens.{tokens_of}
use Rattle.dg_graph.specs.declared.change.Triple.{Triple}
use Rattle.dg_graph.specs.Graphs.{is_of, objects}

-- ---- what a schema keeps lists of

-- the predicate has an index by this tokenizer
abbrev pub has_tokenizer : PredDef → Tokenizer → Bool
has_tokenizer def tokenizer = has tokenizer_cmp def.tokens tokenizer

-- the test holds of the definition, where there is one
abbrev pub is_so_by : (PredDef → Bool) → Option PredDef → Bool
is_so_by test None = false
is_so_by test (Some definition) = test definition

-- the predicate is declared with an index by this tokenizer
abbrev pub is_indexed_by : List PredDef → List ℕ → Tokenizer → Bool
is_indexed_by schema p tokenizer = is_so_by (λ d. has_tokenizer d tokenizer) (definition_of schema p)

-- the predicate is declared with lists of the subjects that point to a node
abbrev pub has_reverse : List PredDef → List ℕ → Bool
has_reverse schema p = is_so_by (λ d. d.reverse) (definition_of schema p)

-- the predicate is declared with lists of nodes by their numbers
abbrev pub has_count : List PredDef → List ℕ → Bool
has_count schema p = is_so_by (λ d. d.count) (definition_of schema p)

-- the predicate is declared with lists of nodes by their numbers of objects, or of subjects where `reverse`
abbrev pub has_numbers : List PredDef → List ℕ → Bool → Bool
has_numbers schema p reverse = if reverse then has_reverse schema p && has_count schema p else has_count schema p

-- ---- by objects

-- the subjects that have an object of the predicate at which the test holds, ascending
abbrev pub subjects_where : (Posting → Bool) → List Triple → List ℕ → List ℕ
subjects_where test graph p = fold (with_one nat_cmp) [] (map (λ t. t.s) (filter (λ t. is_of p t && test t.o) graph))

-- the subjects that point to an object, ascending
abbrev pub subjects_of : List Triple → List ℕ → Posting → List ℕ
subjects_of graph p o = subjects_where (λ object. is_eq (posting_cmp object o)) graph p

-- the subjects that have any object, ascending
abbrev pub holders : List Triple → List ℕ → List ℕ
holders graph p = subjects_where (λ o. true) graph p

-- the objects that a predicate has, ascending
abbrev pub all_objects : List Triple → List ℕ → List Posting
all_objects graph p = fold (with_one posting_cmp) [] (map (λ t. t.o) (filter (is_of p) graph))

-- ---- by tokens

-- the tokens of an object: a node has none
abbrev pub tokens_of_object : Tokenizer → Posting → List IndexToken
tokens_of_object tokenizer (Uid n) = []
tokens_of_object tokenizer (Val value) = tokens_of tokenizer value

-- the token is one of the object
abbrev pub has_token : IndexToken → Posting → Bool
has_token t object = has index_token_cmp (tokens_of_object t.tokenizer object) t

-- the value is at the lower end or above it; without an end every value is
abbrev pub is_from : Option Value → Value → Bool
is_from None value = true
is_from (Some low) value = is_le (value_cmp low value)

-- the value is at the upper end or below it; without an end every value is
abbrev pub is_up_to : Option Value → Value → Bool
is_up_to None value = true
is_up_to (Some high) value = is_le (value_cmp value high)

-- some token of the object by this tokenizer lies between the ends, both included
abbrev pub has_token_between : Tokenizer → Option Value → Option Value → Posting → Bool
has_token_between tokenizer low high object = list_any (λ t. is_from low t.value && is_up_to high t.value) (tokens_of_object tokenizer object)

-- the subjects that have an object with a token between the ends, ascending
abbrev pub by_token_range : List Triple → List ℕ → Tokenizer → Option Value → Option Value → List ℕ
by_token_range graph p tokenizer low high = subjects_where (has_token_between tokenizer low high) graph p

-- ---- by numbers

-- the nodes with exactly n objects, ascending
abbrev pub with_objects : List Triple → List ℕ → ℕ → List ℕ
with_objects graph p n = filter (λ s. length (objects graph p s) == n) (holders graph p)

-- the object is a node
abbrev pub is_node : Posting → Bool
is_node (Uid n) = true
is_node (Val value) = false

-- the nodes that exactly n subjects point to, ascending
abbrev pub with_subjects : List Triple → List ℕ → ℕ → List Posting
with_subjects graph p n = filter (λ o. is_node o && (length (subjects_of graph p o) == n)) (all_objects graph p)

-- the node that an object is, where it is one
abbrev pub node_in : Posting → Option ℕ
node_in (Uid n) = Some n
node_in (Val value) = None

-- the node that a triple of the predicate points to, where it points to one
abbrev pub pointed_by : List ℕ → Triple → Option ℕ
pointed_by p triple = if is_of p triple then node_in triple.o else None

-- the nodes that any subject points to, ascending
abbrev pub pointed_to : List Triple → List ℕ → List ℕ
pointed_to graph p = ascending nat_cmp (filter_map (pointed_by p) graph)

-- how many objects a node has, or how many subjects point to it where `reverse`
abbrev pub number_of : List Triple → List ℕ → Bool → ℕ → ℕ
number_of graph p reverse n = if reverse then length (subjects_of graph p (Uid n)) else length (objects graph p n)

-- a number is at or below the high end; an end that is None holds nothing back
abbrev pub is_number_up_to : Option ℕ → ℕ → Bool
is_number_up_to None number = true
is_number_up_to (Some high) number = nat_le number high

-- that number lies between the ends, both included
abbrev pub has_number : List Triple → List ℕ → Bool → ℕ → Option ℕ → ℕ → Bool
has_number graph p reverse low high n = nat_le low (number_of graph p reverse n) && is_number_up_to high (number_of graph p reverse n)

-- the nodes of which that number is at least 1, ascending
abbrev pub counted : List Triple → List ℕ → Bool → List ℕ
counted graph p reverse = if reverse then pointed_to graph p else holders graph p

-- those of them whose number lies between the ends
abbrev pub by_count : List Triple → List ℕ → Bool → ℕ → Option ℕ → List ℕ
by_count graph p reverse low high = filter (has_number graph p reverse low high) (counted graph p reverse)

-- Tests of objects, and what is asked for.
use Rattle.std.specs.Prelude.{ℕ, List, [], Bool, false, Option, map}
use Rattle.std.specs.Ordering.{nat_cmp, is_eq}
use Rattle.dg_values.specs.declared.value.Value.{Value}
use Rattle.dg_values.specs.declared.value.Value.TheVariants.{Text}
use Rattle.dg_values.specs.declared.value.Posting.{Posting}
use Rattle.dg_values.specs.declared.value.Posting.TheVariants.{Uid, Val}
use Rattle.dg_values.specs.Order.{text_cmp, posting_cmp}
use Rattle.dg_values.specs.Ascending.{ascending, has}
use Rattle.dg_tokens.specs.Terms.{terms_of}
use Rattle.dg_tokens.specs.declared.tokens.IndexToken.{IndexToken}
use Rattle.dg_parse.specs.declared.query.CmpOp.{CmpOp}
use Rattle.dg_parse.specs.declared.query.CmpOp.TheVariants as ops
use Rattle.dg_funcs.specs.Truth.{text_in, has_terms}

-- the object is a value at which the test holds
abbrev pub in_value : (Value → Bool) → Posting → Bool
in_value test (Uid n) = false
in_value test (Val v) = test v

-- the value is a text at which the test holds
abbrev pub of_text : (List ℕ → Bool) → Value → Bool
of_text test (Text t) = test t
of_text test v = false

-- the object is a text at which the test holds
abbrev pub in_text : (List ℕ → Bool) → Posting → Bool
in_text test object = in_value (of_text test) object

-- the object is this node
abbrev pub is_node : ℕ → Posting → Bool
is_node n object = is_eq (posting_cmp object (Uid n))

-- the object is one of these nodes
abbrev pub is_node_among : List ℕ → Posting → Bool
is_node_among nodes (Uid n) = has nat_cmp nodes n
is_node_among nodes (Val v) = false

-- these values as objects, ascending
abbrev pub as_objects : List Value → List Posting
as_objects values = ascending posting_cmp (map (λ v. Val v) values)

-- what `eq` asks for
abbrev pub asked_by : CmpOp → List Value → List Posting
asked_by ops.Eq values = as_objects values
asked_by op values = []

-- the text that a token is
abbrev pub token_text : IndexToken → Option (List ℕ)
token_text token = text_in token.value

-- the terms of a value; none where it is no text
abbrev pub value_terms : Value → List (List ℕ)
value_terms (Text t) = terms_of t
value_terms v = []

-- a text has the terms that are asked
abbrev pub has_asked : Bool → List (List ℕ) → List ℕ → Bool
has_asked all asked t = has_terms all asked (ascending text_cmp (terms_of t))

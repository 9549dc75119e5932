-- The order and the text of the keys by which commits conflict.
use Rattle.std.specs.Prelude.{ℕ, false, List, [], ◌∷◌, ◌++◌, Option, Some, None, codes}
use Rattle.std.specs.declared.cmp.Ordering.{Ordering}
use Rattle.std.specs.declared.cmp.Ordering.TheVariants.{Less, Equal, Greater}
use Rattle.std.specs.Ordering.{nat_cmp, ordering_then}
use Rattle.std.specs.Fmt.{signed_decimal, digits}
use Rattle.json.specs.Print.{quoted}
use Rattle.dg_values.specs.Order.{text_cmp, posting_cmp}
use Rattle.dg_values.specs.Printing.{truth_text, time_text}
use Rattle.dg_values.specs.declared.kind.Tokenizer.{Tokenizer}
use Rattle.dg_values.specs.declared.kind.Tokenizer.TheVariants as tokenizers
use Rattle.dg_values.specs.declared.value.Posting.{Posting}
use Rattle.dg_values.specs.declared.value.Posting.TheVariants as postings
use Rattle.dg_values.specs.declared.value.Value.{Value}
use Rattle.dg_values.specs.declared.value.Value.TheVariants as values
use Rattle.dg_keys.specs.declared.conflict.ConflictKey.{ConflictKey}
use Rattle.dg_keys.specs.declared.conflict.ConflictKey.TheVariants.{Data, Index, Count, RCount}
use Rattle.dg_tokens.specs.Orders.{index_token_cmp}

-- none before some
abbrev pub option_cmp : {X : Type 0} → (X → X → Ordering) → Option X → Option X → Ordering
option_cmp cmp None None = Equal
option_cmp cmp None (Some y) = Less
option_cmp cmp (Some x) None = Greater
option_cmp cmp (Some x) (Some y) = cmp x y

-- the place of a key's kind among the kinds
abbrev pub conflict_rank : ConflictKey → ℕ
conflict_rank (Data p s o) = 0
conflict_rank (Index p t s) = 1
conflict_rank (Count p s) = 2
conflict_rank (RCount p o) = 3

-- by kind, predicate, and token or node; a key without subject or object comes before those with one
abbrev pub conflict_cmp : ConflictKey → ConflictKey → Ordering
conflict_cmp (Data p s o) (Data q t r) = ordering_then (text_cmp p q) (ordering_then (nat_cmp s t) (option_cmp posting_cmp o r))
conflict_cmp (Index p t s) (Index q u r) = ordering_then (text_cmp p q) (ordering_then (index_token_cmp t u) (option_cmp nat_cmp s r))
conflict_cmp (Count p s) (Count q t) = ordering_then (text_cmp p q) (nat_cmp s t)
conflict_cmp (RCount p o) (RCount q r) = ordering_then (text_cmp p q) (nat_cmp o r)
conflict_cmp a b = nat_cmp (conflict_rank a) (conflict_rank b)

-- a node in lower-case hexadecimal digits
abbrev pub node_text : ℕ → List ℕ
node_text n = codes "0x" ++ digits 16 false n

-- the word for a tokenizer
abbrev pub tokenizer_text : Tokenizer → List ℕ
tokenizer_text tokenizers.Exact = codes "exact"
tokenizer_text tokenizers.Hash = codes "hash"
tokenizer_text tokenizers.Term = codes "term"
tokenizer_text tokenizers.Trigram = codes "trigram"
tokenizer_text tokenizers.Int = codes "int"
tokenizer_text tokenizers.Bool = codes "bool"
tokenizer_text tokenizers.Year = codes "year"
tokenizer_text tokenizers.Month = codes "month"
tokenizer_text tokenizers.Day = codes "day"
tokenizer_text tokenizers.Hour = codes "hour"

-- numbers and truth values as they print, texts and times as strings of JSON (RFC 8259, section 7)
abbrev pub key_value_text : Value → List ℕ
key_value_text (values.Int n) = signed_decimal n
key_value_text (values.Text text) = quoted text
key_value_text (values.Bool b) = truth_text b
key_value_text (values.Time moment) = quoted (time_text moment)

-- nodes as they print, and values
abbrev pub posting_text : Posting → List ℕ
posting_text (postings.Uid n) = node_text n
posting_text (postings.Val value) = key_value_text value

-- a blank and the text, where there is one
abbrev pub and_text : {X : Type 0} → (X → List ℕ) → Option X → List ℕ
and_text text None = []
and_text text (Some x) = 32 ∷ text x

-- the kind, the predicate and the rest, with a blank between any two
abbrev pub conflict_text : ConflictKey → List ℕ
conflict_text (Data p s o) = codes "data " ++ (p ++ (32 ∷ (node_text s ++ and_text posting_text o)))
conflict_text (Index p t s) = codes "index " ++ (p ++ (32 ∷ (tokenizer_text t.tokenizer ++ (32 ∷ (key_value_text t.value ++ and_text node_text s)))))
conflict_text (Count p s) = codes "count " ++ (p ++ (32 ∷ node_text s))
conflict_text (RCount p o) = codes "rcount " ++ (p ++ (32 ∷ node_text o))

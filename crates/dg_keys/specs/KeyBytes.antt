-- The bytes of keys.
use Rattle.std.specs.Prelude.{◌≡◌, ℕ, ◌<◌, ◌^◌, ◌==◌, List, [], ◌∷◌, ◌++◌, ℤ, Bool, true, false, IsUtf8}
use Rattle.std.specs.List.{list_any}
use Rattle.std.specs.Int.{w32, w64, to_be_bytes, cast_unsigned, from_bool}
use Rattle.std.specs.Int.Bits.{bit_xor}
use Rattle.std.specs.Int.RustNames.{FitsSigned}
use Rattle.dg_values.specs.declared.kind.Tokenizer.{Tokenizer}
use Rattle.dg_values.specs.declared.kind.Tokenizer.TheVariants as tokenizers
use Rattle.dg_values.specs.declared.value.Value.{Value}
use Rattle.dg_values.specs.declared.value.Value.TheVariants.{Int, Text, Bool as Truth, Time}
use Rattle.dg_values.specs.Instant.{IsInstant}
use Rattle.dg_values.specs.Order.{tokenizer_rank}
use Rattle.dg_tokens.specs.declared.tokens.IndexToken.{IndexToken}
use Rattle.dg_keys.specs.declared.key.Key.{Key}
use Rattle.dg_keys.specs.declared.key.Key.TheVariants.{Data, Index, Reverse, Count, RCount}
use Rattle.dg_keys.specs.Keys.{pred_of, kind_rank}

-- the 64 bits of an Int, of which the highest is flipped, so that they order as the numbers do
abbrev pub flipped : ℤ → ℕ
flipped n = bit_xor (cast_unsigned w64 n) (2 ^ 63)

-- the bytes of a value: numbers begin with their highest byte
abbrev pub value_bytes : Value → List ℕ
value_bytes (Int n) = to_be_bytes w64 (flipped n)
value_bytes (Text text) = text
value_bytes (Truth b) = from_bool b ∷ []
value_bytes (Time m) = to_be_bytes w64 (flipped m.secs) ++ to_be_bytes w32 m.nanos

-- a token's tokenizer and its value
abbrev pub token_bytes : IndexToken → List ℕ
token_bytes t = tokenizer_rank t.tokenizer ∷ value_bytes t.value

-- the node, number or token of a key
abbrev pub field_bytes : Key → List ℕ
field_bytes (Data p s) = to_be_bytes w64 s
field_bytes (Index p t) = token_bytes t
field_bytes (Reverse p o) = to_be_bytes w64 o
field_bytes (Count p n) = to_be_bytes w64 n
field_bytes (RCount p n) = to_be_bytes w64 n

-- the predicate, a zero byte, the kind, and then the node, number or token
abbrev pub key_bytes : Key → List ℕ
key_bytes key = pred_of key ++ 0 ∷ kind_rank key ∷ field_bytes key

-- a value of the kind that the tokenizer makes tokens of
abbrev pub is_of_kind : Tokenizer → Value → Bool
is_of_kind tokenizers.Exact (Text text) = true
is_of_kind tokenizers.Hash (Text text) = true
is_of_kind tokenizers.Term (Text text) = true
is_of_kind tokenizers.Trigram (Text text) = true
is_of_kind tokenizers.Int (Int n) = true
is_of_kind tokenizers.Bool (Truth b) = true
is_of_kind tokenizers.Year (Time m) = true
is_of_kind tokenizers.Month (Time m) = true
is_of_kind tokenizers.Day (Time m) = true
is_of_kind tokenizers.Hour (Time m) = true
is_of_kind tokenizer value = false

-- the value of the key's token, where it has one, is of its tokenizer's kind
abbrev pub has_kind : Key → Bool
has_kind (Index p t) = is_of_kind t.tokenizer t.value
has_kind key = true

-- one of the bytes is zero
abbrev pub has_zero : List ℕ → Bool
has_zero bytes = list_any (λ b. b == 0) bytes

-- a key whose bytes are no other's: no zero byte in its predicate, and a token of its tokenizer's kind
pub record IsPlain (key : Key) : Type 0 where
  pub pred : has_zero (pred_of key) ≡ false
  pub token : has_kind key ≡ true

-- what each value is, by its type
abbrev pub IsValue : Value → Type 0
IsValue (Int n) = FitsSigned w64 n
IsValue (Text text) = IsUtf8 text
IsValue (Truth b) = Unit {0}
IsValue (Time m) = IsInstant m

-- what the node, number or token of each key is, by its type
abbrev pub IsField : Key → Type 0
IsField (Data p s) = s < 2 ^ 64
IsField (Index p t) = IsValue t.value
IsField (Reverse p o) = o < 2 ^ 64
IsField (Count p n) = n < 2 ^ 64
IsField (RCount p n) = n < 2 ^ 64

-- a plain key; the last two are what each key is by its type
pub record IsKey (key : Key) : Type 0 where
  pub plain : IsPlain key
  pub text : IsUtf8 (pred_of key)
  pub field : IsField key

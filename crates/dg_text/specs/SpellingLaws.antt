-- That what is written of nodes, names, numbers and patterns are words, and reads back.
use Rattle.std.specs.Prelude.{◌≡◌, ℕ, ℤ, ◌^◌, ◌<◌, Bool, List, ◌∷◌, Option, Some, IsTrue, length, FitsSigned}
use Rattle.std.specs.Int.{w64}
use Rattle.dg_text.specs.Forms.{is_iri_byte, is_punct_byte, is_short}
use Rattle.dg_text.specs.Language.{AreSome, HasForm}
use Rattle.dg_text.specs.Patterns.{regex_meant}
use Rattle.dg_text.specs.Said.{uid_said, uid_meant, blank_name, int_meant}
use Rattle.dg_text.specs.Tokens.{Tok}
use Rattle.dg_text.specs.Words.{is_whole_name, predicate_meant}
use Rattle.dg_text.specs.Written.{Word, IsWord, word_said, tok_said}
use Rattle.dg_text.specs.Spelling.{uid_word, iri_word, iri_uid_word, blank_word, name_word, at_word, mark_word, caret_word, int_word, regex_word}
use Rattle.dg_text.specs.declared.token.TokenKind.TheVariants as kinds

-- each token that is what a word says reads as this
abbrev pub ReadsAs : {A : Type 0} → (Tok → A) → Word → A → Type 0
ReadsAs read w x = (t : Tok) → tok_said t ≡ word_said w → read t ≡ x

-- ---- nodes

-- the node that the characters of a token name
abbrev pub node_said : Tok → Option ℕ
node_said t = uid_said t.text

-- a node is a word as a Uid and as an Iri, and both name it
pub record NodeReadsBack (n : ℕ) : Type 0 where
  pub uid : IsWord (uid_word n)
  pub iri : IsWord (iri_uid_word n)
  pub uid_back : ReadsAs node_said (uid_word n) (Some n)
  pub iri_back : ReadsAs node_said (iri_uid_word n) (Some n)
  pub uid_means : ReadsAs uid_meant (uid_word n) (Some n)

-- each node of 64 bits but 0 reads back
abbrev pub NodesReadBack : Type 0
NodesReadBack = (n : ℕ) → 0 < n → n < 2 ^ 64 → NodeReadsBack n

-- what a text names as a node is one of 64 bits, and not 0
abbrev pub NodesAreBounded : Type 0
NodesAreBounded = (text : List ℕ) (n : ℕ) → uid_said text ≡ Some n → (0 < n) × (n < 2 ^ 64)

-- ---- names

-- the characters of a written Iri are those between < and >
abbrev pub IrisSayTheirText : Type 0
IrisSayTheirText = (text : List ℕ) → word_said (iri_word text) ≡ (kinds.Iri, text)

-- bytes of an Iri are a word between < and >
abbrev pub IrisAreWords : Type 0
IrisAreWords = (text : List ℕ) → AreSome is_iri_byte text → IsWord (iri_word text)

-- a whole name is a word as a Name, as an Iri and behind @, and stands for itself as a predicate
pub record NameReadsBack (name : List ℕ) : Type 0 where
  pub plain : IsWord (name_word name)
  pub iri : IsWord (iri_word name)
  pub directive : IsWord (at_word (64 ∷ name))
  pub plain_back : ReadsAs predicate_meant (name_word name) (Some name)
  pub iri_back : ReadsAs predicate_meant (iri_word name) (Some name)

-- each whole name reads back
abbrev pub NamesReadBack : Type 0
NamesReadBack = (name : List ℕ) → IsTrue (is_whole_name name) → NameReadsBack name

-- the characters of each Name that isn't too long are a whole name
abbrev pub NamesAreWhole : Type 0
NamesAreWhole = (text : List ℕ) → HasForm kinds.Name text → IsTrue (is_short kinds.Name (length text)) → IsTrue (is_whole_name text)

-- the name that the characters of a token give a Blank
abbrev pub blank_said : Tok → Option (List ℕ)
blank_said t = blank_name t.text

-- the name of a Blank is a word again, which has this name
pub record BlankReadsBack (name : List ℕ) : Type 0 where
  pub word : IsWord (blank_word name)
  pub back : ReadsAs blank_said (blank_word name) (Some name)

-- the name of each Blank reads back
abbrev pub BlanksReadBack : Type 0
BlanksReadBack = (t : Tok) (name : List ℕ) → t.kind ≡ kinds.Blank → HasForm kinds.Blank t.text → IsTrue (is_short kinds.Blank (length t.text)) → blank_name t.text ≡ Some name → BlankReadsBack name

-- each sign that stands alone is a word
abbrev pub SignsAreWords : Type 0
SignsAreWords = ((b : ℕ) → IsTrue (is_punct_byte b) → IsWord (mark_word b)) × IsWord caret_word

-- ---- numbers

-- a number is a word, which means it
pub record NumberReadsBack (z : ℤ) : Type 0 where
  pub word : IsWord (int_word z)
  pub back : ReadsAs int_meant (int_word z) (Some z)

-- each number of 64 bits with a sign reads back
abbrev pub NumbersReadBack : Type 0
NumbersReadBack = (z : ℤ) → FitsSigned w64 z → NumberReadsBack z

-- what an Int means is such a number
abbrev pub NumbersAreBounded : Type 0
NumbersAreBounded = (t : Tok) (z : ℤ) → int_meant t ≡ Some z → FitsSigned w64 z

-- ---- patterns

-- a pattern with its flag is a word, which means them
pub record PatternReadsBack (pattern : List ℕ) (i : Bool) : Type 0 where
  pub word : IsWord (regex_word pattern i)
  pub back : ReadsAs regex_meant (regex_word pattern i) (Some (pattern, i))

-- what each Regex means reads back
abbrev pub PatternsReadBack : Type 0
PatternsReadBack = (t : Tok) (pattern : List ℕ) (i : Bool) → t.kind ≡ kinds.Regex → HasForm kinds.Regex t.text → regex_meant t ≡ Some (pattern, i) → PatternReadsBack pattern i

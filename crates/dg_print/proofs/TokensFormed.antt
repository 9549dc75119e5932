-- The tokens of a text can be written again, and words that are written are read as tokens.
use Rattle.std.proofs.Common.{◌≡◌, ℕ, zero, suc, Bool, true, false, List, [], ◌∷◌, map, refl}
use Rattle.std.specs.Prelude.{ℤ, Option, Some, None, Ok, if◌then◌else◌}
use Rattle.std.specs.List.{slice_range}
use Rattle.std.proofs.lemmas.Bool.{false≢true}
use Rattle.dg_text.specs.Lexing.{lexed}
use Rattle.dg_text.specs.Patterns.{regex_meant}
use Rattle.dg_text.specs.Quoting.{quoted_word}
use Rattle.dg_text.specs.Said.{quoted_meant, int_meant, uid_meant, uid_said}
use Rattle.dg_text.specs.Spelling.{uid_word, name_word, int_word, regex_word}
use Rattle.dg_text.specs.Tokens.{Tok, is_name, is_blank, is_uid, tok_of, toks_of}
use Rattle.dg_text.specs.Written.{Word, IsWord, word_said, tok_said}
use Rattle.dg_text.specs.declared.token.Token.{Token}
use Rattle.dg_text.specs.declared.token.TokenKind.{TokenKind}
use Rattle.dg_text.specs.declared.token.TokenKind.TheVariants as kinds
use Rattle.dg_text.proofs.NodeSpelling.{nodes_read_back, nodes_are_bounded}
use Rattle.dg_text.proofs.NumberSpelling.{numbers_read_back, numbers_are_bounded}
use Rattle.dg_text.proofs.PatternSpelling.{patterns_read_back}
use Rattle.dg_text.proofs.Quotes.{quotes_are_words, quotes_mean_texts}
use Rattle.dg_nquad.proofs.TokensSay.{all_tokens}
use Rattle.dg_print.proofs.Again.{on, tok_from}
use Rattle.dg_print.proofs.Formed.{IsSpelled, IsFormed, AreFormed}

number_spelled : (t : Tok) (z : ℤ) → int_meant t ≡ Some z → IsSpelled int_meant (int_word z) z
number_spelled t z e =
    let b = numbers_read_back z (numbers_are_bounded t z e) in
    record { word = b.word; reads = λ start. b.back (record { kind = kinds.Int; text = (int_word z).1; start = start }) refl }

node_spelled : (t : Tok) (n : ℕ) → uid_meant t ≡ Some n → IsSpelled uid_meant (uid_word n) n
node_spelled t n e =
    let named = nodes_are_bounded t.text n (said (is_uid t) refl e) in
    let b = nodes_read_back n named.0 named.1 in
    record { word = b.uid; reads = λ start. b.uid_means (record { kind = kinds.Uid; text = (uid_word n).1; start = start }) refl }
  where
    said : (b : Bool) → is_uid t ≡ b → (if b then uid_said t.text else None) ≡ Some n → uid_said t.text ≡ Some n
    said true k e = e
    said false k e = absurd (cc)

text_spelled : (x : List ℕ) → IsSpelled quoted_meant (quoted_word x) x
text_spelled x = record { word = quotes_are_words x; reads = λ start. quotes_mean_texts x (record { kind = kinds.Quoted; text = (quoted_word x).1; start = start }) refl }

formed : (t : Tok) → (is_name t ≡ true → IsWord (name_word t.text)) → (is_blank t ≡ true → IsWord (kinds.Blank, t.text)) → ((r : List ℕ × Bool) → regex_meant t ≡ Some r → IsSpelled regex_meant (regex_word r.0 r.1) r) → IsFormed t
formed t name blank pattern = record { blank = blank; name = name; number = number_spelled t; node = node_spelled t; pattern = pattern; text = text_spelled }

token_formed : (text : List ℕ) (t : Token) → IsWord (t.kind, slice_range text t.start t.end) → IsFormed (tok_of text t)
token_formed text t w = by t.kind w
  where
    no_name : {A : Type 0} → false ≡ true → A
    no_name h = absurd (false≢true h)

    no_regex : (r : List ℕ × Bool) → ◌≡◌ {A = Option (List ℕ × Bool)} None (Some r) → IsSpelled regex_meant (regex_word r.0 r.1) r
    no_regex r e = absurd (cc)

    by : (kind : TokenKind) → IsWord (kind, slice_range text t.start t.end) → IsFormed (tok_of text (record t { kind = kind }))
    by kinds.Name w = formed (tok_of text (record t { kind = kinds.Name })) (λ h. w) no_name no_regex
    by kinds.Int w = formed (tok_of text (record t { kind = kinds.Int })) no_name no_name no_regex
    by kinds.Uid w = formed (tok_of text (record t { kind = kinds.Uid })) no_name no_name no_regex
    by kinds.Quoted w = formed (tok_of text (record t { kind = kinds.Quoted })) no_name no_name no_regex
    by kinds.Iri w = formed (tok_of text (record t { kind = kinds.Iri })) no_name no_name no_regex
    by kinds.Blank w = formed (tok_of text (record t { kind = kinds.Blank })) no_name (λ h. w) no_regex
    by kinds.At w = formed (tok_of text (record t { kind = kinds.At })) no_name no_name no_regex
    by kinds.Regex w =
        formed (tok_of text (record t { kind = kinds.Regex })) no_name no_name
        (λ r e.
        let b = patterns_read_back (tok_of text (record t { kind = kinds.Regex })) r.0 r.1 refl w.form e in
        record { word = b.word; reads = λ start. b.back (record { kind = kinds.Regex; text = (regex_word r.0 r.1).1; start = start }) refl })
    by kinds.Caret w = formed (tok_of text (record t { kind = kinds.Caret })) no_name no_name no_regex
    by (kinds.Punct b) w = formed (tok_of text (record t { kind = kinds.Punct b })) no_name no_name no_regex

-- the tokens of a text
pub tokens_formed : (text : List ℕ) (tokens : List Token) → lexed text ≡ Ok tokens → AreFormed (toks_of text tokens)
tokens_formed text tokens e = all_tokens (λ t. IsFormed t) token_formed text tokens e

-- ---- tokens that say words

-- where tokens start
starts : List Tok → ℕ → ℕ
starts [] n = 0
starts (t ∷ ts) zero = t.start
starts (t ∷ ts) (suc n) = starts ts n

pub record Says (tokens : List Tok) (ws : List Word) : Type 0 where
  pub places : ℕ → ℕ
  pub are : tokens ≡ on places ws []

first_said : (t : Tok) (ts : List Tok) (w : Word) (ws : List Word) → map tok_said (t ∷ ts) ≡ map word_said (w ∷ ws) → (tok_said t ≡ word_said w) × (map tok_said ts ≡ map word_said ws)
first_said t ts w ws e = (cc, cc)

said_on : (tokens : List Tok) (ws : List Word) → map tok_said tokens ≡ map word_said ws → tokens ≡ on (starts tokens) ws []
unfolding starts
said_on [] [] e = refl
said_on [] (w ∷ ws) e = absurd (cc)
said_on (t ∷ ts) [] e = absurd (cc)
said_on (t ∷ ts) (w ∷ ws) e =
    let f = first_said t ts w ws e in
    let one : tok_said t ≡ word_said w = f.0 in
    let here : t ≡ tok_from t.start w = (λ i. record { kind = (one i).0; text = (one i).1; start = t.start }) in
    let more : ts ≡ on (starts ts) ws [] = said_on ts ws f.1 in
    λ i. here i ∷ more i

-- tokens that say words are these words
pub says : (tokens : List Tok) (ws : List Word) → map tok_said tokens ≡ map word_said ws → Says tokens ws
says tokens ws e = record { places = starts tokens; are = said_on tokens ws e }

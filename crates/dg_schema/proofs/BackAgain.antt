-- The text of definitions reads as these definitions, in ascending order of their names.
use Rattle.std.proofs.Common.{◌≡◌, ℕ, ◌-◌, true, false, ◌==◌, List, [], ◌∷◌, Ok, length, refl, ap, sym, subst, ◌∙◌, arith}
use Rattle.std.specs.Prelude.{map}
use Rattle.std.specs.List.{AllByRecursion}
use Rattle.std.specs.Ordering.{is_eq}
use Rattle.std.specs.declared.cmp.Ordering.TheVariants.{Less}
use Rattle.std.proofs.lemmas.Bool.{eq-eqb}
use Rattle.dg_values.specs.Order.{text_cmp}
use Rattle.dg_values.specs.Ascending.{Ascends}
use Rattle.dg_sets.proofs.MadeOrders.{text_order}
use Rattle.dg_sets.proofs.Sets.{ascends_more, back}
use Rattle.dg_text.specs.declared.token.Token.{Token}
use Rattle.dg_text.specs.Tokens.{Tok, toks_of}
use Rattle.dg_text.specs.Lexing.{front, skip_gap}
use Rattle.dg_schema.specs.declared.definition.PredDef.{PredDef}
use Rattle.dg_schema.specs.Definitions.{AreDistinct, is_named}
use Rattle.dg_schema.specs.Grammar.{statements}
use Rattle.dg_schema.specs.Laws.{names}
use Rattle.dg_schema.specs.Readable.{IsReadable, AreReadable, ReadsBack}
use Rattle.dg_schema.specs.Texts.{by_name, schema_text}
use Rattle.dg_schema.specs.Whole.{schema, from_front, outcome}
use Rattle.dg_schema.proofs.NameOrder.{names_by_name, all_by_name}
use Rattle.dg_schema.proofs.Saying.{Say, Says, past, say_of, lines_say, lines_lex}
use Rattle.dg_schema.proofs.Understood.{spread, spread_is, length_spread, lines_read}

-- what ascends by name has distinct names
others_named : (x : PredDef) (more : List PredDef) → AllByRecursion (λ name. text_cmp x.name name ≡ Less) (names more) → AllByRecursion (λ other. is_named x.name other ≡ false) more
others_named x [] a = tt
others_named x (d ∷ more) a = (ap is_eq (back text_cmp text_order x.name d.name a.0), others_named x more a.1)

distinct_names : (definitions : List PredDef) → Ascends text_cmp (names definitions) → AreDistinct definitions
distinct_names [] a = tt
distinct_names (d ∷ more) a = (others_named d more a.0, distinct_names more a.1)

pub distinct_by_name : (definitions : List PredDef) → AreDistinct (by_name definitions)
distinct_by_name definitions = distinct_names (by_name definitions) (subst (λ (ns : List (List ℕ)). Ascends text_cmp ns) (sym (names_by_name definitions)) (ascends_more text_cmp text_order [] (names definitions) tt))

-- tokens that say the lines of definitions are read as these
said_read : (definitions : List PredDef) (ts : List Tok) → AreReadable definitions → AreDistinct definitions → map say_of ts ≡ lines_say definitions → statements ts ≡ Ok (definitions, [])
said_read definitions ts r a e =
    let starts : List ℕ = map (λ t. t.start) ts in
    let same : ts ≡ spread starts (lines_say definitions) = spread_is ts ∙ ap (spread starts) e in
    let all : List Tok = spread starts (lines_say definitions) in
    ap statements same ∙ lines_read (length all) starts [] definitions (omega (arith, length_spread starts (lines_say definitions))) r a

-- where the tokens of a text end with it, its schema is what they say
pub whole_read : (text : List ℕ) (tokens : List Token) (definitions : List PredDef) → front text ≡ Ok (tokens, []) → statements (toks_of text tokens) ≡ Ok (definitions, []) → schema text ≡ Ok definitions
whole_read text tokens definitions f s =
    let end : length text - 0 ≡ length text = omega arith in
    let here : (length text == length text) ≡ true = eq-eqb (length text) (length text) refl in
    ap (from_front text) f ∙ ap (outcome text (toks_of text tokens) (length text - 0)) s ∙ rw (end, here) refl

front_read : (text : List ℕ) (says : List Say) → (s : Says text (past text) says) → front text ≡ Ok (s.found, [])
unfolding front skip_gap
front_read text says s = s.runs (length (past text)) [] s.short

pub reads_back : ReadsBack
reads_back definitions r =
    let sorted : List PredDef = by_name definitions in
    let readable : AreReadable sorted = all_by_name IsReadable definitions r in
    let says : Says (schema_text definitions) (past (schema_text definitions)) (lines_say sorted) = lines_lex (schema_text definitions) sorted readable [] refl in
    whole_read (schema_text definitions) says.found sorted (front_read (schema_text definitions) (lines_say sorted) says) (said_read sorted (toks_of (schema_text definitions) says.found) readable (distinct_by_name definitions) says.said)

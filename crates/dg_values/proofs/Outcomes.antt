-- What the scan finds, as the answer of reading.
use Rattle.std.proofs.Common.{◌≡◌, ℕ, List, refl, sym, subst}
use Rattle.std.specs.Prelude.{Option, Some, None, Result, Err, ◌↔◌, IfOk}
use Rattle.std.specs.Prelude.{◌⊎◌}
use Rattle.std.proofs.Common.{inl, inr}
use Rattle.std.specs.Option.{ok_or}
use Rattle.dg_values.specs.declared.kind.Kind.TheVariants as kinds
use Rattle.dg_values.specs.declared.value.Value.TheVariants.{Text}
use Rattle.dg_values.specs.declared.kind.Kind.{Kind}
use Rattle.dg_values.specs.declared.value.Value.{Value}
use Rattle.dg_values.specs.declared.reading.ValueFault.{ValueFault}
use Rattle.dg_values.specs.declared.reading.ValueFault.TheVariants.{BadLiteral}
use Rattle.dg_values.specs.Reading.{Reads}
use Rattle.dg_values.specs.Scanning.{value_of_text}
use Rattle.dg_values.proofs.Readings.{scanned_reads, none_reads}

-- the answer where the scan found this
answer : Option Value → Result Value ValueFault
answer o = ok_or o BadLiteral

-- an answer that reads the text, and is BadLiteral exactly where nothing does
pub record IsReading (kind : Kind) (text : List ℕ) (r : Result Value ValueFault) : Type 0 where
  pub value : IfOk r (λ v. Reads kind text v)
  pub bad : (r ≡ Err BadLiteral) ↔ ((v : Value) → ¬ Reads kind text v)

by_scan : (kind : Kind) (text : List ℕ) (o : Option Value) → value_of_text kind text ≡ o → IsReading kind text (answer o)
unfolding answer
by_scan kind text (Some v) e = record { value = scanned_reads kind text v e; bad = (λ h. cc, λ none. absurd (none v (scanned_reads kind text v e))) }
by_scan kind text None e = record { value = tt; bad = (λ h. (none_reads kind text).0 e, λ none. refl) }

pub scanned : (kind same : Kind) (text : List ℕ) (r : Result Value ValueFault) → kind ≡ same → r ≡ ok_or (value_of_text same text) BadLiteral → IsReading kind text r
unfolding answer
scanned kind same text r e h = subst (λ (k : Kind). IsReading k text r) (sym e) (subst (λ (s : Result Value ValueFault). IsReading same text s) (sym h) (by_scan same text (value_of_text same text) refl))

-- every text reads as a text
pub text_reads : (kind : Kind) (text : List ℕ) → (kind ≡ kinds.Default) ⊎ (kind ≡ kinds.Text) → Reads kind text (Text text)
text_reads kind text (inl e) = subst (λ (k : Kind). Reads k text (Text text)) (sym e) refl
text_reads kind text (inr e) = subst (λ (k : Kind). Reads k text (Text text)) (sym e) refl

-- so an answer that isn't BadLiteral is never wrong about there being none
pub not_bad : (kind : Kind) (text : List ℕ) (r : Result Value ValueFault) → (kind ≡ kinds.Default) ⊎ (kind ≡ kinds.Text) → (r ≡ Err BadLiteral → ⊥)
    → (r ≡ Err BadLiteral) ↔ ((v : Value) → ¬ Reads kind text v)
not_bad kind text r e n = (λ h. absurd (n h), λ none. absurd (none (Text text) (text_reads kind text e)))

-- Names are texts, and what comes of a body that is one.
use Rattle.std.proofs.Common.{◌≡◌, ℕ, true, false, not, List, length, refl, ap, sym, ◌∙◌, arith}
use Rattle.std.specs.Prelude.{◌==◌}
use Rattle.std.specs.Str.{IsUtf8}
use Rattle.std.specs.Str.Lossy.{utf8_valid_len}
use Rattle.std.proofs.lemmas.Grind.{common_steps}
use Rattle.std.proofs.lemmas.Str.{utf8_valid_len-IsUtf8}
use Rattle.dg_schema.specs.Whole.{schema}
use Rattle.dg_wire.specs.declared.refusal.Refusal.TheVariants as refusals
use Rattle.dg_wire.specs.declared.reply.Reply.{Reply}
use Rattle.dg_wire.specs.declared.reply.Reply.TheVariants as replies
use Rattle.dg_node.specs.Alters.{alters, altered_by}
use Rattle.dg_node.specs.Machine.{Machine}
use Rattle.dg_node.specs.Texts.{by_text}

-- ---- a body that is a text

-- what is said of it comes of it
said_of : (m : Machine) (body : List ℕ) (said : Reply × Machine) → IsUtf8 body → by_text m body said ≡ said
said_of m body said u =
    let whole : (utf8_valid_len body == length body) ≡ true = let e : utf8_valid_len body ≡ length body = utf8_valid_len-IsUtf8 body u in grind (arith, common_steps) in
    rw whole refl

-- so an alter is one by the text
pub alters_said : (m : Machine) (body text : List ℕ) → (text ≡ body) × IsUtf8 body → alters m body ≡ altered_by m (schema text)
alters_said m body text is = said_of m body (altered_by m (schema body)) is.1 ∙ ap (λ (l : List ℕ). altered_by m (schema l)) (sym is.0)

-- and one of a body that is none is refused
pub alters_unread : (m : Machine) (body : List ℕ) (k : ℕ) → utf8_valid_len body ≡ k → (utf8_valid_len body == length body) ≡ false → ◌≡◌ {A = Reply × Machine} (alters m body) (replies.Refused (refusals.BadToken k), m)
alters_unread m body k at part = rw part (ap (λ (n : ℕ). (replies.Refused (refusals.BadToken n), m)) at)

use Rattle.std.proofs.Common.{◌≡◌, ℕ, ◌∷◌, ◌++◌, [], List, false, length, rules, subst, sym, ◌∙◌}
use Rattle.std.specs.BTreeMap.{insert_entry}
use Rattle.dg_values.specs.Order.{text_cmp}
use Rattle.dg_schema.specs.declared.definition.PredDef.{PredDef}
use Rattle.dg_schema.specs.Definitions.{is_declared}
use Rattle.dg_schema.specs.Places.{AreKept}
use Rattle.dg_schema.proofs.Drafts.{kept_with}
use Rattle.dg_schema.proofs.draft.Draft.add.Goals as goal

pub invariant_of-self-2 : goal.invariant_of-self-2
invariant_of-self-2 c =
    let definitions : List PredDef = c.self.inside.definitions.items in
    let entries : List (List ℕ × ℕ) = c.self.inside.places.entries in
    let name : List ℕ = c.args.definition.name in
    let missing : is_declared definitions name ≡ false = subst (λ (schema : List PredDef). is_declared schema name ≡ false) (sym c.self.view_is) c.requires.missing in
    let pushed : definitions ++ c.args.definition ∷ [] ≡ c.push_reserved.new.self.items = search rules in
    let called : c.in_ok-name.name ≡ name = c.in_ok-name.ensures in
    let place : c.len-place.result ≡ length definitions = search rules in
    let put : c.insert.new.self.entries ≡ insert_entry text_cmp entries name (length definitions) =
    c.in_ok-insert.ensures.entries ∙ (λ i. insert_entry text_cmp entries (called i) (place i)) in
    subst (λ (all : List PredDef). AreKept all c.insert.new.self.entries) pushed
    (subst (λ (more : List (List ℕ × ℕ)). AreKept (definitions ++ c.args.definition ∷ []) more) (sym put) (kept_with definitions entries c.args.definition c.self.invariant missing))

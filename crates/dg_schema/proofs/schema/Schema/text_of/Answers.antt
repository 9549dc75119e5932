use Rattle.std.proofs.Common.{◌≡◌, ◌∙◌, List, ℕ, [], ap, subst, rules}
use Rattle.std.specs.Prelude.{flat_map, slice_get, string_bytes}
use Rattle.std.specs.Option.{option_map_or}
use Rattle.dg_schema.specs.declared.definition.PredDef.{PredDef}
use Rattle.dg_schema.specs.Readable.{AreReadable}
use Rattle.dg_schema.specs.Texts.{definition_text, schema_text}
use Rattle.dg_schema.specs.Whole.{schema}
use Rattle.dg_schema.proofs.BackAgain.{reads_back}
use Rattle.dg_schema.proofs.NameOrder.{text_in_order}
use Rattle.dg_schema.proofs.schema.Schema.text_of.Goals as goal

pub returns : goal.returns
returns c =
    let definitions : List PredDef = c.self.inside.definitions.items in
    let places : List ℕ = c.self.inside.by_name.items in
    let printed : string_bytes c.into_string.result ≡ flat_map (λ place. option_map_or definition_text (slice_get definitions place) []) places = search rules in
    let written : string_bytes c.into_string.result ≡ schema_text c.args.self.now = printed ∙ text_in_order definitions places c.self.invariant.indexed ∙ ap schema_text c.self.view_is in
    let readable : AreReadable c.args.self.now = subst AreReadable c.self.view_is c.self.invariant.readable in
    record { text = written; back = ap schema written ∙ reads_back c.args.self.now readable }

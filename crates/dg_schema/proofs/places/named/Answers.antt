use Rattle.std.proofs.Common.{◌≡◌, ◌∙◌, None, Some, rules, sym}
use Rattle.std.specs.Prelude.{option_copied, slice_get}
use Rattle.dg_schema.proofs.ByName.{found_at, none_behind, none_nowhere, none_there}
use Rattle.dg_schema.proofs.places.named.Goals as goal

pub returns-in_err-place : goal.returns-in_err-place
returns-in_err-place c =
    let past : slice_get c.args.places.now c.below.result ≡ None = search rules in
    let none = none_behind c.args.definitions.now c.args.places.now c.args.name.now c.below.result c.requires.indexed c.below.ensures.within c.below.ensures.point past in
    let given : option_copied c.from_residual.result ≡ None = search rules in
    given ∙ sym none

pub returns-in_err-definition : goal.returns-in_err-definition
returns-in_err-definition c =
    let place : slice_get c.args.places.now c.below.result ≡ Some c.in_ok-place.place = sym c.place_at.ensures ∙ c.in_ok-place.was in
    let past : slice_get c.args.definitions.now c.in_ok-place.place ≡ None = search rules in
    absurd (none_nowhere c.args.definitions.now c.args.places.now c.below.result c.in_ok-place.place c.requires.indexed place past)

pub returns-then-is_named : goal.returns-then-is_named
returns-then-is_named c =
    let there = sym (rw c.in_ok-definition.was at c.definition_at.ensures) in
    sym (found_at c.args.definitions.now c.in_ok-place.place c.in_ok-definition.definition.now c.args.name.now c.requires.indexed.distinct there (sym c.is_named.ensures ∙ c.if-is_named.true))

pub returns-else-is_named : goal.returns-else-is_named
returns-else-is_named c =
    let place = sym c.place_at.ensures ∙ c.in_ok-place.was in
    let there = sym (rw c.in_ok-definition.was at c.definition_at.ensures) in
    sym (none_there c.args.definitions.now c.args.places.now c.args.name.now c.below.result c.in_ok-place.place c.in_ok-definition.definition.now c.requires.indexed c.below.ensures.within c.below.ensures.point place there (sym c.is_named.ensures ∙ c.if-is_named.false))

use Rattle.std.proofs.Common.{◌<◌, length, ap, ◌∙◌, arith}
use Rattle.dg_level.specs.declared.looped.Fetched.{Fetched}
use Rattle.dg_level.proofs.PlaceLaws.{field_there, field_at, leads_nowhere, leads_there}
use Rattle.dg_level.proofs.placing.list_of.Goals as goal

pub returns-then-field-all : goal.returns-then-field-all
returns-then-field-all c = λ graph vars nodes pieces piece node are there at.
    let within : c.args.field < length c.args.all.now = field_there graph vars nodes c.args.all.now pieces c.args.field piece are there in
    absurd (omega (arith, within, c.if-field-all.true))

pub returns-in-None : goal.returns-in-None
returns-in-None c = λ graph vars nodes pieces piece node are there at.
    let fetched = c.index-all-field.result in
    let is = field_at graph vars nodes c.args.all.now pieces c.args.field fetched piece are there c.index-all-field.is in
    leads_nowhere graph vars nodes fetched piece is node (ap (λ (f : Fetched). f.lists) c.index-all-field.is ∙ c.in-None.is)

pub returns-in-Some : goal.returns-in-Some
returns-in-Some c = λ graph vars nodes pieces piece node are there at.
    let fetched = c.index-all-field.result in
    let is = field_at graph vars nodes c.args.all.now pieces c.args.field fetched piece are there c.index-all-field.is in
    let leads = leads_there graph vars nodes fetched piece is node c.in-Some.lists (ap (λ (f : Fetched). f.lists) c.index-all-field.is ∙ c.in-Some.is) in
    c.list_at.ensures leads.0 nodes node (c.as_slice.ensures.value ∙ leads.1) at ∙ leads.2

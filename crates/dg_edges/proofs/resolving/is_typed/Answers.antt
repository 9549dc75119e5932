use Rattle.std.proofs.Common.{refl, subst, sym}
use Rattle.std.specs.Prelude.{Option}
use Rattle.dg_values.specs.declared.kind.Kind.{Kind}
use Rattle.dg_edges.specs.Resolving.{IsTyped}
use Rattle.dg_edges.proofs.ResolveLaws.{text_typed}
use Rattle.dg_edges.proofs.resolving.is_typed.Goals as goal

pub returns-then-is_text : goal.returns-then-is_text
returns-then-is_text c =
    (λ h. subst (λ (tag : Option Kind). IsTyped tag c.args.text.now) (sym c.in-Some.is) (text_typed c.in-Some.kind c.args.text.now (c.if-is_text.ensures.0 refl)), λ h. c.if-is_text.true)

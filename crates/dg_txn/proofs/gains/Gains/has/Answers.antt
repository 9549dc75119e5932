use Rattle.std.proofs.Common.{◌≡◌, ◌∙◌, ap, refl, Bor}
use Rattle.std.specs.declared.sync.Arc.{Arc}
use Rattle.std.specs.declared.alloc.Global.{Global}
use Rattle.std.specs.Prelude.{Option, Some, None, is_some, option_copied}
use Rattle.std.specs.Arc.{arc_value}
use Rattle.std.specs.Option.{option_map}
use Rattle.dg_pages.specs.Paged.{joined}
use Rattle.dg_txn.proofs.StandingKeys.{gained_has}
use Rattle.dg_txn.proofs.gains.Gains.has.Goals as goal

of : {X : Type 0} (o : Option (Bor (Arc X Global))) → is_some o ≡ is_some (option_map arc_value (option_copied o))
of None = refl
of (Some x) = refl

pub returns : goal.returns
returns c =
    c.is_some.ensures ∙ of c.get.result ∙ ap is_some c.get.ensures ∙ gained_has c.args.key.now (joined c.self.inside.lists) c.args.self.now c.self.view_is

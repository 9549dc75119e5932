use Rattle.std.proofs.Common.{sym, ◌∙◌}
use Rattle.std.proofs.lemmas.Bool.{false≢true}
use Rattle.dg_wire.proofs.FrameCuts.{no_line, none_whole, cut_line}
use Rattle.dg_wire.proofs.frame.within_line.Goals as goal

pub returns-then-branch : goal.returns-then-branch
returns-then-branch c = (cut_line c.args.bytes.now (c.in_ok-begins_line.ensures.0 c.if-branch.true), none_whole c.args.bytes.now c.requires)

pub returns-else-branch : goal.returns-else-branch
returns-else-branch c = no_line c.args.bytes.now c.requires (λ begins. false≢true (sym c.if-branch.false ∙ c.in_ok-begins_line.ensures.1 begins))

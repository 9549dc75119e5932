use Rattle.std.proofs.Common.{◌≡◌, take, false}
use Rattle.std.specs.List.{list_any}
use Rattle.dg_funcs.specs.Tests.{in_text, has_asked}
use Rattle.dg_funcs.proofs.terms.any_has.Given as goal

-- none so far
abbrev pub invariant-loop-object : goal.invariant-loop-object
invariant-loop-object l = list_any (in_text (has_asked l.all l.asked)) (take l.object-index l.objects) ≡ false

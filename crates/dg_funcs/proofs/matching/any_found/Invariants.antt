use Rattle.std.proofs.Common.{◌≡◌, take, false}
use Rattle.std.specs.List.{list_any}
use Rattle.regex.specs.Strings.{matcher_pattern}
use Rattle.dg_funcs.specs.Tests.{in_text}
use Rattle.dg_funcs.specs.Truth.{found_in}
use Rattle.dg_funcs.proofs.matching.any_found.Given as goal

-- none so far, by the same pattern
abbrev pub invariant-loop-object : goal.invariant-loop-object
invariant-loop-object l =
    (list_any (in_text (found_in (matcher_pattern l.initial.matcher))) (take l.object-index l.objects) ≡ false) × (matcher_pattern l.matcher ≡ matcher_pattern l.initial.matcher)

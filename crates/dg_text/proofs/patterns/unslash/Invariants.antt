use Rattle.std.proofs.Common.{◌≡◌, ◌≤◌, ◌+◌, ◌++◌, length}
use denote.Shadow.{shadow}
use denote.Text.{Utf8}
use Rattle.dg_text.specs.Patterns.{unslashed}
use Rattle.dg_text.proofs.patterns.unslash.Given as goal

abbrev pub invariant-loop : goal.invariant-loop
invariant-loop l = shadow (Utf8 l.rest) × (l.out ++ unslashed l.rest ≡ unslashed l.fn.text) × (length l.rest + l.counter ≤ length l.fn.text)

use Rattle.std.proofs.Common.{◌≡◌, ◌++◌, ◌≤◌, drop, string_bytes}
use Rattle.std.specs.Str.{IsCharBoundary}
use Rattle.dg_text.specs.Escapes.{unescaped}
use Rattle.dg_text.proofs.escapes.unquoted.Given as goal

abbrev pub invariant-loop : goal.invariant-loop
invariant-loop l = record {
  so_far : string_bytes l.out ++ unescaped (drop l.at l.text) ≡ unescaped l.text;
  turn : l.counter ≤ l.at;
  cut : IsCharBoundary l.text l.at;
}

-- A source and a sink in memory.
use Rattle.std.specs.Prelude.{ℕ, List, Contains}
use Rattle.dg_io.specs.Causes.{next_count}

-- a source: the bytes left, the numbers of the calls that fail, the most bytes a call, the calls and the faults so far
pub record SourceState : Type 0 where
  pub left : List ℕ
  pub failing : List ℕ
  pub most : ℕ
  pub calls : ℕ
  pub faults : ℕ

-- a sink: the bytes held, the numbers of the calls that fail, the most bytes a call, the calls and the faults so far
pub record SinkState : Type 0 where
  pub held : List ℕ
  pub failing : List ℕ
  pub most : ℕ
  pub calls : ℕ
  pub faults : ℕ

-- after so many calls, the next one is among those that fail; calls count from 1
abbrev pub FailsNext : List ℕ → ℕ → Type 0
FailsNext failing calls = Contains failing (next_count calls)

-- What requests some bytes spell.
use Rattle.std.specs.Prelude.{◌≡◌, ℕ, List, ◌++◌}
use Rattle.dg_wire.specs.declared.request.Request.{Request}
use Rattle.dg_wire.specs.Frames.{frames, AreRequests}
use Rattle.dg_wire.specs.Exact.{NoWhole}

-- the bytes are the frames of these requests, and behind them a rest that begins with no whole frame
pub record Spells (bytes : List ℕ) (requests : List Request) (rest : List ℕ) : Type 0 where
  pub valid : AreRequests requests
  pub whole : bytes ≡ frames requests ++ rest
  pub no_whole : NoWhole rest

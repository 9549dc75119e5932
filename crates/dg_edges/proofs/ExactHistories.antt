-- The records of a legal history are exact.
use Rattle.std.proofs.Common.{ℕ, List, [], ◌∷◌, ◌++◌}
use Rattle.dg_zero.specs.declared.entry.Entry.{Entry}
use Rattle.dg_zero.specs.declared.entry.Event.{Event}
use Rattle.dg_zero.specs.declared.entry.Event.TheVariants.{Commit, Alter}
use Rattle.dg_zero.specs.Exact.{AreExact, IsExactNow}
use Rattle.dg_zero.specs.Legal.{Fits, IsLegal}
use Rattle.dg_zero.proofs.DeclaredTablets.{alters_are_exact}
use Rattle.dg_zero.proofs.ExactRecords.{entries_keep_exact}
use Rattle.dg_zero.proofs.Histories.{legal_push}
use Rattle.dg_zero.proofs.LawsOfHistories.{kept_from, anyone}
use Rattle.dg_edges.specs.Laws.{HistoriesAreExact}
use Rattle.dg_edges.proofs.KindsStay.{commits_are_exact}

exact_now : (n : ℕ) (g : List Entry) (author : ℕ) (event : Event) → IsLegal n g → Fits n g author event → IsExactNow g event
exact_now n g author (Commit start preds keys asked written) l f = commits_are_exact n g author start preds keys asked written l f
exact_now n g author (Alter start newer written) l f = alters_are_exact n g author start newer written l f
exact_now n g author event l f = tt

pub histories_are_exact : HistoriesAreExact
histories_are_exact n h l = kept_from n (λ a. Unit {0}) AreExact step [] h tt l (anyone h) tt
  where
    step : (g : List Entry) (e : Entry) → Unit {0} → IsLegal n g → Fits n g e.author e.event → AreExact g → AreExact (g ++ e ∷ [])
    step g e o m f before = entries_keep_exact n g e (legal_push n g e m f) (exact_now n g e.author e.event m f) before

-- Histories of the same events in another order.
use Rattle.std.specs.Prelude.{◌≡◌, ℕ, List}
use Rattle.std.specs.List.Sorted.{IsPermutation}
use Rattle.semantics.specs.Histories.{Event}
use Rattle.semantics.specs.Laws.{NeverFalls}
use Rattle.semantics.specs.Programs.{Program}
use Rattle.semantics.specs.Report.{report}
use Rattle.semantics.specs.Results.{results}

-- the same events, where in neither history one stands before an event that is detected earlier; so only events of one detection time change places
pub record AreReorderedWithinEpochs (history others : List Event) : Type 0 where
  pub same_events : IsPermutation history others
  pub in_order : NeverFalls history
  pub others_in_order : NeverFalls others

-- in whatever order the same events are heard, the results at a time are the same
abbrev pub OrderChangesNoResult : Type 0
OrderChangesNoResult = (program : Program) (history others : List Event) → IsPermutation history others → (stream time : ℕ) → results program history stream time ≡ results program others stream time

-- where only events of one detection time change places, the report is the same, byte by byte
abbrev pub OrderWithinEpochsChangesNoReport : Type 0
OrderWithinEpochsChangesNoReport = (program : Program) (history others : List Event) → AreReorderedWithinEpochs history others → report program history ≡ report program others

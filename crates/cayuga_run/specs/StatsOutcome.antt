-- How a stats line was written, by the status. No public clause cites this module.
use Rattle.std.specs.Prelude.{ℕ, List}
use Rattle.semantics.specs.Histories.{Event}
use Rattle.semantics.specs.Programs.{Program}
use Rattle.cay_host.specs.Faults.{Rose}
use Rattle.cay_host.specs.Output.{KeepsOutput, Wrote, WrotePart}
use Rattle.cay_host.specs.Told.{Told}
use Rattle.cayuga_run.specs.declared.status.Status.{Status}
use Rattle.cayuga_run.specs.declared.status.Status.TheVariants.{Done, WriteFault, Memory}
use Rattle.cayuga_run.specs.Stats.{AreStats, Stats, stats_line}

-- the stats line of the queries of a program after a history was written, in this way
pub record WritesStats (W : List ℕ → Told → Told → Type 0) (program : Program) (history : List Event) (old new : Told) : Type 0 where
  pub stats : Stats
  pub are : AreStats program history stats
  pub wrote : W (stats_line stats) old new

-- it was written, or a proper prefix of it, or there was no memory for it and nothing was written
abbrev pub StatsOutcome : Program → List Event → Told → Told → Status → Type 0
StatsOutcome program history old new Done = WritesStats Wrote program history old new
StatsOutcome program history old new WriteFault = Rose old.write_faults new.write_faults × WritesStats WrotePart program history old new
StatsOutcome program history old new Memory = KeepsOutput old new
StatsOutcome program history old new other = ⊥

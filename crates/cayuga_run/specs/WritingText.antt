-- How a text was written. No public clause cites this module.
use Rattle.std.specs.Prelude.{ℕ, List}
use Rattle.cay_host.specs.Faults.{Rose}
use Rattle.cay_host.specs.Output.{Wrote, WrotePart}
use Rattle.cay_host.specs.Told.{Told}
use Rattle.cayuga_run.specs.declared.status.Status.{Status}
use Rattle.cayuga_run.specs.declared.status.Status.TheVariants.{Done, WriteFault}

-- a text was written, or a proper prefix of it
abbrev pub WritesText : List ℕ → Told → Told → Status → Type 0
WritesText text old new Done = Wrote text old new
WritesText text old new WriteFault = Rose old.write_faults new.write_faults × WrotePart text old new
WritesText text old new other = ⊥

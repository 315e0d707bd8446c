-- What a call has done, by the work and the status. No public clause cites this module.
use Rattle.std.specs.Prelude.{◌≡◌, ℕ}
use Rattle.cay_host.specs.Told.{Told}
use Rattle.cayuga_run.specs.declared.status.Status.{Status}
use Rattle.cayuga_run.specs.declared.status.Status.TheVariants.{Usage, Memory}
use Rattle.cayuga_run.specs.ExplainOutcome.{ExplainOutcome}
use Rattle.cayuga_run.specs.LoadOutcome.{LoadOutcome}
use Rattle.cayuga_run.specs.RunOutcome.{RunOutcome}
use Rattle.cayuga_run.specs.Works.{Work, ByWork}
use Rattle.cayuga_run.specs.WritingOutcome.{WritingOutcome}

-- nothing was done, since the words ask for nothing, or there was no memory for them
abbrev pub DidNothing : Told → Told → Status → Type 0
DidNothing old new Usage = new ≡ old
DidNothing old new Memory = new ≡ old
DidNothing old new other = ⊥

-- the table of the statuses of the work
abbrev pub Outcome : Work → ℕ → Told → Told → Status → Type 0
Outcome work limit old new status =
    ByWork work (DidNothing old new status) (λ run. RunOutcome run limit old new status) (λ writing. WritingOutcome writing old new status) (λ load. LoadOutcome load old new status) (λ explaining. ExplainOutcome explaining limit old new status)

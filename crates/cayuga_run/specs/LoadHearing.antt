-- How the generator's events are heard, and what is made of them. No public clause cites this module.
use Rattle.std.specs.Prelude.{◌≡◌, ⊤, ℕ, List, [], Some, None, true}
use Rattle.semantics.specs.Histories.{Event}
use Rattle.semantics.specs.Programs.{Program}
use Rattle.birth_laws.specs.BornChains.{born_lines}
use Rattle.cay_host.specs.Output.{Wrote}
use Rattle.cay_host.specs.Told.{Told}
use Rattle.courses.specs.declared.refusal.Refusal.TheVariants.{HasFault, HasControlFault, IsOutOfOrder}
use Rattle.courses.specs.QuerySet.{QuerySet}
use Rattle.courses.specs.Reports.{refused_in}
use Rattle.epoch_engine.specs.Counts.{CountsAlive}
use Rattle.prefix_merge.specs.Counts.{CountsStates}
use Rattle.session.specs.SessionView.{HasFinished, SessionView}
use Rattle.splitter.specs.Chains.{lines_of, work_order}
use Rattle.cayuga_run.specs.declared.status.Status.{Status}
use Rattle.cayuga_run.specs.declared.status.Status.TheVariants.{Done, BadEvent, OutOfOrder, Memory, BadControl}
use Rattle.cayuga_run.specs.LoadOutcome.{load_line}
use Rattle.cayuga_run.specs.Reports.{report_of_heard}

-- an event text was heard to its end, no line of it is refused, and its report was written; the session works for all that was heard, with no epoch open
pub record HearsWhole (set : QuerySet) (text : List ℕ) (session : SessionView) (old new : Told) : Type 0 where
  pub none_refused : refused_in set text true ≡ None
  pub wrote : Wrote (report_of_heard set text) old new
  pub finished : HasFinished session set [] text

-- why an event text wasn't heard to its end, by the status
abbrev pub FailsHearing : QuerySet → List ℕ → Status → Type 0
FailsHearing set text (BadEvent line why) = refused_in set text true ≡ Some (HasFault line why)
FailsHearing set text (BadControl line why) = refused_in set text true ≡ Some (HasControlFault line why)
FailsHearing set text (OutOfOrder line at seen) = refused_in set text true ≡ Some (IsOutOfOrder line at seen)
FailsHearing set text Memory = ⊤
FailsHearing set text other = ⊥

-- what came of the hearing of an event text, by the status
abbrev pub HearsText : QuerySet → List ℕ → SessionView → Told → Told → Status → Type 0
HearsText set text session old new Done = HearsWhole set text session old new
HearsText set text session old new other = FailsHearing set text other

-- this is the line of the numbers of a session that works for a history, and of so many results
pub record HasTotals (program : Program) (history : List Event) (events results : ℕ) (line : List ℕ) : Type 0 where
  pub states : ℕ
  pub live : ℕ
  pub counts_states : CountsStates (lines_of program) states
  pub counts_live : CountsAlive (born_lines program) (work_order program) history live
  pub value : line ≡ load_line events (record { states = states; results = results; live = live })

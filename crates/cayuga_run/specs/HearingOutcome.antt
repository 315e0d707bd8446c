-- What the hearing of the events has done, by its status. No public clause cites this module.
use Rattle.std.specs.Prelude.{◌≡◌, ◌≤◌, ℕ, ◌+◌, List, [], Bool, true, false, length, take, Option, None, Some, IfSome}
use Rattle.std.specs.Io.KnownBytes.{prepend_known}
use Rattle.cay_host.specs.declared.side.Side.TheVariants.{Queries, Events}
use Rattle.cay_host.specs.Faults.{Rose}
use Rattle.cay_host.specs.Output.{Wrote}
use Rattle.cay_host.specs.Told.{Told}
use Rattle.session.specs.declared.fault.SessionFault.{SessionFault}
use Rattle.session.specs.declared.fault.SessionFault.TheVariants as fault
use Rattle.courses.specs.declared.refusal.Refusal.{Refusal}
use Rattle.courses.specs.declared.refusal.Refusal.TheVariants.{HasFault, HasControlFault, IsOutOfOrder}
use Rattle.courses.specs.QuerySet.{QuerySet}
use Rattle.courses.specs.Reports.{refused_in, report_of_closed}
use Rattle.session.specs.WroteFront.{WroteFront}
use Rattle.session.specs.SessionView.{HasFinished, SessionView}
use Rattle.cayuga_run.specs.declared.status.Status.{Status}
use Rattle.cayuga_run.specs.declared.status.Status.TheVariants.{Done, BadEvent, OutOfOrder, ReadFault, WriteFault, TooMuch, Memory, BadControl}
use Rattle.cayuga_run.specs.StoppedWriting.{StoppedWriting}

-- the status of a session's fault
abbrev pub status_of : SessionFault → Status
status_of (fault.Refused (HasFault line why)) = BadEvent line why
status_of (fault.Refused (HasControlFault line why)) = BadControl line why
status_of (fault.Refused (IsOutOfOrder line at seen)) = OutOfOrder line at seen
status_of (fault.TooMuch limit) = TooMuch limit
status_of fault.WriteFault = WriteFault
status_of fault.Memory = Memory

-- these bytes of the events were taken; where the text has ended behind them, they are all of it and within the limit
pub record TakesEvents (limit : ℕ) (bytes : List ℕ) (ended : Bool) (old new : Told) : Type 0 where
  pub front : old.left Events ≡ prepend_known bytes (new.left Events)
  pub whole : ended ≡ true → (length bytes ≤ limit) × IfSome (new.left Events) (λ rest. rest ≡ [])

-- these bytes were taken, this is the refusal of those up to the limit, and their report was written
pub record HearsUpTo (set : QuerySet) (limit : ℕ) (bytes : List ℕ) (ended : Bool) (refusal : Option Refusal) (old new : Told) : Type 0 where
  pub takes : TakesEvents limit bytes ended old new
  pub refused : refused_in set (take limit bytes) ended ≡ refusal
  pub wrote : Wrote (report_of_closed set (take limit bytes) ended) old new

-- all events were taken and heard, none was refused, and their report was written; the session works for all that was heard, with no epoch open
pub record HearsAll (set : QuerySet) (limit : ℕ) (session : SessionView) (old new : Told) : Type 0 where
  pub bytes : List ℕ
  pub heard : HearsUpTo set limit bytes true None old new
  pub finished : HasFinished session set [] bytes

-- a line of the bytes that were taken is refused, and the report before it was written
pub record HearsRefused (set : QuerySet) (limit : ℕ) (refusal : Refusal) (old new : Told) : Type 0 where
  pub bytes : List ℕ
  pub ended : Bool
  pub heard : HearsUpTo set limit bytes ended (Some refusal) old new

-- a front of the report of the bytes that were taken was written
pub record HearsFront (set : QuerySet) (limit : ℕ) (old new : Told) : Type 0 where
  pub bytes : List ℕ
  pub ended : Bool
  pub takes : TakesEvents limit bytes ended old new
  pub wrote : WroteFront (report_of_closed set (take limit bytes) ended) old new

-- what was taken and written, and what the session then works for, by the status
abbrev pub Hears : QuerySet → ℕ → SessionView → Told → Told → Status → Type 0
Hears set limit session old new Done = HearsAll set limit session old new
Hears set limit session old new (TooMuch most) = (most ≡ limit) × ((bytes : List ℕ) × (length bytes ≡ limit + 1) × HearsUpTo set limit bytes false None old new)
Hears set limit session old new (ReadFault side) = (side ≡ Events) × Rose old.read_faults new.read_faults × ((bytes : List ℕ) × (length bytes ≤ limit) × HearsUpTo set limit bytes false None old new)
Hears set limit session old new (BadEvent line why) = HearsRefused set limit (HasFault line why) old new
Hears set limit session old new (BadControl line why) = HearsRefused set limit (HasControlFault line why) old new
Hears set limit session old new (OutOfOrder line at seen) = HearsRefused set limit (IsOutOfOrder line at seen) old new
Hears set limit session old new WriteFault = Rose old.write_faults new.write_faults × StoppedWriting set limit (old.left Events) old new
Hears set limit session old new Memory = HearsFront set limit old new
Hears set limit session old new other = ⊥

-- the sides stay attached as they were, and nothing more is read of the queries
pub record HearsAlone (old new : Told) : Type 0 where
  pub attached : new.attached ≡ old.attached
  pub queries : new.left Queries ≡ old.left Queries

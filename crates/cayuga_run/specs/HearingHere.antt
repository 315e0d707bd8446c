-- What the hearing of the events of an explaining has done, by its status. No public clause cites this module.
use Rattle.std.specs.Prelude.{◌≡◌, ⊤, ℕ, ◌+◌, ◌≤◌, List, true, false, length, take, Some, None, Option}
use Rattle.std.specs.Io.KnownBytes.{prepend_known}
use Rattle.cay_host.specs.declared.side.Side.TheVariants.{Events}
use Rattle.cay_host.specs.Faults.{Rose}
use Rattle.cay_host.specs.Output.{KeepsOutput, Wrote, WrotePart}
use Rattle.cay_host.specs.Told.{Told}
use Rattle.semantics.specs.Programs.{Program}
use Rattle.catalogue.specs.Judgement.{Judged}
use Rattle.courses.specs.declared.refusal.Refusal.{Refusal}
use Rattle.courses.specs.declared.refusal.Refusal.TheVariants.{HasFault, HasControlFault, IsOutOfOrder}
use Rattle.derivations.specs.declared.history.Heard.{Heard}
use Rattle.explanation.specs.Explained.{IsExplanation}
use Rattle.explanation.specs.declared.fault.HearFault.{HearFault}
use Rattle.explanation.specs.declared.fault.HearFault.TheVariants as fault
use Rattle.cayuga_run.specs.declared.status.Status.{Status}
use Rattle.cayuga_run.specs.declared.status.Status.TheVariants.{Done, BadEvent, OutOfOrder, ReadFault, WriteFault, TooMuch, Memory, BadControl}
use Rattle.cayuga_run.specs.Here.{events_here, refused_here}
use Rattle.cayuga_run.specs.HearingOutcome.{TakesEvents}

-- the status of a fault of the hearing
abbrev pub status_here : HearFault → Status
status_here (fault.Refused (HasFault line why)) = BadEvent line why
status_here (fault.Refused (HasControlFault line why)) = BadControl line why
status_here (fault.Refused (IsOutOfOrder line at seen)) = OutOfOrder line at seen
status_here (fault.TooMuch limit) = TooMuch limit
status_here fault.Memory = Memory

-- these bytes were taken, and this is the refusal of those up to the limit
pub record HearsHere (judged : Judged) (limit : ℕ) (bytes : List ℕ) (refusal : Option Refusal) (old new : Told) : Type 0 where
  pub front : old.left Events ≡ prepend_known bytes (new.left Events)
  pub refused : refused_here judged (take limit bytes) false ≡ refusal

-- the events were taken to their end, within the limit, and this is the refusal of them
pub record HearsToEnd (judged : Judged) (limit : ℕ) (bytes : List ℕ) (refusal : Option Refusal) (old new : Told) : Type 0 where
  pub takes : TakesEvents limit bytes true old new
  pub refused : refused_here judged bytes true ≡ refusal

-- a line of the bytes that were taken is refused, before the events end or there
pub data RefusedHere (judged : Judged) (limit : ℕ) (refusal : Refusal) (old new : Told) : Type 0 where
  before : {bytes : List ℕ} → HearsHere judged limit bytes (Some refusal) old new → RefusedHere judged limit refusal old new
  ended : {bytes : List ℕ} → HearsToEnd judged limit bytes (Some refusal) old new → RefusedHere judged limit refusal old new

-- what was taken and heard, by the status
abbrev pub HearsEvents : Judged → ℕ → List Heard → Told → Told → Status → Type 0
HearsEvents judged limit history old new Done = (bytes : List ℕ) × HearsToEnd judged limit bytes None old new × (history ≡ events_here judged bytes)
HearsEvents judged limit history old new (TooMuch most) = (most ≡ limit) × ((bytes : List ℕ) × (length bytes ≡ limit + 1) × HearsHere judged limit bytes None old new)
HearsEvents judged limit history old new (ReadFault side) = (side ≡ Events) × Rose old.read_faults new.read_faults × ((bytes : List ℕ) × (length bytes ≤ limit) × HearsHere judged limit bytes None old new)
HearsEvents judged limit history old new (BadEvent line why) = RefusedHere judged limit (HasFault line why) old new
HearsEvents judged limit history old new (BadControl line why) = RefusedHere judged limit (HasControlFault line why) old new
HearsEvents judged limit history old new (OutOfOrder line at seen) = RefusedHere judged limit (IsOutOfOrder line at seen) old new
HearsEvents judged limit history old new Memory = ⊤
HearsEvents judged limit history old new other = ⊥

-- the text that explains the results over a history was written, or a proper prefix of it, or there was no memory
abbrev pub WritesExplanation : Program → List Heard → Told → Told → Status → Type 0
WritesExplanation program history old new Done = (text : List ℕ) × IsExplanation program history text × Wrote text old new
WritesExplanation program history old new WriteFault = Rose old.write_faults new.write_faults × ((text : List ℕ) × IsExplanation program history text × WrotePart text old new)
WritesExplanation program history old new Memory = KeepsOutput old new
WritesExplanation program history old new other = ⊥

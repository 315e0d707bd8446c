-- What an explaining has done, by its status.
use Rattle.std.specs.Prelude.{◌≡◌, ℕ, ◌+◌, ◌<◌, ◌≤◌, List, [], true, false, length, take, Some, None, IfSome}
use Rattle.std.specs.Io.KnownBytes.{prepend_known}
use Rattle.cay_host.specs.declared.side.Side.{Side}
use Rattle.cay_host.specs.declared.side.Side.TheVariants.{Queries, Events}
use Rattle.cay_host.specs.Faults.{Rose}
use Rattle.cay_host.specs.Files.{file_of}
use Rattle.cay_host.specs.Output.{KeepsOutput, Wrote, WrotePart}
use Rattle.cay_host.specs.Told.{Told}
use Rattle.catalogue.specs.Judgement.{Judged, program_of}
use Rattle.courses.specs.declared.refusal.Refusal.{Refusal}
use Rattle.courses.specs.declared.refusal.Refusal.TheVariants.{HasFault, HasControlFault, IsOutOfOrder}
use Rattle.explanation.specs.Explained.{IsExplanation}
use Rattle.cayuga_run.specs.declared.status.Status.{Status}
use Rattle.cayuga_run.specs.declared.status.Status.TheVariants.{Done, Usage, BadQuery, Cycle, BadEvent, OutOfOrder, AttachFault, ReadFault, WriteFault, TooMuch, Memory, BadControl}
use Rattle.cayuga_run.specs.Accepting.{IsAcceptedWith}
use Rattle.cayuga_run.specs.Here.{events_here, refused_here}
use Rattle.cayuga_run.specs.Reading.{TakesExactly}
use Rattle.cayuga_run.specs.Refusing.{IsBadQuery, AnswersCycle, ReadsUpTo, StoppedInQueries}
use Rattle.cayuga_run.specs.RunOutcome.{AreThere, IsAttachFault, OfFiles, is_whole}
use Rattle.cayuga_run.specs.Works.{Explaining, as_run}

-- all events were heard and none was refused, and the text that explains the results was written, in this way
abbrev pub Explains : (List ℕ → Told → Told → Type 0) → Judged → List ℕ → ℕ → Told → Told → Type 0
Explains W judged events limit old new =
    (length events ≤ limit) × (refused_here judged events true ≡ None) × ((text : List ℕ) × IsExplanation (program_of judged) (events_here judged events) text × W text old new)

-- it was written whole
pub record IsExplained (explaining : Explaining) (limit : ℕ) (old new : Told) : Type 0 where
  pub there : AreThere (as_run explaining) old
  pub text : OfFiles (as_run explaining) old (λ queries events. IsAcceptedWith queries (λ judged. Explains Wrote judged events limit old new))
  pub ended : IfSome (new.left Events) (λ rest. rest ≡ [])

-- the count of write faults rose, and a proper prefix of it was written
pub record IsPartlyExplained (explaining : Explaining) (limit : ℕ) (old new : Told) : Type 0 where
  pub cause : Rose old.write_faults new.write_faults
  pub there : AreThere (as_run explaining) old
  pub others : ReadsUpTo Events old new
  pub text : OfFiles (as_run explaining) old (λ queries events. IsAcceptedWith queries (λ judged. Explains WrotePart judged events limit old new))
  pub ended : IfSome (new.left Events) (λ rest. rest ≡ [])

-- that line of the event text, cut at the limit, is refused, and nothing was written
pub record RefusesHere (refusal : Refusal) (explaining : Explaining) (limit : ℕ) (old new : Told) : Type 0 where
  pub there : AreThere (as_run explaining) old
  pub text : OfFiles (as_run explaining) old (λ queries events. IsAcceptedWith queries (λ judged. refused_here judged (take limit events) (is_whole limit events) ≡ Some refusal))
  pub silent : KeepsOutput old new

-- there are more events than the limit, of which one byte more than it was taken, none up to it is refused, and nothing was written
pub record IsTooMuchHere (explaining : Explaining) (limit : ℕ) (old new : Told) : Type 0 where
  pub there : AreThere (as_run explaining) old
  pub taken : TakesExactly (limit + 1) (file_of explaining.events old.files) (new.left Events)
  pub text : OfFiles (as_run explaining) old (λ queries events. IsAcceptedWith queries (λ judged. (limit < length events) × (refused_here judged (take limit events) false ≡ None)))
  pub silent : KeepsOutput old new

-- a read of the events failed: no line of the bytes that were taken is refused, and nothing was written
pub record StoppedInEventsHere (explaining : Explaining) (limit : ℕ) (old new : Told) : Type 0 where
  pub there : AreThere (as_run explaining) old
  pub others : ReadsUpTo Events old new
  pub text : OfFiles (as_run explaining) old (λ queries events. IsAcceptedWith queries (λ judged. (taken : List ℕ)
      × (Some events ≡ prepend_known taken (new.left Events)) × (length taken ≤ limit) × (refused_here judged taken false ≡ None)))
  pub silent : KeepsOutput old new

-- the count of read faults rose, and the side whose read failed is attached
pub record IsExplainFault (side : Side) (explaining : Explaining) (limit : ℕ) (old new : Told) : Type 0 where
  pub cause : Rose old.read_faults new.read_faults
  pub attached : new.attached side ≡ true
  pub queries : side ≡ Queries → StoppedInQueries explaining.queries old new
  pub events : side ≡ Events → StoppedInEventsHere explaining limit old new

-- the table of the statuses of an explaining; nothing was written but where it was done or a write failed
abbrev pub ExplainOutcome : Explaining → ℕ → Told → Told → Status → Type 0
ExplainOutcome explaining limit old new Done = IsExplained explaining limit old new
ExplainOutcome explaining limit old new (BadQuery line why) = IsBadQuery line why explaining.queries old new
ExplainOutcome explaining limit old new (Cycle names) = AnswersCycle names explaining.queries old new
ExplainOutcome explaining limit old new (BadEvent line why) = RefusesHere (HasFault line why) explaining limit old new
ExplainOutcome explaining limit old new (BadControl line why) = RefusesHere (HasControlFault line why) explaining limit old new
ExplainOutcome explaining limit old new (OutOfOrder line at seen) = RefusesHere (IsOutOfOrder line at seen) explaining limit old new
ExplainOutcome explaining limit old new (AttachFault side) = IsAttachFault side (as_run explaining) old new
ExplainOutcome explaining limit old new (ReadFault side) = IsExplainFault side explaining limit old new
ExplainOutcome explaining limit old new WriteFault = IsPartlyExplained explaining limit old new
ExplainOutcome explaining limit old new (TooMuch most) = (most ≡ limit) × IsTooMuchHere explaining limit old new
ExplainOutcome explaining limit old new Memory = KeepsOutput old new
ExplainOutcome explaining limit old new Usage = ⊥

-- What a run has done, by its status.
use Rattle.std.specs.Prelude.{◌≡◌, ◌⊎◌, ℕ, ◌+◌, ◌<◌, ◌≤◌, List, [], ◌++◌, Bool, true, false, nat_le, length, take, Some, None, IfSome}
use Rattle.std.specs.Io.KnownBytes.{prepend_known}
use Rattle.cay_host.specs.declared.side.Side.{Side}
use Rattle.cay_host.specs.declared.side.Side.TheVariants.{Queries, Events}
use Rattle.cay_host.specs.Faults.{Rose}
use Rattle.cay_host.specs.Files.{file_of, lacks}
use Rattle.cay_host.specs.Output.{Wrote, KeepsOutput}
use Rattle.cay_host.specs.Told.{Told}
use Rattle.courses.specs.declared.refusal.Refusal.{Refusal}
use Rattle.courses.specs.declared.refusal.Refusal.TheVariants.{HasFault, HasControlFault, IsOutOfOrder}
use Rattle.courses.specs.QuerySet.{QuerySet, set_of}
use Rattle.courses.specs.Reports.{refused_in, report_of_closed}
use Rattle.cayuga_run.specs.declared.status.Status.{Status}
use Rattle.cayuga_run.specs.declared.status.Status.TheVariants.{Done, Usage, BadQuery, Cycle, BadEvent, OutOfOrder, AttachFault, ReadFault, WriteFault, TooMuch, Memory, BadControl}
use Rattle.catalogue.specs.Judgement.{Verdict, Accepted, Refused, Circle, Judges}
use Rattle.cayuga_run.specs.Accepting.{IsAcceptedWith}
use Rattle.session.specs.WroteFront.{WroteFront}
use Rattle.cayuga_run.specs.Reading.{TakesExactly}
use Rattle.cayuga_run.specs.Refusing.{IsBadQuery, AnswersCycle, OfQueries, ReadsUpTo, StoppedAt, StoppedInQueries}
use Rattle.cayuga_run.specs.Reports.{events_heard, program_behind, report_of_heard}
use Rattle.cayuga_run.specs.Stats.{ComesBehind}
use Rattle.cayuga_run.specs.StoppedWriting.{StoppedInStats, StoppedWriting}
use Rattle.cayuga_run.specs.Works.{Run, name_of}

-- where the host tells both files
abbrev pub OfFiles : Run → Told → (List ℕ → List ℕ → Type 0) → Type 0
OfFiles run old P = IfSome (file_of run.queries old.files) (λ queries. IfSome (file_of run.events old.files) (λ events. P queries events))

-- the event text has at most so many bytes
abbrev pub is_whole : ℕ → List ℕ → Bool
is_whole limit events = nat_le (length events) limit

-- the host doesn't tell that a file of the run is absent
pub record AreThere (run : Run) (old : Told) : Type 0 where
  pub queries : lacks run.queries old.files ≡ false
  pub events : lacks run.events old.files ≡ false

-- all events were heard, none was refused, and their report was written, and with `--stats` the stats line behind it
pub record IsDone (run : Run) (limit : ℕ) (old new : Told) : Type 0 where
  pub there : AreThere run old
  pub text : OfFiles run old (λ queries events. IsAcceptedWith queries (λ judged.
      (length events ≤ limit) × (refused_in (set_of judged) events true ≡ None)
      × ((more : List ℕ) × ComesBehind run.stats (program_behind (set_of judged) events) (events_heard (set_of judged) events) more × Wrote (report_of_heard (set_of judged) events ++ more) old new)))
  pub ended : IfSome (new.left Events) (λ rest. rest ≡ [])

-- that line of the event text, cut at the limit, is refused, and the report of the epochs closed before it was written
pub record AnswersRefusal (refusal : Refusal) (run : Run) (limit : ℕ) (old new : Told) : Type 0 where
  pub there : AreThere run old
  pub text : OfFiles run old (λ queries events. IsAcceptedWith queries (λ judged.
      (refused_in (set_of judged) (take limit events) (is_whole limit events) ≡ Some refusal) × Wrote (report_of_closed (set_of judged) (take limit events) (is_whole limit events)) old new))

-- there are more events than the limit, of which one byte more than it was taken, none up to it is refused, and the report of the epochs closed by then was written
pub record IsTooMuch (run : Run) (limit : ℕ) (old new : Told) : Type 0 where
  pub there : AreThere run old
  pub taken : TakesExactly (limit + 1) (file_of run.events old.files) (new.left Events)
  pub text : OfFiles run old (λ queries events. IsAcceptedWith queries (λ judged.
      (limit < length events) × (refused_in (set_of judged) (take limit events) false ≡ None) × Wrote (report_of_closed (set_of judged) (take limit events) false) old new))

-- the query text is there, and is accepted
abbrev pub QueriesAccepted : Run → Told → Type 0
QueriesAccepted run old = (lacks run.queries old.files ≡ false) × OfQueries run.queries old (λ queries. IsAcceptedWith queries (λ judged. Unit {0}))

-- the side couldn't be attached: the count of attach faults rose, or the host tells that it has no such file; nothing was read of it or after it, and nothing was written
pub record IsAttachFault (side : Side) (run : Run) (old new : Told) : Type 0 where
  pub cause : lacks (name_of run side) old.files ≡ false → Rose old.attach_faults new.attach_faults
  pub stopped : StoppedAt side new
  pub accepted : side ≡ Events → QueriesAccepted run old
  pub unread : new.left side ≡ old.left side
  pub others : ReadsUpTo side old new
  pub silent : KeepsOutput old new

-- a read of the events failed: no line of the bytes that were taken is refused, and the report of the epochs that they close was written
pub record StoppedInEvents (run : Run) (limit : ℕ) (old new : Told) : Type 0 where
  pub there : AreThere run old
  pub others : ReadsUpTo Events old new
  pub text : OfFiles run old (λ queries events. IsAcceptedWith queries (λ judged. (taken : List ℕ)
      × (Some events ≡ prepend_known taken (new.left Events)) × (length taken ≤ limit) × (refused_in (set_of judged) taken false ≡ None) × Wrote (report_of_closed (set_of judged) taken false) old new))

-- the count of read faults rose, and the side whose read failed is attached
pub record IsReadFault (side : Side) (run : Run) (limit : ℕ) (old new : Told) : Type 0 where
  pub cause : Rose old.read_faults new.read_faults
  pub attached : new.attached side ≡ true
  pub queries : side ≡ Queries → StoppedInQueries run.queries old new
  pub events : side ≡ Events → StoppedInEvents run limit old new

-- the writing stopped in the report, or with `--stats` in the stats line behind it
abbrev pub WritingStopped : Bool → QuerySet → ℕ → List ℕ → Told → Told → Type 0
WritingStopped stats set limit events old new = StoppedWriting set limit (Some events) old new ⊎ ((stats ≡ true) × StoppedInStats set limit events old new)

-- the count of write faults rose, and the report was written up to a proper prefix of the rows that the last piece or the end of the events adds, or whole and with a proper prefix of the stats line
pub record IsWriteFault (run : Run) (limit : ℕ) (old new : Told) : Type 0 where
  pub cause : Rose old.write_faults new.write_faults
  pub there : AreThere run old
  pub others : ReadsUpTo Events old new
  pub text : OfFiles run old (λ queries events. IsAcceptedWith queries (λ judged. WritingStopped run.stats (set_of judged) limit events old new))

-- what was written before memory was wanting: a front of the report of the closed epochs, and nothing where the query text is refused; no byte of a stats line is written then
abbrev pub MemoryText : Verdict → ℕ → List ℕ → Told → Told → Type 0
MemoryText (Accepted judged) limit events old new = WroteFront (report_of_closed (set_of judged) (take limit events) (is_whole limit events)) old new
MemoryText (Refused line why) limit events old new = KeepsOutput old new
MemoryText (Circle names) limit events old new = KeepsOutput old new

-- there was no memory; nothing was written where a file of the run is absent or the query text is refused
pub record IsMemory (run : Run) (limit : ℕ) (old new : Told) : Type 0 where
  pub text : OfFiles run old (λ queries events. (v : Verdict) → Judges queries v → MemoryText v limit events old new)
  pub no_queries : lacks run.queries old.files ≡ true → KeepsOutput old new
  pub no_events : lacks run.events old.files ≡ true → KeepsOutput old new

-- the table of the statuses of a run
abbrev pub RunOutcome : Run → ℕ → Told → Told → Status → Type 0
RunOutcome run limit old new Done = IsDone run limit old new
RunOutcome run limit old new (BadQuery line why) = IsBadQuery line why run.queries old new
RunOutcome run limit old new (Cycle names) = AnswersCycle names run.queries old new
RunOutcome run limit old new (BadEvent line why) = AnswersRefusal (HasFault line why) run limit old new
RunOutcome run limit old new (BadControl line why) = AnswersRefusal (HasControlFault line why) run limit old new
RunOutcome run limit old new (OutOfOrder line at seen) = AnswersRefusal (IsOutOfOrder line at seen) run limit old new
RunOutcome run limit old new (AttachFault side) = IsAttachFault side run old new
RunOutcome run limit old new (ReadFault side) = IsReadFault side run limit old new
RunOutcome run limit old new WriteFault = IsWriteFault run limit old new
RunOutcome run limit old new (TooMuch most) = (most ≡ limit) × IsTooMuch run limit old new
RunOutcome run limit old new Memory = IsMemory run limit old new
RunOutcome run limit old new Usage = ⊥

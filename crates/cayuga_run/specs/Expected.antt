-- The status that the texts of both files ask for.
use Rattle.std.specs.Prelude.{◌≡◌, ⊤, ℕ, ◌-◌, ◌^◌, ◌<◌, List, Bool, true, false, length, take, Option, Some, None}
use Rattle.cay_host.specs.declared.side.Side.TheVariants.{Queries}
use Rattle.cay_host.specs.Told.{Told}
use Rattle.courses.specs.declared.refusal.Refusal.{Refusal}
use Rattle.courses.specs.declared.refusal.Refusal.TheVariants.{HasFault, HasControlFault, IsOutOfOrder}
use Rattle.courses.specs.QuerySet.{set_of}
use Rattle.courses.specs.Reports.{refused_in}
use Rattle.cayuga_run.specs.declared.status.Status.{Status}
use Rattle.cayuga_run.specs.declared.status.Status.TheVariants.{Done, BadQuery, Cycle, BadEvent, OutOfOrder, AttachFault, ReadFault, WriteFault, TooMuch, Memory, BadControl}
use Rattle.catalogue.specs.Judgement.{Verdict, Accepted, Refused, Circle, Judges}
use Rattle.cayuga_run.specs.Here.{refused_here}
use Rattle.cayuga_run.specs.RunOutcome.{is_whole}

-- a refused line decides; else whether the event text is within the limit
abbrev pub expected_after : ℕ → Option Refusal → Bool → Status
expected_after limit (Some (HasFault line why)) whole = BadEvent line why
expected_after limit (Some (HasControlFault line why)) whole = BadControl line why
expected_after limit (Some (IsOutOfOrder line at seen)) whole = OutOfOrder line at seen
expected_after limit None true = Done
expected_after limit None false = TooMuch limit

-- a refused query text, or a cycle in it, decides before all events
abbrev pub expected_of : Verdict → ℕ → List ℕ → Status
expected_of (Refused line why) limit events = BadQuery line why
expected_of (Circle names) limit events = Cycle names
expected_of (Accepted judged) limit events = expected_after limit (refused_in (set_of judged) (take limit events) (is_whole limit events)) (is_whole limit events)

-- these texts ask for the status
pub record IsExpected (limit : ℕ) (queries events : List ℕ) (status : Status) : Type 0 where
  pub verdict : Verdict
  pub judged : Judges queries verdict
  pub value : status ≡ expected_of verdict limit events

-- so do they where all of the event text is within the limit
abbrev pub IsExpectedWhole : List ℕ → List ℕ → Status → Type 0
IsExpectedWhole queries events status = IsExpected (length events) queries events status

-- where results are explained no control line is taken
abbrev pub expected_explaining : Verdict → ℕ → List ℕ → Status
expected_explaining (Refused line why) limit events = BadQuery line why
expected_explaining (Circle names) limit events = Cycle names
expected_explaining (Accepted judged) limit events = expected_after limit (refused_here judged (take limit events) (is_whole limit events)) (is_whole limit events)

-- these texts ask for the status where results are explained
pub record IsExpectedExplaining (limit : ℕ) (queries events : List ℕ) (status : Status) : Type 0 where
  pub verdict : Verdict
  pub judged : Judges queries verdict
  pub value : status ≡ expected_explaining verdict limit events

-- they ask for at most one
abbrev pub OneStatus : Type 0
OneStatus = (limit : ℕ) (queries events : List ℕ) (status other : Status) → IsExpected limit queries events status → IsExpected limit queries events other → status ≡ other

-- where a text about queries is asked for, a refused query text or a cycle in it decides; else the text is written
abbrev pub expected_writing : Verdict → Status
expected_writing (Accepted judged) = Done
expected_writing (Refused line why) = BadQuery line why
expected_writing (Circle names) = Cycle names

-- the query text asks for the status
abbrev pub IsExpectedWriting : List ℕ → Status → Type 0
IsExpectedWriting queries status = (v : Verdict) → Judges queries v → status ≡ expected_writing v

-- the status is the one that is asked for, unless the host failed or there was no memory
abbrev pub IsExpectedOrFault : (Status → Type 0) → Status → Type 0
IsExpectedOrFault IsAsked (AttachFault side) = ⊤
IsExpectedOrFault IsAsked (ReadFault side) = ⊤
IsExpectedOrFault IsAsked WriteFault = ⊤
IsExpectedOrFault IsAsked Memory = ⊤
IsExpectedOrFault IsAsked status = IsAsked status

-- the status is the one that is asked for, unless there was no memory
abbrev pub IsExpectedOrMemory : (Status → Type 0) → Status → Type 0
IsExpectedOrMemory IsAsked Memory = ⊤
IsExpectedOrMemory IsAsked status = IsAsked status

-- the status is this one, unless the queries couldn't be attached or read or there was no memory
abbrev pub IsUnlessFault : Status → Status → Type 0
IsUnlessFault asked (AttachFault Queries) = ⊤
IsUnlessFault asked (ReadFault Queries) = ⊤
IsUnlessFault asked Memory = ⊤
IsUnlessFault asked status = status ≡ asked

-- the refusal of a query text is the answer, unless the queries couldn't be attached or read or there was no memory
abbrev pub AnswersRefused : Verdict → Status → Type 0
AnswersRefused (Accepted judged) status = ⊤
AnswersRefused (Refused line why) status = IsUnlessFault (BadQuery line why) status
AnswersRefused (Circle names) status = IsUnlessFault (Cycle names) status

-- no count of faults rose, and each is below its end
pub record IsSteady (old new : Told) : Type 0 where
  pub attach : new.attach_faults ≡ old.attach_faults
  pub read : new.read_faults ≡ old.read_faults
  pub write : new.write_faults ≡ old.write_faults
  pub attach_below : old.attach_faults < 2 ^ 64 - 1
  pub read_below : old.read_faults < 2 ^ 64 - 1
  pub write_below : old.write_faults < 2 ^ 64 - 1

-- A job whose queries are accepted, and how its run then ends. No public clause cites this module.
use Rattle.std.specs.Prelude.{◌≡◌, ℕ, Bool, List, [], None, true, false, IfSome}
use Rattle.cay_host.specs.declared.side.Side.TheVariants.{Queries, Events}
use Rattle.cay_host.specs.Calls.{FailedLast}
use Rattle.cay_host.specs.Files.{lacks}
use Rattle.cay_host.specs.Output.{KeepsOutput}
use Rattle.cay_host.specs.Told.{Told}
use Rattle.catalogue.specs.Judgement.{Accepts, Judged}
use Rattle.cayuga_run.specs.declared.status.Status.{Status}
use Rattle.cayuga_run.specs.ExplainOutcome.{ExplainOutcome}
use Rattle.cayuga_run.specs.Reading.{ReadsBoth, ReadsQueries, ReadsToExplain}
use Rattle.cayuga_run.specs.Refusing.{OfQueries}
use Rattle.cayuga_run.specs.RunOutcome.{RunOutcome}
use Rattle.cayuga_run.specs.Tests.{TestsOfRun}

-- the queries were attached and read to their end, their text is accepted as this, and nothing else was done
pub record HasAccepted (queries : List ℕ) (judged : Judged) (old new : Told) : Type 0 where
  pub there : lacks queries old.files ≡ false
  pub accepts : OfQueries queries old (λ text. Accepts text judged)
  pub attached : new.attached Queries ≡ true
  pub attach_faults : new.attach_faults ≡ old.attach_faults
  pub read_faults : new.read_faults ≡ old.read_faults
  pub write_faults : new.write_faults ≡ old.write_faults
  pub none_failed : FailedLast None old new
  pub read : IfSome (new.left Queries) (λ rest. rest ≡ [])
  pub events : new.left Events ≡ old.left Events
  pub files : new.files ≡ old.files
  pub silent : KeepsOutput old new

-- the queries that were attached were read to their end, and their text is accepted as this
pub record HasRead (judged : Judged) (old new : Told) : Type 0 where
  pub accepts : IfSome (old.left Queries) (λ text. Accepts text judged)
  pub read_faults : new.read_faults ≡ old.read_faults
  pub none_failed : FailedLast None old new
  pub read : IfSome (new.left Queries) (λ rest. rest ≡ [])

-- how a run over these events ends, whatever queries were accepted before they are attached
abbrev pub EndsRun : Judged → List ℕ → Bool → ℕ → Told → Told → Status → Type 0
EndsRun judged events stats limit before after status =
    (queries : List ℕ) (first : Told) → HasAccepted queries judged first before
    → RunOutcome (record { queries = queries; events = events; stats = stats }) limit first after status

-- how much of both files is then read
abbrev pub EndsReading : Judged → List ℕ → ℕ → Told → Told → Type 0
EndsReading judged events limit before after =
    (queries : List ℕ) (first : Told) → HasAccepted queries judged first before → ReadsQueries queries first before
    → ReadsBoth queries events limit first after

-- how an explaining ends, whatever queries were accepted before its events are attached
abbrev pub EndsExplaining : Judged → List ℕ → ℕ → Told → Told → Status → Type 0
EndsExplaining judged events limit before after status =
    (queries : List ℕ) (first : Told) → HasAccepted queries judged first before → ExplainOutcome (record { queries = queries; events = events }) limit first after status

-- how much of both files is then read
abbrev pub EndsReadingHere : Judged → List ℕ → ℕ → Told → Told → Type 0
EndsReadingHere judged events limit before after =
    (queries : List ℕ) (first : Told) → HasAccepted queries judged first before → ReadsQueries queries first before
    → ReadsToExplain queries events limit first after

-- how many conditions are then tested at most
abbrev pub EndsTests : Judged → List ℕ → ℕ → Told → Told → ℕ → ℕ → Type 0
EndsTests judged events limit before after old new =
    (queries : List ℕ) (first : Told) → HasAccepted queries judged first before → TestsOfRun queries events limit first after old new

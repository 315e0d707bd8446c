-- How many conditions a job tests at most.
use Rattle.std.specs.Prelude.{⊤, ◌≡◌, ◌≤◌, ◌⊎◌, ◌+◌, ℕ, List, [], Bool, true, false, length, take, Option, Some, IfSome}
use Rattle.std.specs.Io.KnownBytes.{prepend_known}
use Rattle.cay_host.specs.declared.side.Side.TheVariants.{Events}
use Rattle.cay_host.specs.Files.{file_of}
use Rattle.cay_host.specs.Told.{Told}
use Rattle.courses.specs.QuerySet.{QuerySet, set_of}
use Rattle.courses.specs.Reports.{closed_in}
use Rattle.load_texts.specs.EventText.{event_text}
use Rattle.load_texts.specs.QueryText.{query_text}
use Rattle.session.specs.RunWork.{course_work}
use Rattle.cayuga_run.specs.Accepting.{IsAcceptedWith}
use Rattle.cayuga_run.specs.Works.{Work, ByWork, Load}

-- the tests that the epochs ask for that an event text closes, which has ended or not, each of the queries that are there then
abbrev pub tests_of_closed : QuerySet → List ℕ → Bool → ℕ
tests_of_closed set text ended = course_work set (closed_in set text ended)

-- a count of tests rose by no more than the epochs ask for that an event text closes
abbrev pub RisesWithin : QuerySet → List ℕ → Bool → ℕ → ℕ → Type 0
RisesWithin set text ended old new = new ≤ old + tests_of_closed set text ended

-- these bytes were taken of an event text, which has ended behind them or not, and a count of tests rose by no more than the epochs ask for that those within the limit close
pub record TestsOfTaken (set : QuerySet) (limit : ℕ) (text rest : Option (List ℕ)) (old new : ℕ) : Type 0 where
  pub taken : List ℕ
  pub ended : Bool
  pub front : text ≡ prepend_known taken rest
  pub whole : ended ≡ true → (length taken ≤ limit) × IfSome rest (λ more. more ≡ [])
  pub within : RisesWithin set (take limit taken) ended old new

-- nothing was tested before the events were attached, and then no more than the epochs ask for that the bytes taken of them close
pub record TestsOfRun (queries events : List ℕ) (limit : ℕ) (before after : Told) (old new : ℕ) : Type 0 where
  pub unattached : after.attached Events ≡ false → new ≡ old
  pub attached : after.attached Events ≡ true
      → IfSome (file_of queries before.files) (λ text. IsAcceptedWith text (λ judged. TestsOfTaken (set_of judged) limit (file_of events before.files) (after.left Events) old new))

-- no more was tested than the epochs ask for that a front of this event text closes
abbrev pub TestsOfText : QuerySet → List ℕ → ℕ → ℕ → Type 0
TestsOfText set text old new = (rest : List ℕ) × TestsOfTaken set (length text) (Some text) (Some rest) old new

-- nothing was tested; or the generator's queries are accepted, and no more than the epochs ask for that a front of its events closes
abbrev pub TestsOfLoad : Load → ℕ → ℕ → Type 0
TestsOfLoad load old new = (new ≡ old) ⊎ IsAcceptedWith (query_text load.events) (λ judged. TestsOfText (set_of judged) (event_text load.seed load.events) old new)

-- how many conditions were tested at most, by the work: none where nothing is run; of an explaining nothing is said
abbrev pub StaysWithinWork : Work → ℕ → Told → Told → ℕ → ℕ → Type 0
StaysWithinWork work limit before after old new =
    ByWork work (new ≡ old) (λ run. TestsOfRun run.queries run.events limit before after old new) (λ writing. new ≡ old) (λ load. TestsOfLoad load old new) (λ explaining. ⊤)

-- What the words of the command line ask for.
use Rattle.std.specs.Prelude.{⊤, ℕ, List, Bool, true, false, Option, Some, None}
use Rattle.cay_host.specs.declared.side.Side.{Side}
use Rattle.cay_host.specs.declared.side.Side.TheVariants.{Queries, Events}
use Rattle.cel_print.specs.Spelled.{canon}
use Rattle.catalogue.specs.Judgement.{Judged}
use Rattle.command_line.specs.declared.job.Job.{Job}
use Rattle.command_line.specs.declared.job.Job.TheVariants as job
use Rattle.plan_text.specs.Plan.{plan_of}

-- a run of the queries of one file over the events of another, by the names of the files, and whether its stats line is asked for
pub record Run : Type 0 where
  pub queries : List ℕ
  pub events : List ℕ
  pub stats : Bool

-- the file of a run for a side
abbrev pub name_of : Run → Side → List ℕ
name_of run Queries = run.queries
name_of run Events = run.events

-- the writing of one text about accepted queries: the name of their file, and the text of what they are accepted as
pub record Writing : Type 0 where
  pub queries : List ℕ
  pub text_of : Judged → List ℕ

-- a run of the generator's texts: the seed and the number of events
pub record Load : Type 0 where
  pub seed : ℕ
  pub events : ℕ

-- the explaining of the results of the queries of one file over the events of another, by the names of the files
pub record Explaining : Type 0 where
  pub queries : List ℕ
  pub events : List ℕ

-- its files are those of a run
abbrev pub as_run : Explaining → Run
as_run explaining = record { queries = explaining.queries; events = explaining.events; stats = false }

-- what is asked for: nothing, the report of a run, a text about queries, the numbers of a run of the generator's texts, or why each result is there
pub data Work : Type 0 where
  Nothing : Work
  Reports : Run → Work
  Writes : Writing → Work
  Loads : Load → Work
  Explains : Explaining → Work

-- the canonical text of the statements
abbrev pub canonical_of : Judged → List ℕ
canonical_of judged = canon judged.statements

-- the work of a job: a check writes the canonical text, a plan the lines of the queries, a load the numbers of a run, and an explaining why each result is there
abbrev pub work_of : Option Job → Work
work_of None = Nothing
work_of (Some (job.Run queries events stats)) = Reports (record { queries = queries; events = events; stats = stats })
work_of (Some (job.Check queries)) = Writes (record { queries = queries; text_of = canonical_of })
work_of (Some (job.Plan queries)) = Writes (record { queries = queries; text_of = plan_of })
work_of (Some (job.Load seed events)) = Loads (record { seed = seed; events = events })
work_of (Some (job.Explain queries events)) = Explains (record { queries = queries; events = events })

-- what holds, by the work
abbrev pub ByWork : Work → Type 0 → (Run → Type 0) → (Writing → Type 0) → (Load → Type 0) → (Explaining → Type 0) → Type 0
ByWork Nothing N R W L E = N
ByWork (Reports run) N R W L E = R run
ByWork (Writes writing) N R W L E = W writing
ByWork (Loads load) N R W L E = L load
ByWork (Explains explaining) N R W L E = E explaining

-- the work hears events, and this holds of it
abbrev pub ForEvents : Work → (Run → Type 0) → (Load → Type 0) → (Explaining → Type 0) → Type 0
ForEvents work R L E = ByWork work ⊥ R (λ writing. ⊥) L E

-- the work has queries, and this holds of the name of their file, or of what the generator is asked for
abbrev pub ForQueries : Work → (List ℕ → Type 0) → (Load → Type 0) → Type 0
ForQueries work P L = ByWork work ⊥ (λ run. P run.queries) (λ writing. P writing.queries) L (λ explaining. P explaining.queries)

-- where the work has queries, this holds of them
abbrev pub IfQueries : Work → (List ℕ → Type 0) → (Load → Type 0) → Type 0
IfQueries work P L = ByWork work ⊤ (λ run. P run.queries) (λ writing. P writing.queries) L (λ explaining. P explaining.queries)

-- a run and an explaining have both sides, a text about queries theirs alone, and a run of the generator's texts none
abbrev pub has_side : Work → Side → Bool
has_side Nothing side = false
has_side (Reports run) side = true
has_side (Writes writing) Queries = true
has_side (Writes writing) Events = false
has_side (Loads load) side = false
has_side (Explains explaining) side = true

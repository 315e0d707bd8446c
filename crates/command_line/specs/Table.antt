-- The job that the words of the command line name.
use Rattle.std.specs.Prelude.{◌≡◌, ℕ, ◌<◌, ◌≤◌, ◌^◌, Bool, false, List, [], ◌∷◌, Option, Some, None, codes, if◌then◌else◌, map, option_and_then, option_map}
use Rattle.std.specs.Borrow.{Bor}
use Rattle.std.specs.Option.{option_map_or}
use Rattle.std.specs.Str.{bytes_eq}
use Rattle.clap.specs.Faults.{fault_of}
use Rattle.clap.specs.Kinds.{Kinds}
use Rattle.clap.specs.Simple.{matches_of}
use Rattle.clap.specs.Walk.{Row, Text, all_of, first_of}
use Rattle.command_line.specs.Command.{the_command}
use Rattle.command_line.specs.declared.job.Job.{Job}
use Rattle.command_line.specs.declared.job.Job.TheVariants.{Check, Explain, Load, Plan, Run}
use Rattle.command_line.specs.Numbers.{number_within}

-- the words as bytes
abbrev pub texts_of : List (Bor Text) → List Text
texts_of words = map (λ word. word.now) words

-- the only value, where there is just one
abbrev pub only : List Text → Option Text
only (value ∷ []) = Some value
only values = None

-- a run has two values, its queries and its events, and may have the flag
abbrev pub run_of : Bool → List Text → Option Job
run_of stats (queries ∷ events ∷ []) = Some (Run queries events stats)
run_of stats values = None

-- an explaining has two values, its queries and its events
abbrev pub explain_of : List Text → Option Job
explain_of (queries ∷ events ∷ []) = Some (Explain queries events)
explain_of values = None

-- a load has two values, its seed below 2^31 and its number of events from 1 to 200,000
abbrev pub load_of : List Text → Option Job
load_of (seed ∷ events ∷ []) = option_and_then (λ s. option_map (λ n. Load s n) (number_within 1 200000 events)) (number_within 0 2147483647 seed)
load_of values = None

-- the table of the jobs: `run QUERIES EVENTS`, with which the flag may go, `check QUERIES`, `plan QUERIES`, `explain QUERIES EVENTS` and `load SEED N`
abbrev pub job_by : Bool → Text → List Text → Option Job
job_by stats action values =
    if bytes_eq action (codes "run") then run_of stats values
    else (if stats then None
    else (if bytes_eq action (codes "check") then option_map Check (only values)
    else (if bytes_eq action (codes "plan") then option_map Plan (only values)
    else (if bytes_eq action (codes "explain") then explain_of values
    else (if bytes_eq action (codes "load") then load_of values else None)))))

-- the job of a flag, an action and its values, which needs both an action and values
abbrev pub job_given : Bool → Option Text → Option (List Text) → Option Job
job_given stats (Some action) (Some values) = job_by stats action values
job_given stats (Some action) None = None
job_given stats None values = None

-- the flag was given
abbrev pub has_stats : List Row → Bool
has_stats rows = option_map_or (λ text. bytes_eq text (codes "true")) (first_of (codes "stats") rows) false

-- the job of what the command found
abbrev pub job_found : List Row → Option Job
job_found rows = job_given (has_stats rows) (first_of (codes "action") rows) (all_of (codes "values") rows)

-- the rows of words that have no kind of fault
abbrev pub rows_without : Kinds → List Row → Option (List Row)
rows_without [] rows = Some rows
rows_without (kind ∷ kinds) rows = None

-- what the command finds in the words, where it takes them
unfoldable pub rows_taken : List Text → Option (List Row)
rows_taken words = rows_without (fault_of the_command words) (matches_of the_command words)

-- the job that the words ask for, if they ask for one
abbrev pub job : List Text → Option Job
job words = option_and_then job_found (rows_taken words)

-- where the job is a load, its seed is below 2^31, and it has from 1 to 200,000 events
abbrev pub IsInRange : Option Job → Type 0
IsInRange asked = (seed events : ℕ) → asked ≡ Some (Load seed events) → (seed < 2 ^ 31) × (0 < events) × (events ≤ 200000)

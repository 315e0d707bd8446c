-- A query text in parts, over event texts without control lines.
use Rattle.std.specs.Prelude.{◌≡◌, ℕ, Bool, List, [], ◌∷◌, Option, Some, None, Contains, if◌then◌else◌, map}
use Rattle.std.specs.List.{All, flat_map}
use Rattle.std.specs.Str.{bytes_eq}
use Rattle.semantics.specs.Histories.{Event, times}
use Rattle.semantics.specs.Programs.{Query}
use Rattle.semantics.specs.Report.{epoch, lines_at}
use Rattle.catalogue.specs.Judgement.{Accepts, Judged, program_of}
use Rattle.courses.specs.Course.{events_in}
use Rattle.courses.specs.Laws.{HasNoControlLine}
use Rattle.courses.specs.QuerySet.{set_of}
use Rattle.courses.specs.Reports.{closed_in, refused_in, report_of_closed}
use Rattle.independence.specs.Enlarging.{AddQueries}
use Rattle.independence.specs.Independence.{HasTwin}

-- the part is an accepted text of statements of the whole, with each of its declarations
pub record IsPartOf (whole part : Judged) : Type 0 where
  pub text : List ℕ
  pub accepted : Accepts text part
  pub of_whole : AddQueries part.statements whole.statements

-- the names of a text's queries, in the order of the file
abbrev pub names_of : Judged → List (List ℕ)
names_of judged = map (λ (query : Query). query.name) (program_of judged).queries

-- each query of the whole stands in some part
abbrev pub HaveEachQuery : Judged → List Judged → Type 0
HaveEachQuery whole parts = All (Contains (flat_map names_of parts)) (names_of whole)

-- the events of the epochs that an event text closes
abbrev pub closed_by : List ℕ → Bool → Judged → List Event
closed_by events ended judged = events_in (closed_in (set_of judged) events ended)

-- the first query of the name, if one has it
abbrev pub named_in : List ℕ → List Query → Option Query
named_in name [] = None
named_in name (query ∷ queries) = if bytes_eq query.name name then Some query else named_in name queries

-- the lines at a time of the query that the part has, and these others where it has none
abbrev pub lines_or : Judged → List Event → ℕ → Option Query → List ℕ → List ℕ
lines_or part history time None others = others
lines_or part history time (Some query) others = lines_at (program_of part) history time query

-- the lines at a time of the query of a name in the first of the parts that has it, and nothing where none has it
abbrev pub lines_in_parts : List ℕ → Bool → ℕ → List ℕ → List Judged → List ℕ
lines_in_parts events ended time name [] = []
lines_in_parts events ended time name (part ∷ parts) = lines_or part (closed_by events ended part) time (named_in name (program_of part).queries) (lines_in_parts events ended time name parts)

-- over an event text each part refuses the line that the whole does and closes the same epochs, each of its queries has the lines of the whole's query of its name, and the report of the whole is, epoch by epoch and query by query, the lines of the query in the first part that has it
pub record ReportInParts (whole : Judged) (parts : List Judged) (events : List ℕ) (ended : Bool) : Type 0 where
  pub refused_are : All (λ part. refused_in (set_of part) events ended ≡ refused_in (set_of whole) events ended) parts
  pub epochs_are : All (λ part. times (closed_by events ended part) ≡ times (closed_by events ended whole)) parts
  pub lines_are : All (λ part. All (HasTwin (program_of part) (program_of whole) (closed_by events ended part) (closed_by events ended whole)) (program_of part).queries) parts
  pub report_is :
      report_of_closed (set_of whole) events ended
      ≡ flat_map (λ time. flat_map (λ name. lines_in_parts events ended time name parts) (names_of whole)) (times (closed_by events ended whole))

-- parts that have each query together report what the whole does
abbrev pub QueryPartsReportTheWhole : Type 0
QueryPartsReportTheWhole =
    (text : List ℕ) (whole : Judged) (parts : List Judged) (events : List ℕ) (ended : Bool) → Accepts text whole → All (IsPartOf whole) parts → HaveEachQuery whole parts → HasNoControlLine events ended → ReportInParts whole parts events ended

-- where the parts' queries, part after part, are those of the whole in the order of its file, the epochs of the parts, part after part, are those of the whole
abbrev pub PartsInTurnReportTheWhole : Type 0
PartsInTurnReportTheWhole =
    (text : List ℕ) (whole : Judged) (parts : List Judged) (events : List ℕ) (ended : Bool) → Accepts text whole → All (IsPartOf whole) parts → names_of whole ≡ flat_map names_of parts → HasNoControlLine events ended
    → report_of_closed (set_of whole) events ended
    ≡ flat_map (λ time. flat_map (λ part. epoch (program_of part) (closed_by events ended part) time) parts) (times (closed_by events ended whole))

-- No result depends on a query that isn't read from.
use Rattle.std.specs.Prelude.{◌≡◌, ℕ, List, Contains}
use Rattle.std.specs.List.{All}
use Rattle.semantics.specs.Histories.{Event}
use Rattle.semantics.specs.Programs.{Program, Query}
use Rattle.semantics.specs.Report.{lines_at}
use Rattle.semantics.specs.Results.{results}
use Rattle.catalogue.specs.Judgement.{Accepts, Judged, program_of}
use Rattle.independence.specs.Hearing.{HearTheSame}
use Rattle.independence.specs.ReadsFrom.{ReadsTheSame}

-- the other program has a query of the same name, which at each time has the same results over its history, and so the same lines
pub record HasTwin (program other : Program) (history other_history : List Event) (query : Query) : Type 0 where
  pub twin : Query
  pub stands : Contains other.queries twin
  pub same_name : twin.name ≡ query.name
  pub same_results : (time : ℕ) → results other other_history twin.stream time ≡ results program history query.stream time
  pub same_lines : (time : ℕ) → lines_at other other_history time twin ≡ lines_at program history time query

-- a query has the same results in each accepted text in which it reads the same, over histories in which its declared streams hear the same, whatever else stands or is heard there
abbrev pub ResultsDependOnReadsAlone : Type 0
ResultsDependOnReadsAlone =
    (text other_text : List ℕ) (judged other : Judged) (history other_history : List Event) → Accepts text judged → Accepts other_text other
    → All (λ query. ReadsTheSame judged.statements other.statements query.name → HearTheSame judged other history other_history query.name → HasTwin (program_of judged) (program_of other) history other_history query) (program_of judged).queries

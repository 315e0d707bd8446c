-- How far the report of a run was written where a write failed.
use Rattle.std.specs.Prelude.{◌≡◌, ◌<◌, ◌≤◌, ℕ, List, [], ◌++◌, Bool, true, false, length, take, Option, None, Some, IfSome}
use Rattle.std.specs.Io.KnownBytes.{prepend_known}
use Rattle.cay_host.specs.declared.side.Side.TheVariants.{Events}
use Rattle.cay_host.specs.Output.{Wrote}
use Rattle.cay_host.specs.Told.{Told}
use Rattle.courses.specs.QuerySet.{QuerySet}
use Rattle.courses.specs.Reports.{refused_in, report_of_closed}
use Rattle.cayuga_run.specs.Reports.{events_heard, program_behind, report_of_heard}
use Rattle.cayuga_run.specs.Stats.{AreStats, Stats, stats_line}

-- all of the earlier text was appended, and a proper prefix of what the later one has beyond it
pub record WroteUpTo (earlier later : List ℕ) (old new : Told) : Type 0 where
  pub more : List ℕ
  pub goes_on : later ≡ earlier ++ more
  pub size : ℕ
  pub within : size < length more
  pub wrote : Wrote (earlier ++ take size more) old new

-- the bytes that were taken of the events have two parts, and the second has at most 65,536 bytes: the report of the epochs that the first part closes was written, and a proper prefix of the rows that the second part within the limit adds, or the end of the text where it has ended behind the first part
pub record StoppedWriting (set : QuerySet) (limit : ℕ) (events : Option (List ℕ)) (old new : Told) : Type 0 where
  pub before : List ℕ
  pub piece : List ℕ
  pub ended : Bool
  pub taken : events ≡ prepend_known (before ++ piece) (new.left Events)
  pub within : length before ≤ limit
  pub few : length piece ≤ 65536
  pub whole : ended ≡ true → IfSome events (λ text. text ≡ before)
  pub wrote : WroteUpTo (report_of_closed set before false) (report_of_closed set (take limit (before ++ piece)) ended) old new

-- the events were heard to their end and none was refused: their report was written, and a proper prefix of the stats line
pub record StoppedInStats (set : QuerySet) (limit : ℕ) (events : List ℕ) (old new : Told) : Type 0 where
  pub within : length events ≤ limit
  pub none_refused : refused_in set events true ≡ None
  pub read : new.left Events ≡ Some []
  pub stats : Stats
  pub are : AreStats (program_behind set events) (events_heard set events) stats
  pub wrote : WroteUpTo (report_of_heard set events) (report_of_heard set events ++ stats_line stats) old new

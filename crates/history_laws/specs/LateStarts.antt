-- What starts late, and a history that begins late.
use Rattle.std.specs.Prelude.{◌≡◌, ℕ, ◌+◌, ◌<◌, ◌≤◌, Bool, nat_le, List, ◌++◌}
use Rattle.std.specs.List.{All, filter, flat_map}
use Rattle.event_types.specs.Tuple.{IsSound, TupleView}
use Rattle.semantics.specs.Histories.{Event, heard_on, times}
use Rattle.semantics.specs.Programs.{Program}
use Rattle.semantics.specs.Report.{epoch}
use Rattle.semantics.specs.Results.{results}

-- whether the tuple starts at the time or later
abbrev pub is_late : ℕ → TupleView → Bool
is_late start tuple = nat_le start tuple.from

-- the tuples that start at the time or later
abbrev pub late : ℕ → List TupleView → List TupleView
late start tuples = filter (is_late start) tuples

-- no event starts after its detection
abbrev pub AreSound : List Event → Type 0
AreSound history = All (λ event. IsSound event.tuple) history

-- on each declared stream both histories have the same tuples of those that start at the time or later, in the same order
abbrev pub HearTheSameFrom : ℕ → ℕ → List Event → List Event → Type 0
HearTheSameFrom start declared history others = (stream : ℕ) → stream < declared → late start (heard_on history stream) ≡ late start (heard_on others stream)

-- results that start at a time or later depend on no event that starts before it
abbrev pub LateStartsDependOnLateEvents : Type 0
LateStartsDependOnLateEvents =
    (program : Program) (history others : List Event) (start : ℕ) → AreSound history → AreSound others → HearTheSameFrom start program.declared history others
    → (stream time : ℕ) → late start (results program history stream time) ≡ late start (results program others stream time)

-- the tuple spans at most so much time
abbrev pub SpansAtMost : ℕ → TupleView → Type 0
SpansAtMost span tuple = tuple.at ≤ tuple.from + span

-- where two histories have the same late events, and in both the results at a time span at most so much, and that much time has passed, they are the same
abbrev pub ResultsStandAfterARestart : Type 0
ResultsStandAfterARestart =
    (program : Program) (history others : List Event) (start span : ℕ) → AreSound history → AreSound others → HearTheSameFrom start program.declared history others
    → (stream time : ℕ) → start + span ≤ time → All (SpansAtMost span) (results program history stream time) → All (SpansAtMost span) (results program others stream time)
    → results program history stream time ≡ results program others stream time

-- each result of the program's queries at the time or later spans at most so much
abbrev pub ResultsSpanAtMost : ℕ → Program → List Event → ℕ → Type 0
ResultsSpanAtMost span program history from = All (λ query. (time : ℕ) → from ≤ time → All (SpansAtMost span) (results program history query.stream time)) program.queries

-- the lines of the epochs from a time on
abbrev pub report_from : ℕ → Program → List Event → List ℕ
report_from from program history = flat_map (epoch program history) (filter (λ time. nat_le from time) (times history))

-- a program that hears only the events after those detected before the time reports what it would have reported, once the span has passed, where with and without the past all results from then on span at most so much
abbrev pub ReportStandsAfterARestart : Type 0
ReportStandsAfterARestart =
    (program : Program) (past history : List Event) (start span : ℕ) → AreSound (past ++ history) → All (λ event. event.tuple.at < start) past
    → ResultsSpanAtMost span program (past ++ history) (start + span) → ResultsSpanAtMost span program history (start + span)
    → report_from (start + span) program (past ++ history) ≡ report_from (start + span) program history

-- Laws over histories and the report.
use Rattle.std.specs.Prelude.{◌≡◌, ⊤, ℕ, ◌<◌, ◌≤◌, length, List, [], ◌∷◌, ◌++◌}
use Rattle.std.specs.List.{All, flat_map}
use Rattle.semantics.specs.Histories.{Event, times}
use Rattle.semantics.specs.Programs.{Program}
use Rattle.semantics.specs.Results.{results}
use Rattle.semantics.specs.Report.{epoch, report}

-- no event is detected before an earlier one of the list
abbrev pub NeverFalls : List Event → Type 0
NeverFalls [] = ⊤
NeverFalls (event ∷ later) = All (λ late. event.tuple.at ≤ late.tuple.at) later × NeverFalls later

-- each time is below all after it
abbrev pub Ascends : List ℕ → Type 0
Ascends [] = ⊤
Ascends (time ∷ later) = All (λ late. time < late) later × Ascends later

-- each event of a history is detected before each of the later events
abbrev pub IsBefore : List Event → List Event → Type 0
IsBefore history later = All (λ event. All (λ late. event.tuple.at < late.tuple.at) later) history

-- the detection times of a history ascend
abbrev pub TimesAscend : Type 0
TimesAscend = (history : List Event) → NeverFalls history → Ascends (times history)

-- the results at a time are unchanged by later events
abbrev pub LaterEventsChangeNothing : Type 0
LaterEventsChangeNothing =
    (program : Program) (history later : List Event) (stream time : ℕ) → All (λ event. time < event.tuple.at) later → results program (history ++ later) stream time ≡ results program history stream time

-- later events only add to the report, and what they add is the lines of their own epochs
abbrev pub ReportGrows : Type 0
ReportGrows =
    (program : Program) (history later : List Event) → IsBefore history later → report program (history ++ later) ≡ report program history ++ flat_map (epoch program (history ++ later)) (times later)

-- events of one later detection time add the lines of that epoch
abbrev pub ReportGrowsByEpochs : Type 0
ReportGrowsByEpochs =
    (program : Program) (history events : List Event) (time : ℕ) → All (λ event. event.tuple.at < time) history → All (λ event. event.tuple.at ≡ time) events → 0 < length events
    → report program (history ++ events) ≡ report program history ++ epoch program (history ++ events) time

-- What the hearing of lines has done. No public clause cites this module.
use Rattle.std.specs.Prelude.{◌≡◌, ⊤, ℕ, ◌<◌, Bool, true, false, List, [], ◌∷◌, ◌++◌, length, map, Option, Some, None, Result, Ok}
use Rattle.semantics.specs.Histories.{Event}
use Rattle.epoch_laws.specs.Standing.{last_time}
use Rattle.stream_schema.specs.Streams.{Entry}
use Rattle.event_csv.specs.Fed.{Fed, HandsOutLines, IsPart, line_feeds_so_far, unread_lines}
use Rattle.event_csv.specs.Lines.{Line}
use Rattle.derivations.specs.HeardLines.{events_of}
use Rattle.derivations.specs.declared.history.Heard.{Heard}
use Rattle.courses.specs.ControlLines.{EntryFault}
use Rattle.courses.specs.EventLines.{Reading, found_here, reading_here, refusal_of, refused_from}
use Rattle.courses.specs.declared.refusal.Refusal.{Refusal}
use Rattle.explanation.specs.declared.fault.HearFault.{HearFault}
use Rattle.explanation.specs.declared.fault.HearFault.TheVariants as fault
use Rattle.explanation.specs.HeardLines.{numbered_at, numbered_events}

-- the detection time of the last event
abbrev pub last_at : List Heard → Option ℕ
last_at history = last_time (events_of history)

-- the refusal of a line of this number behind a history, where this was found on it
abbrev pub refusal_behind : List Heard → ℕ → Result Event EntryFault → Option Refusal
refusal_behind history number found = refusal_of number (last_at history) found

-- the first refusal of lines behind a history
abbrev pub refused_behind : List Heard → List Reading → Option Refusal
refused_behind history lines = refused_from (last_at history) lines

-- the fault is this refusal of lines, or there was no memory
abbrev pub FailsBy : Option Refusal → HearFault → Type 0
FailsBy refusal (fault.Refused found) = refusal ≡ Some found
FailsBy refusal fault.Memory = ⊤
FailsBy refusal (fault.TooMuch limit) = ⊥

-- a line on which this was found isn't refused, and its event was put behind the history
pub record AddsFound (number : ℕ) (found : Result Event EntryFault) (old new : List Heard) : Type 0 where
  pub none_refused : refusal_behind old number found ≡ None
  pub adds : new ≡ old ++ numbered_at number found

-- some lines were taken from a feed and are gone, whatever bytes come; none of them is refused, and their events were put behind the history
pub record HearsSome (streams : List Entry) (lines : List Line) (feed left : Fed) (old new : List Heard) : Type 0 where
  pub gives : HandsOutLines lines feed left
  pub feeds : line_feeds_so_far left ≡ line_feeds_so_far feed
  pub none_refused : refused_behind old (map (reading_here streams) lines) ≡ None
  pub adds : new ≡ old ++ numbered_events (map (reading_here streams) lines)

-- the next line was heard, or no line was there
abbrev pub HearsNext : List Entry → Fed → Fed → List Heard → List Heard → Bool → Type 0
HearsNext streams feed left old new true = ((line : Line) × HearsSome streams (line ∷ []) feed left old new) × (length left.rest < length feed.rest)
HearsNext streams feed left old new false = HearsSome streams [] feed left old new × IsPart left

-- all lines that have their ends were heard
abbrev pub HearsLines : List Entry → Fed → Fed → List Heard → List Heard → Type 0
HearsLines streams feed left old new = ((lines : List Line) × HearsSome streams lines feed left old new) × IsPart left

-- the first refusal of the lines that are left, where the text has ended or not
abbrev pub refused_left : List Entry → Fed → Bool → List Heard → Option Refusal
refused_left streams feed ended history = refused_behind history (map (reading_here streams) (unread_lines feed ended))

-- what is left where the text has ended was heard
pub record HearsRest (streams : List Entry) (feed : Fed) (old new : List Heard) : Type 0 where
  pub none_refused : refused_left streams feed true old ≡ None
  pub adds : new ≡ old ++ numbered_events (map (reading_here streams) (unread_lines feed true))

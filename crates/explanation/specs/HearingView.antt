-- What is heard of an event text that comes in pieces.
use Rattle.std.specs.Prelude.{◌≡◌, ⊤, ℕ, ◌<◌, ◌≤◌, Bool, true, false, List, [], ◌++◌, length, map, take, Some, None}
use Rattle.semantics.specs.TypedPrograms.{HaveTheirKinds}
use Rattle.stream_schema.specs.Streams.{Entry}
use Rattle.event_csv.specs.Fed.{Fed, fed_more, line_feeds_so_far, unread_lines}
use Rattle.event_csv.specs.Lines.{Line, lines}
use Rattle.derivations.specs.declared.history.Heard.{Heard}
use Rattle.courses.specs.EventLines.{reading_here, readings_here, refused}
use Rattle.explanation.specs.declared.fault.HearFault.{HearFault}
use Rattle.explanation.specs.declared.fault.HearFault.TheVariants as fault
use Rattle.explanation.specs.HeardLines.{numbered_events}

-- what a feed holds, the events that were heard, the most bytes of the text, and how many were fed
pub record HearingView : Type 0 where
  pub feed : Fed
  pub history : List Heard
  pub limit : ℕ
  pub fed : ℕ

-- these bytes of a text were fed, which are within the limit: some lines were taken of them and no other ends in them; none of the lines is refused, and the history has their events
pub record HasHeard (streams : List Entry) (bytes : List ℕ) (h : HearingView) : Type 0 where
  pub taken : List Line
  pub goes_on : (more : List ℕ) (ended : Bool) → lines (bytes ++ more) ended ≡ taken ++ unread_lines (fed_more h.feed more) ended
  pub none_left : unread_lines h.feed false ≡ []
  pub none_refused : refused (map (reading_here streams) taken) ≡ None
  pub history : h.history ≡ numbered_events (map (reading_here streams) taken)
  pub counted : h.fed ≡ length bytes
  pub within : length bytes ≤ h.limit
  pub feeds : line_feeds_so_far h.feed ≤ length bytes

-- some bytes of a text were fed and heard
abbrev pub IsHearing : List Entry → HearingView → Type 0
IsHearing streams h = (bytes : List ℕ) × HasHeard streams bytes h

-- one more piece was heard
abbrev pub HearsPiece : List Entry → List ℕ → HearingView → HearingView → Type 0
HearsPiece streams piece old new = (bytes : List ℕ) → HasHeard streams bytes old → HasHeard streams (bytes ++ piece) new

-- why the hearing stopped in a text: a line that ends within the limit is refused, or none is and the text is longer, or there was no memory
abbrev pub StopsWithin : List Entry → ℕ → List ℕ → HearFault → Type 0
StopsWithin streams limit text (fault.Refused refusal) = refused (readings_here streams (take limit text) false) ≡ Some refusal
StopsWithin streams limit text (fault.TooMuch most) = (most ≡ limit) × (limit < length text) × (refused (readings_here streams (take limit text) false) ≡ None)
StopsWithin streams limit text fault.Memory = ⊤

-- the hearing stopped in a piece
abbrev pub StopsAtPiece : List Entry → List ℕ → HearingView → HearFault → Type 0
StopsAtPiece streams piece old why = (bytes : List ℕ) → HasHeard streams bytes old → StopsWithin streams old.limit (bytes ++ piece) why

-- no line of a text that has ended is refused, and these are its events
pub record HearsAll (streams : List Entry) (text : List ℕ) (history : List Heard) : Type 0 where
  pub none_refused : refused (readings_here streams text true) ≡ None
  pub events : history ≡ numbered_events (readings_here streams text true)

-- the text has ended behind the bytes that were fed, and was heard
abbrev pub HearsEnd : List Entry → HearingView → HearingView → Type 0
HearsEnd streams old new = (bytes : List ℕ) → HasHeard streams bytes old → HearsAll streams bytes new.history

-- why the hearing stopped where a text has ended: a line is refused, or there was no memory
abbrev pub StopsLast : List Entry → List ℕ → HearFault → Type 0
StopsLast streams text (fault.Refused refusal) = refused (readings_here streams text true) ≡ Some refusal
StopsLast streams text (fault.TooMuch most) = ⊥
StopsLast streams text fault.Memory = ⊤

-- the text has ended behind the bytes that were fed, and the hearing stopped
abbrev pub StopsAtEnd : List Entry → HearingView → HearFault → Type 0
StopsAtEnd streams old why = (bytes : List ℕ) → HasHeard streams bytes old → StopsLast streams bytes why

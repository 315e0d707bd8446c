-- What a feed holds of an event text, and the lines that are left in it.
use Rattle.std.specs.Prelude.{◌≡◌, ℕ, ◌+◌, ◌<◌, ◌≤◌, Bool, true, false, List, [], ◌∷◌, ◌++◌, length, count_by, slice_get, Some, if◌then◌else◌}
use Rattle.csv.specs.Reading.{strip_bom}
use Rattle.event_csv.specs.Lines.{GoOn, Line, is_line_feed, is_long, line_limit, lines_from}
use Rattle.event_csv.specs.declared.got.Got.{Got}
use Rattle.event_csv.specs.declared.got.Got.TheVariants as got

-- how many lines are gone, whether the front of the text is passed, whether a line that isn't empty was met, and the bytes that are left
pub record Fed : Type 0 where
  pub gone : ℕ
  pub begun : Bool
  pub met : Bool
  pub rest : List ℕ

-- a feed that was given nothing
abbrev pub unfed : Fed
unfed = record { gone = 0; begun = false; met = false; rest = [] }

-- the same with more bytes at the end of the text
abbrev pub fed_more : Fed → List ℕ → Fed
fed_more fed piece = record fed { rest = fed.rest ++ piece }

-- the bytes that are left, without the mark that may stand at the front of the text
abbrev pub unread_text : Fed → List ℕ
unread_text fed = if fed.begun then fed.rest else strip_bom fed.rest

-- the lines that are left, where the text has ended or not
abbrev pub unread_lines : Fed → Bool → List Line
unread_lines fed ended = lines_from fed.gone fed.met (unread_text fed) ended

-- how many line feeds are among the bytes that are left
abbrev pub line_feeds_in : List ℕ → ℕ
line_feeds_in bytes = count_by is_line_feed bytes

-- how many line feeds came so far
abbrev pub line_feeds_so_far : Fed → ℕ
line_feeds_so_far fed = fed.gone + line_feeds_in fed.rest

-- whatever bytes come, the lines that were left are the given ones, and then those that are left now
abbrev pub HandsOutLines : List Line → Fed → Fed → Type 0
HandsOutLines given old new = (more : List ℕ) (ended : Bool) → unread_lines (fed_more old more) ended ≡ given ++ unread_lines (fed_more new more) ended

-- whatever bytes come, this is the first line that is left
abbrev pub IsNext : Line → Fed → Type 0
IsNext line fed = (more : List ℕ) (ended : Bool) → slice_get (unread_lines (fed_more fed more) ended) 0 ≡ Some line

-- the bytes of a line that isn't too long: there are some, and no line feed is among them
pub record IsLine (bytes : List ℕ) : Type 0 where
  pub nonempty : 0 < length bytes
  pub short : length bytes ≤ line_limit
  pub no_feed : line_feeds_in bytes ≡ 0

-- a line that is too long has this number, and comes next
pub record IsLongNext (number : ℕ) (fed : Fed) : Type 0 where
  pub bytes : List ℕ
  pub long : is_long bytes ≡ true
  pub next : IsNext (record { number = number; bytes = bytes }) fed

-- no line is left unless the text has ended, and what is left is part of one line that isn't too long yet
pub record IsPart (fed : Fed) : Type 0 where
  pub none : unread_lines fed false ≡ []
  pub short : length fed.rest ≤ line_limit
  pub no_feed : line_feeds_in fed.rest ≡ 0

-- at the end of the text, the one line that is left, or none
abbrev pub LeavesLast : Fed → Got → Type 0
LeavesLast fed (got.Line number bytes) = (unread_lines fed true ≡ record { number = number; bytes = bytes.now } ∷ []) × IsLine bytes.now
LeavesLast fed (got.Long number) = ⊥
LeavesLast fed got.NotYet = unread_lines fed true ≡ []

-- the next line is taken, and is gone
pub record TakesLine (line : Line) (old new : Fed) : Type 0 where
  pub given : HandsOutLines (line ∷ []) old new
  pub is_line : IsLine line.bytes
  pub shorter : length new.rest < length old.rest

-- what is taken from a feed: its next line, which is then gone; or none, where the next line is too long, or no line is there yet
abbrev pub TakesFromFeed : Fed → Fed → Got → Type 0
TakesFromFeed old new (got.Line number bytes) = TakesLine (record { number = number; bytes = bytes.now }) old new
TakesFromFeed old new (got.Long number) = HandsOutLines [] old new × IsLongNext number new
TakesFromFeed old new got.NotYet = HandsOutLines [] old new × IsPart new

-- whatever bytes come, the lines that were left before the end of the text are left, and come first
abbrev pub LinesStay : Type 0
LinesStay = (fed : Fed) (more : List ℕ) (ended : Bool) → GoOn (unread_lines fed false) (unread_lines (fed_more fed more) ended)

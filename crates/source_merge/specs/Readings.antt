-- The lines of an event file as they are read: a line that begins with > is read as an event line, whose stream is unknown. No public clause cites this module yet.
use Rattle.std.specs.Prelude.{ℕ, Bool, List, map}
use Rattle.stream_schema.specs.Streams.{Entry}
use Rattle.event_csv.specs.Event.{event}
use Rattle.event_csv.specs.Lines.{Line, lines}
use Rattle.source_merge.specs.Turns.{Input, SourceLine}

-- a line as it is read over these streams
abbrev pub source_line : List Entry → Line → SourceLine
source_line streams line = record { number = line.number; found = event streams line.bytes }

-- what bytes of an event file give, which have ended or not
abbrev pub input_of : List Entry → List ℕ → Bool → Input
input_of streams text whole = record { left = map (source_line streams) (lines text whole); whole = whole }

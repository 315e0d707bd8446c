-- Laws of streams over histories.
use Rattle.std.specs.Prelude.{◌≡◌, ℕ, ◌==◌, List}
use Rattle.std.specs.List.{All, filter, flat_map}
use Rattle.semantics.specs.Histories.{Event}
use Rattle.automaton.specs.Work.{IsInOrder}
use Rattle.epoch_laws.specs.BornLines.{BornLine, lines_in}
use Rattle.epoch_laws.specs.Histories.{events_before, streams_over}
use Rattle.epoch_laws.specs.Lines.{given_now}
use Rattle.epoch_laws.specs.Times.{before, during, IsPast, streams_before, streams_during}

-- the streams over the events before a time are what the streams were before it
abbrev pub StreamsEarly : Type 0
StreamsEarly =
    (time : ℕ) (lines : List BornLine) (order : List ℕ) (history : List Event) → All (λ event. IsPast time event.tuple) history
    → (stream : ℕ) → before time (streams_over lines order history stream) ≡ streams_over lines order (events_before time history) stream

-- a derived stream has in the epoch what its lines give in it, one after the other
abbrev pub StreamsGive : Type 0
StreamsGive =
    (time : ℕ) (lines : List BornLine) (order : List ℕ) (history : List Event) → All (λ event. IsPast time event.tuple) history → IsInOrder (lines_in lines) order
    → let streams = streams_over lines order history in
    All (λ stream. during time (streams stream) ≡ flat_map (given_now (streams_during time streams) (streams_before time streams)) (filter (λ born. born.line.out == stream) lines)) order

-- What the tuples of an epoch are for a query of a program.
use Rattle.std.specs.Prelude.{◌≡◌, ℕ, ◌≤◌, List, ◌++◌}
use Rattle.std.specs.List.{All}
use Rattle.std.specs.List.Sorted.{IsPermutation}
use Rattle.event_types.specs.Order.{sorted}
use Rattle.event_types.specs.Tuple.{IsSound}
use Rattle.semantics.specs.Denotation.{Streams}
use Rattle.semantics.specs.Histories.{Event, heard_on}
use Rattle.semantics.specs.Programs.{Program, env}
use Rattle.semantics.specs.Results.{results}
use Rattle.automaton.specs.States.{Net}
use Rattle.epoch_laws.specs.BornLines.{BornLine}
use Rattle.epoch_laws.specs.Closing.{IsEpoch, Stores}
use Rattle.epoch_laws.specs.Histories.{streams_over}
use Rattle.epoch_laws.specs.StoresStandFor.{Serves, StoresStandFor}

-- over a history the lines give a stream of the program the tuples that the program gives it, up to order
abbrev pub Agree : List BornLine → List ℕ → Program → List Event → ℕ → Type 0
Agree lines order program history stream = IsPermutation (streams_over lines order history stream) (env program history stream)

-- the tuples of an epoch in such a stream, put in order, are the stream's results at its time
abbrev pub BatchIsResults : Type 0
BatchIsResults =
    (net : Net) (lines : List BornLine) (order : List ℕ) (now time : ℕ) (stores : Stores) (past events : List Event) (news : Streams) (program : Program) (stream : ℕ)
    → Serves net lines order → StoresStandFor net lines order now stores past → now ≤ time → All (λ event. IsSound event.tuple × (event.tuple.at ≡ time)) events
    → IsEpoch net order stores (heard_on events) news → Agree lines order program (past ++ events) stream
    → sorted (news stream) ≡ results program (past ++ events) stream time

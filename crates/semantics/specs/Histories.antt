-- Histories: the events that were heard, in order.
use Rattle.std.specs.Prelude.{ℕ, ◌==◌, not, nat_le, List, [], ◌∷◌, map}
use Rattle.std.specs.List.{filter}
use Rattle.event_types.specs.Tuple.{TupleView}

-- an event: the number of its stream, and its tuple
pub record Event : Type 0 where
  pub stream : ℕ
  pub tuple : TupleView

-- the events that are detected by a time
abbrev pub upto : ℕ → List Event → List Event
upto time history = filter (λ event. nat_le event.tuple.at time) history

-- the tuples that were heard on a stream, in order
abbrev pub heard_on : List Event → ℕ → List TupleView
heard_on history stream = map (λ event. event.tuple) (filter (λ event. event.stream == stream) history)

-- the detection times, each once, in the order in which they come; in a history they never fall, so this is their ascending order
abbrev pub times : List Event → List ℕ
times [] = []
times (event ∷ later) = event.tuple.at ∷ filter (λ time. not (time == event.tuple.at)) (times later)

-- The runs of FOLD from a binding (EDBT 2006 has the idea of an iteration; this meaning is this project's profile).
use Rattle.std.specs.Prelude.{ℕ, zero, suc, List, [], ◌∷◌, length, Some}
use Rattle.std.specs.List.{filter, flat_map}
use Rattle.event_types.specs.Tuple.{TupleView}
use Rattle.semantics.specs.Scalars.{Sc, Pr}
use Rattle.semantics.specs.Values.{applied}
use Rattle.semantics.specs.Truth.{all_true}
use Rattle.semantics.specs.Nexts.{nexts}

-- the new binding: the scalars' values over the old one and the event, from the start of the old one to the event's detection
abbrev pub rebound : List Sc → TupleView → TupleView → TupleView
rebound parts binding event = applied parts event (Some binding) binding.from event.at

-- the nexts of the binding for which the go-on condition holds too
abbrev pub goers : List Pr → List Pr → List TupleView → TupleView → List TupleView
goers choose on tuples binding = filter (λ event. all_true on event (Some binding)) (nexts choose binding tuples)

-- the runs of at most a number of events each: every new binding, followed by the runs from it
abbrev pub runs_within : ℕ → List Pr → List Pr → List Sc → List TupleView → TupleView → List TupleView
runs_within zero choose on parts tuples binding = []
runs_within (suc most) choose on parts tuples binding =
    flat_map (λ event. rebound parts binding event ∷ runs_within most choose on parts tuples (rebound parts binding event)) (goers choose on tuples binding)

-- the runs from a binding: none has more events than the list has tuples, since each is detected after the one before
abbrev pub runs : List Pr → List Pr → List Sc → List TupleView → TupleView → List TupleView
runs choose on parts tuples binding = runs_within (length tuples) choose on parts tuples binding

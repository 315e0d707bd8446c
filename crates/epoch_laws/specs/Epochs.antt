-- One epoch at one wait: the tuples of a detection time against the instances that wait.
use Rattle.std.specs.Prelude.{Bool, List, [], ◌++◌, map, Option, Some, None}
use Rattle.std.specs.List.{filter, flat_map}
use Rattle.event_types.specs.Tuple.{TupleView}
use Rattle.instances.specs.declared.instance.Instance.{Instance}
use Rattle.semantics.specs.Denotation.{joined}
use Rattle.semantics.specs.Nexts.{is_eligible}
use Rattle.semantics.specs.Runs.{rebound}
use Rattle.semantics.specs.Scalars.{Pr}
use Rattle.semantics.specs.Truth.{all_true}
use Rattle.automaton.specs.Waiting.{is_empty}
use Rattle.automaton.specs.declared.wait.Turn.{Turn}
use Rattle.epoch_laws.specs.Instances.{began}

-- the tuples of the epoch that are eligible for a binding: they all have its time, so each is a next of a binding that waited
abbrev pub eligible_of : List Pr → List TupleView → TupleView → List TupleView
eligible_of choose tuples binding = filter (is_eligible choose binding) tuples

-- what a binding gives: it is joined with each eligible tuple, and in a FOLD bound anew by each with which it goes on
abbrev pub taken : List Pr → Option Turn → List TupleView → TupleView → List TupleView
taken choose None tuples binding = map (joined binding) (eligible_of choose tuples binding)
taken choose (Some turn) tuples binding = map (rebound turn.set.parts binding) (filter (λ tuple. all_true turn.on tuple (Some binding)) (eligible_of choose tuples binding))

-- what an instance gives: what its binding gives, each of which began when it did
abbrev pub taken_from : List Pr → Option Turn → List TupleView → Instance → List Instance
taken_from choose turn tuples instance = map (began instance.first) (taken choose turn tuples instance.tuple)

-- what the instances of a store give
abbrev pub took : List Pr → Option Turn → List TupleView → List Instance → List Instance
took choose turn tuples store = flat_map (taken_from choose turn tuples) store

-- whether no tuple of the epoch is eligible for a binding, so that it is kept by the filter edge (EDBT 2006, automata)
abbrev pub is_unmet : List Pr → List TupleView → TupleView → Bool
is_unmet choose tuples binding = is_empty (eligible_of choose tuples binding)

-- the instances that are kept
abbrev pub unmatched_after : List Pr → List TupleView → List Instance → List Instance
unmatched_after choose tuples store = filter (λ instance. is_unmet choose tuples instance.tuple) store

-- what goes back to the state by the rebind edge: in a FOLD the new bindings (EDBT 2006, automata)
abbrev pub again : {X : Type 0} → Option Turn → List X → List X
again {X} None bindings = []
again {X} (Some turn) bindings = bindings

-- the store after the epoch: what is kept of it, then what entered and what goes back
abbrev pub stepped : List Pr → Option Turn → List TupleView → List Instance → List Instance → List Instance
stepped choose turn tuples entered store = unmatched_after choose tuples store ++ (entered ++ again turn (took choose turn tuples store))

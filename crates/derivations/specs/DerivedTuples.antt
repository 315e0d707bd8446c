-- What an expression denotes, each tuple with its derivation: the list goes through the streams just as `denote` does.
use Rattle.std.specs.Prelude.{ℕ, zero, suc, Bool, nat_lt, if◌then◌else◌, List, [], ◌∷◌, ◌++◌, length, map, None, Some}
use Rattle.std.specs.List.{filter, flat_map}
use Rattle.event_types.specs.Tuple.{TupleView}
use Rattle.semantics.specs.Scalars.{Pr, Sc}
use Rattle.semantics.specs.Truth.{all_true}
use Rattle.semantics.specs.Nexts.{is_earliest, is_eligible}
use Rattle.semantics.specs.Runs.{rebound}
use Rattle.semantics.specs.Denotation.{joined, selected}
use Rattle.semantics.specs.Expressions.{Ex, Read, Filter, Select, Union, Next, Fold}
use Rattle.derivations.specs.Derivation.{Derivation, listed}
use Rattle.derivations.specs.Derivation as the

-- a tuple, and how it came about
pub record DerivedTuple : Type 0 where
  pub tuple : TupleView
  pub by : Derivation

-- the tuples of each stream with their derivations, by its number
abbrev pub DerivedStreams : Type 0
DerivedStreams = ℕ → List DerivedTuple

-- the tuples alone
abbrev pub tuples_in : List DerivedTuple → List TupleView
tuples_in found = map (λ x. x.tuple) found

-- the derivations alone
abbrev pub derivations_in : List DerivedTuple → List Derivation
derivations_in found = map (λ x. x.by) found

-- the same tuple, whose derivation goes on so
abbrev pub going_on : (Derivation → Derivation) → DerivedTuple → DerivedTuple
going_on way x = record { tuple = x.tuple; by = way x.by }

-- a tuple as it is read of a stream: one of a query's stream says so
abbrev pub as_read : Bool → DerivedTuple → DerivedTuple
as_read is_declared x = if is_declared then x else going_on the.Query x

-- the tuple with the scalars' values; its derivation stays
abbrev pub derived_selected : List Sc → DerivedTuple → DerivedTuple
derived_selected parts x = record { tuple = selected parts x.tuple; by = x.by }

-- those whose tuples are eligible for the binding
abbrev pub derived_eligible : List Pr → TupleView → List DerivedTuple → List DerivedTuple
derived_eligible condition binding found = filter (λ x. is_eligible condition binding x.tuple) found

-- those of which none is detected before
abbrev pub derived_earliest : List DerivedTuple → List DerivedTuple
derived_earliest found = filter (λ x. is_earliest (tuples_in found) x.tuple) found

-- those whose tuples are the nexts of the binding
abbrev pub derived_nexts : List Pr → TupleView → List DerivedTuple → List DerivedTuple
derived_nexts condition binding found = derived_earliest (derived_eligible condition binding found)

-- the left tuple joined with the right one
abbrev pub derived_join : DerivedTuple → DerivedTuple → DerivedTuple
derived_join left right = record { tuple = joined left.tuple right.tuple; by = the.Next left.by right.by }

-- the left tuple joined with each of its nexts
abbrev pub derived_matches : List Pr → List DerivedTuple → DerivedTuple → List DerivedTuple
derived_matches condition found left = map (derived_join left) (derived_nexts condition left.tuple found)

-- a binding of FOLD, and the derivations of the events of its iterations
pub record Run : Type 0 where
  pub tuple : TupleView
  pub events : List Derivation

-- the run with one more event before its own
abbrev pub begun_by : Derivation → Run → Run
begun_by first run = record { tuple = run.tuple; events = first ∷ run.events }

-- the nexts of the binding for which the go-on condition holds too
abbrev pub derived_goers : List Pr → List Pr → List DerivedTuple → TupleView → List DerivedTuple
derived_goers choose on found binding = filter (λ x. all_true on x.tuple (Some binding)) (derived_nexts choose binding found)

-- the runs of at most a number of events each: every new binding, followed by the runs from it
abbrev pub derived_runs_within : ℕ → List Pr → List Pr → List Sc → List DerivedTuple → TupleView → List Run
derived_runs_within zero choose on parts found binding = []
derived_runs_within (suc most) choose on parts found binding =
    flat_map (λ event. record { tuple = rebound parts binding event.tuple; events = event.by ∷ [] } ∷ map (begun_by event.by) (derived_runs_within most choose on parts found (rebound parts binding event.tuple)))
    (derived_goers choose on found binding)

-- the tuple of a run, which began with this binding
abbrev pub derived_fold : Derivation → Run → DerivedTuple
derived_fold first run = record { tuple = run.tuple; by = the.Fold first (listed run.events) }

-- the tuples of the runs from a binding
abbrev pub derived_runs : List Pr → List Pr → List Sc → List DerivedTuple → DerivedTuple → List DerivedTuple
derived_runs choose on parts found binding = map (derived_fold binding.by) (derived_runs_within (length found) choose on parts found binding.tuple)

-- the tuples that an expression stands for, with their derivations, where the first so many streams are declared
abbrev pub derived : ℕ → Ex → DerivedStreams → List DerivedTuple
derived declared (Read stream) streams = map (as_read (nat_lt stream declared)) (streams stream)
derived declared (Filter p e) streams = filter (λ x. all_true p x.tuple None) (derived declared e streams)
derived declared (Select m e) streams = map (derived_selected m.parts) (derived declared e streams)
derived declared (Union e f) streams = map (going_on the.Left) (derived declared e streams) ++ map (going_on the.Right) (derived declared f streams)
derived declared (Next p e f) streams = flat_map (derived_matches p (derived declared f streams)) (derived declared e streams)
derived declared (Fold p q m e f) streams = flat_map (derived_runs p q m.parts (derived declared f streams)) (derived declared e streams)

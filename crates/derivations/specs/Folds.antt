-- Iterations that go on, and the runs that are still to be added. No public clause cites this.
use Rattle.std.specs.Prelude.{◌≡◌, ◌-◌, List, [], ◌∷◌, ◌++◌, map}
use Rattle.semantics.specs.Runs.{rebound}
use Rattle.semantics.specs.Scalars.{Pr, Sc}
use Rattle.algebra.specs.Suits.{SuitsRuns}
use Rattle.derivations.specs.Derivation.{Derivation}
use Rattle.derivations.specs.DerivedTuples.{DerivedTuple, Run, derived_runs_within, tuples_in}
use Rattle.derivations.specs.Views.{derivation_of}
use Rattle.derivations.specs.declared.iteration.Going.{Going}

-- the run behind some events
abbrev pub behind : List Derivation → Run → Run
behind events run = record { tuple = run.tuple; events = events ++ run.events }

-- the run of the events so far
abbrev pub run_of : Going → Run
run_of going = record { tuple = going.binding; events = map derivation_of going.events }

-- the runs with which an iteration goes on
abbrev pub runs_behind : List Pr → List Pr → List Sc → List DerivedTuple → Going → List Run
runs_behind choose on parts found going = map (behind (map derivation_of going.events)) (derived_runs_within going.most choose on parts found going.binding)

-- the runs that are still to come: of each iteration, the last first, its own run, then those that go on from it
abbrev pub runs_left : List Pr → List Pr → List Sc → List DerivedTuple → List Going → List Run
runs_left choose on parts found [] = []
runs_left choose on parts found (going ∷ goings) = runs_left choose on parts found goings ++ run_of going ∷ runs_behind choose on parts found going

-- the conditions and the scalars fit what an iteration meets
abbrev pub IsSuited : List Pr → List Pr → List Sc → List DerivedTuple → Going → Type 0
IsSuited choose on parts found going = SuitsRuns going.most choose on parts (tuples_in found) going.binding

-- an iteration has one event more than another
pub record IsFurther (parts : List Sc) (going : Going) (event : DerivedTuple) (made : Going) : Type 0 where
  pub events : map derivation_of made.events ≡ map derivation_of going.events ++ event.by ∷ []
  pub binding : made.binding ≡ rebound parts going.binding event.tuple
  pub most : made.most ≡ going.most - 1

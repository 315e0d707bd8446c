-- The tests of conditions that instances and tuples may take.
use Rattle.std.specs.Prelude.{ℕ, ◌+◌, List, [], ◌∷◌, Option, Some, None, sum_by}
use Rattle.event_types.specs.Tuple.{TupleView}
use Rattle.instances.specs.Keys.{candidates_of}
use Rattle.instances.specs.declared.instance.Instance.{Instance}
use Rattle.binding_index.specs.KeyParts.{first_key}
use Rattle.automaton.specs.States.{Net, step_at, wait_at}
use Rattle.automaton.specs.declared.step.Stage.{Stage}
use Rattle.automaton.specs.declared.step.Stage.TheVariants.{Keep, Make}
use Rattle.automaton.specs.declared.wait.Turn.{Turn}
use Rattle.automaton.specs.declared.wait.Wait.{Wait}
use Rattle.stream_readers.specs.Ways.{Back, Into, Out, Way, ways_at}
use Rattle.epoch_laws.specs.Closing.{Stores}
use Rattle.epoch_draft.specs.Pairs.{paired}

-- the tests of a tuple in a step: one for each condition
abbrev pub keeps : List Stage → ℕ
keeps [] = 0
keeps (Keep condition ∷ step) = 1 + keeps step
keeps (Make m ∷ step) = keeps step

-- the tests of a tuple on a way
abbrev pub way_work : Net → Way → ℕ
way_work net (Into next) = keeps (step_at net next)
way_work net (Out end) = keeps end.step
way_work net (Back number) = 0

-- the tests of a tuple on all of these ways
abbrev pub ways_work : Net → List Way → ℕ
ways_work net ways = sum_by (way_work net) ways

-- the tests of a tuple with a binding that it is eligible for: in a FOLD one, of the condition on which the new binding goes on
abbrev pub turn_work : Option Turn → ℕ
turn_work None = 0
turn_work (Some turn) = 1

-- the tests of a tuple with a binding at a wait: whether it is eligible, and in a FOLD one more, which is counted though it isn't eligible
abbrev pub pair_work : Wait → ℕ
pair_work wait = 1 + turn_work wait.fold

-- the tests of a tuple with an instance at a state, and of what it makes of it on all ways out
abbrev pub binding_work : Net → ℕ → Wait → TupleView → Instance → ℕ
binding_work net number wait tuple instance = pair_work wait + sum_by (λ made. ways_work net (ways_at net number)) (paired wait instance.tuple tuple)

-- the tests of a tuple with those of these instances at a state that it may match as far as the key tells, if it waits so
abbrev pub met_work : Net → ℕ → Option Wait → List Instance → TupleView → ℕ
met_work net number None store tuple = 0
met_work net number (Some wait) store tuple = sum_by (binding_work net number wait tuple) (candidates_of (first_key wait.choose) tuple store)

-- the tests of a tuple at the state with a number
abbrev pub state_work : Net → Stores → TupleView → ℕ → ℕ
state_work net stores tuple number = met_work net number (wait_at net number) (stores number) tuple

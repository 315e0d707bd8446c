-- The ways out of a state, and by which of them a tuple is looked up.
use Rattle.std.specs.Prelude.{◌≡◌, ℕ, Bool, true, List, [], ◌∷◌, ◌++◌, map, Option, Some, None}
use Rattle.event_types.specs.Tuple.{TupleView}
use Rattle.automaton.specs.States.{Net, edges_at, ends_at, step_at, wait_at}
use Rattle.automaton.specs.declared.network.End.{End}
use Rattle.automaton.specs.declared.step.Stage.{Stage}
use Rattle.automaton.specs.declared.step.Stage.TheVariants.{Keep, Make}
use Rattle.automaton.specs.declared.wait.Turn.{Turn}
use Rattle.automaton.specs.declared.wait.Wait.{Wait}
use Rattle.static_index.specs.FixedParts.{all_hold, first_holds, fixed_parts}
use Rattle.static_index.specs.declared.fixed_part.FixedPart.{FixedPart}

-- a way out of a state: by a forward edge into a waiting state, by an end out to a stream, or in a FOLD back to the state as a new binding
pub data Way : Type 0 where
  Into : ℕ → Way
  Out : End → Way
  Back : ℕ → Way

-- in a FOLD what leaves a state goes back to it as well
abbrev pub backs_in : ℕ → Option Turn → List Way
backs_in number None = []
backs_in number (Some turn) = Back number ∷ []

-- the way back to the state with a number, if it waits so
abbrev pub backs_by : ℕ → Option Wait → List Way
backs_by number None = []
backs_by number (Some wait) = backs_in number wait.fold

-- all ways out of the state with a number
abbrev pub ways_at : Net → ℕ → List Way
ways_at net number = map Into (edges_at net number) ++ (map Out (ends_at net number) ++ backs_by number (wait_at net number))

-- the fixed parts of the condition at the head of a step; a step that begins otherwise has none
abbrev pub first_parts : List Stage → List FixedPart
first_parts [] = []
first_parts (Keep condition ∷ step) = fixed_parts condition
first_parts (Make m ∷ step) = []

-- the fixed parts that are asked first of a tuple on a way
abbrev pub parts_on : Net → Way → List FixedPart
parts_on net (Into next) = first_parts (step_at net next)
parts_on net (Out end) = first_parts end.step
parts_on net (Back number) = []

-- the fixed parts of the condition by which a wait chooses, if there is one
abbrev pub parts_in : Option Wait → List FixedPart
parts_in None = []
parts_in (Some wait) = fixed_parts wait.choose

-- the same of the state with a number
abbrev pub parts_at : Net → ℕ → List FixedPart
parts_at net number = parts_in (wait_at net number)

-- the fixed parts that are asked first on a way all hold for a tuple
abbrev pub MeetsParts : Net → TupleView → Way → Type 0
MeetsParts net tuple way = all_hold tuple (parts_on net way) ≡ true

-- whether a way is looked up by a tuple: the first of its fixed parts holds, or it has none
abbrev pub is_way_looked_up : Net → TupleView → Way → Bool
is_way_looked_up net tuple way = first_holds tuple (parts_on net way)

-- whether a waiting state is looked up by a tuple: the first of its fixed parts holds, or it has none
abbrev pub is_state_looked_up : Net → TupleView → ℕ → Bool
is_state_looked_up net tuple number = first_holds tuple (parts_at net number)

-- The ways on which an instance leaves a state, and what it comes to on each. No public clause cites this module.
use Rattle.std.specs.Prelude.{ℕ, ◌==◌, if◌then◌else◌, List, [], ◌∷◌, length, map, option_to_list}
use Rattle.std.specs.List.{flat_map, range_with_len}
use Rattle.event_types.specs.Tuple.{TupleView}
use Rattle.instances.specs.declared.instance.Instance.{Instance}
use Rattle.automaton.specs.States.{Net, step_at}
use Rattle.stream_readers.specs.Ways.{Back, Into, Out, Way, ways_at}
use Rattle.epoch_laws.specs.Births.{passing_after}
use Rattle.epoch_laws.specs.Instances.{pass_instance}

-- an instance that goes a way
pub record Move : Type 0 where
  pub instance : Instance
  pub way : Way

-- what an instance makes of a way for a stream: by an end what it gives after the end's birth, of which it no longer matters when it began
abbrev pub made_by : ℕ → Instance → Way → List TupleView
made_by stream instance (Into next) = []
made_by stream instance (Out end) = if end.out == stream then passing_after end.step end.birth (instance ∷ []) else []
made_by stream instance (Back number) = []

-- what an instance makes of a way for a waiting state: an instance that began when it did
abbrev pub bound_by : Net → ℕ → Instance → Way → List Instance
bound_by net state instance (Into next) = if next == state then option_to_list (pass_instance (step_at net next) instance) else []
bound_by net state instance (Out end) = []
bound_by net state instance (Back number) = if number == state then instance ∷ [] else []

-- what moves make for a stream
abbrev pub made_of : ℕ → List Move → List TupleView
made_of stream moves = flat_map (λ move. made_by stream move.instance move.way) moves

-- the instances that moves make for a waiting state
abbrev pub bound_of : Net → ℕ → List Move → List Instance
bound_of net state moves = flat_map (λ move. bound_by net state move.instance move.way) moves

-- an instance that goes each of these ways
abbrev pub moves_on : List Way → Instance → List Move
moves_on ways instance = map (λ way. record { instance = instance; way = way }) ways

-- all moves of instances that leave a state
abbrev pub moves_from : Net → ℕ → List Instance → List Move
moves_from net number instances = flat_map (moves_on (ways_at net number)) instances

-- all moves, where these instances leave each state
abbrev pub moves_over : Net → (ℕ → List Instance) → List Move
moves_over net leaving = flat_map (λ number. moves_from net number (leaving number)) (range_with_len 0 (length net))

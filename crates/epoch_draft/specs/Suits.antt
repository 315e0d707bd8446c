-- What has to hold before a tuple of a stream is met. No public clause cites this module.
use Rattle.std.specs.Prelude.{◌≡◌, ⊤, ℕ, List, [], ◌∷◌, Option, Some, None}
use Rattle.std.specs.List.{All}
use Rattle.event_types.specs.Tuple.{TupleView}
use Rattle.instances.specs.Keys.{EventFits}
use Rattle.instances.specs.declared.instance.Instance.{Instance}
use Rattle.semantics.specs.Denotation.{selected}
use Rattle.scalar_expr.specs.Fits.{AllFit, Fits}
use Rattle.binding_index.specs.KeyParts.{first_key}
use Rattle.automaton.specs.States.{Net, step_at, wait_at}
use Rattle.automaton.specs.declared.step.Stage.{Stage}
use Rattle.automaton.specs.declared.step.Stage.TheVariants.{Keep, Make}
use Rattle.automaton.specs.declared.wait.Turn.{Turn}
use Rattle.automaton.specs.declared.wait.Wait.{Wait}
use Rattle.stream_readers.specs.Finding.{waits_on, ways_on}
use Rattle.stream_readers.specs.Ways.{Back, Into, Out, Way, ways_at}
use Rattle.epoch_laws.specs.Closing.{Stores}
use Rattle.epoch_draft.specs.Pairs.{met}

-- the conditions and the scalars of a step fit the tuple as it comes to them
abbrev pub StepSuits : List Stage → TupleView → Type 0
StepSuits [] tuple = ⊤
StepSuits (Keep condition ∷ step) tuple = AllFit condition tuple None × StepSuits step tuple
StepSuits (Make m ∷ step) tuple = All (λ s. Fits s tuple None) m.parts × StepSuits step (selected m.parts tuple)

-- those of a rebind edge fit the tuple and the binding
abbrev pub TurnSuits : Option Turn → TupleView → TupleView → Type 0
TurnSuits None binding tuple = ⊤
TurnSuits (Some turn) binding tuple = AllFit turn.on tuple (Some binding) × All (λ s. Fits s tuple (Some binding)) turn.set.parts

-- those of a wait fit the tuple and the binding
abbrev pub WaitSuits : Wait → TupleView → TupleView → Type 0
WaitSuits wait binding tuple = AllFit wait.choose tuple (Some binding) × TurnSuits wait.fold binding tuple

-- the step on a way suits the tuple
abbrev pub WaySuits : Net → TupleView → Way → Type 0
WaySuits net tuple (Into next) = StepSuits (step_at net next) tuple
WaySuits net tuple (Out end) = StepSuits end.step tuple
WaySuits net tuple (Back number) = ⊤

-- all ways out of a state suit the tuple
abbrev pub LeavingSuits : Net → ℕ → TupleView → Type 0
LeavingSuits net number tuple = All (WaySuits net tuple) (ways_at net number)

-- a wait suits a tuple with each of these instances, the ways out of its state suit what leaves it then, and the tuple has the attribute that the key of its condition names
pub record MeetsAt (net : Net) (number : ℕ) (wait : Wait) (store : List Instance) (tuple : TupleView) : Type 0 where
  pub instances : All (λ instance. WaitSuits wait instance.tuple tuple) store
  pub leaving : All (λ made. LeavingSuits net number made.tuple) (met wait store tuple)
  pub key : EventFits (first_key wait.choose) tuple

-- the same of the wait of a state with the instances there, if it has one
abbrev pub MeetingSuits : Net → Stores → TupleView → ℕ → Type 0
MeetingSuits net stores tuple number = (wait : Wait) → wait_at net number ≡ Some wait → MeetsAt net number wait (stores number) tuple

-- all that reads the stream suits the tuple
pub record TupleSuits (net : Net) (stores : Stores) (stream : ℕ) (tuple : TupleView) : Type 0 where
  pub roots : All (WaySuits net tuple) (ways_on net stream)
  pub waits : All (MeetingSuits net stores tuple) (waits_on net stream)

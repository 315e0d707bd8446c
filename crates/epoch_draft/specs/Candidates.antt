-- The instances at a state that a tuple may match.
use Rattle.std.specs.Prelude.{ℕ, List, [], Option, Some, None}
use Rattle.event_types.specs.Tuple.{TupleView}
use Rattle.instances.specs.Keys.{candidates_of}
use Rattle.instances.specs.declared.instance.Instance.{Instance}
use Rattle.binding_index.specs.KeyParts.{first_key}
use Rattle.automaton.specs.States.{Net, wait_at}
use Rattle.automaton.specs.declared.wait.Wait.{Wait}
use Rattle.epoch_laws.specs.Closing.{Stores}

-- those of a store's instances that a tuple may match as far as the key of the wait's condition tells, if there is a wait
abbrev pub candidates_by : Option Wait → List Instance → TupleView → List Instance
candidates_by None store tuple = []
candidates_by (Some wait) store tuple = candidates_of (first_key wait.choose) tuple store

-- the same at the state with a number
abbrev pub candidates_at : Net → Stores → TupleView → ℕ → List Instance
candidates_at net stores tuple number = candidates_by (wait_at net number) (stores number) tuple

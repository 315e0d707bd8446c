-- What holds of what the tuples of an epoch meet, and of a waiting state.
use Rattle.std.specs.Prelude.{◌≡◌, IsTrue, Some, length}
use Rattle.automaton.specs.Networks.{IsNetwork}
use Rattle.automaton.specs.States.{is_used, wait_at}
use Rattle.stream_readers.specs.Readers.{AreReadersOf}
use Rattle.epoch_draft.specs.Agenda.{AreTurns}
use Rattle.epoch_draft.specs.Led.{AreLed}
use Rattle.epoch_draft.specs.Stores.{HasStores}
use Rattle.epoch_draft.specs.declared.stored_network.StoredNetwork.{StoredNetwork}
use Rattle.epoch_draft.specs.declared.waiting_state.WaitingState.{WaitingState}

-- a network with what reads its streams, the stores of its waiting states, and the keys that lead there
pub record IsStoredNetwork (stored : StoredNetwork) : Type 0 where
  pub network : IsNetwork stored.network.now
  pub readers : AreReadersOf stored.network.now stored.readers.now
  pub stores : HasStores stored.network.now stored.stores.now
  pub led : AreLed stored.network.now stored.keys.now stored.stores.now

-- the readers are the network's, the streams have their turns in the order of work, and keys lead to the states where they are ready
pub record CanRead (stored : StoredNetwork) : Type 0 where
  pub readers : AreReadersOf stored.network.now stored.readers.now
  pub turns : AreTurns stored.network.now stored.layout.now.order (length stored.layout.now.kinds) stored.turns.now
  pub led : AreLed stored.network.now stored.keys.now stored.stores.now

-- a waiting state of a network
pub record IsWaitingState (waiting : WaitingState) : Type 0 where
  pub network : IsNetwork waiting.network.now
  pub used : IsTrue (is_used waiting.network.now waiting.state)
  pub wait : wait_at waiting.network.now waiting.state ≡ Some waiting.wait.now

use Rattle.snapshot_laws.proofs.Renumbered.{renumbered_lines_give_the_same, renumbered_states_wait_alike}
use Rattle.snapshot_laws.proofs.RenumberedStores.{stores_stand_renumbered}
use Rattle.snapshot_laws.proofs.renumbered_lines_are_alike.Goals as goal

pub returns-clause-streams : goal.returns-clause-streams
returns-clause-streams c = renumbered_lines_give_the_same

pub returns-clause-states : goal.returns-clause-states
returns-clause-states c = renumbered_states_wait_alike

pub returns-clause-stores : goal.returns-clause-stores
returns-clause-stores c = stores_stand_renumbered

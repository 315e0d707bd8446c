-- What the purge of all stores makes of an engine.
use Rattle.std.specs.Prelude.{◌≡◌, ◌+◌, ℕ, Option, Some, None, IfSome}
use Rattle.std.specs.List.Sorted.{IsPermutation}
use Rattle.instances.specs.Births.{began_after}
use Rattle.instances.specs.Bounds.{alive_instances}
use Rattle.automaton.specs.States.{Net, wait_at}
use Rattle.automaton.specs.declared.wait.Wait.{Wait}
use Rattle.epoch_laws.specs.Births.{IsLeastBirth}
use Rattle.epoch_laws.specs.Closing.{Stores}
use Rattle.epoch_draft.specs.Behind.{IsBirthBehind}
use Rattle.epoch_engine.specs.Closes.{KeepsPlan, KeepsTimes}
use Rattle.epoch_engine.specs.EngineView.{EngineView, stores_in}

-- each store was purged for a time and for the ends that use its state: up to order, it has exactly the instances that are alive then and began after the least birth of these
abbrev pub AreTrimmed : ℕ → Net → Stores → Stores → Type 0
AreTrimmed time net stores kept =
    (number : ℕ) (wait : Wait) → wait_at net number ≡ Some wait
    → (since : Option ℕ) × IsLeastBirth (IsBirthBehind net number) since × IsPermutation (kept number) (alive_instances time wait.choose (began_after since (stores number)))

-- each store was purged for the time after the last closed one, and of what began too early for all lines that use its state; where no epoch was closed the stores are the same; so is all else
pub record Trims (old new : EngineView) : Type 0 where
  pub plan : KeepsPlan old new
  pub times : KeepsTimes old new
  pub opened : new.opened ≡ old.opened
  pub purged : IfSome old.closed_time (λ time. AreTrimmed (time + 1) old.network (stores_in old) (stores_in new))
  pub none_closed : old.closed_time ≡ None → new.stores ≡ old.stores
  pub others : (number : ℕ) → wait_at old.network number ≡ None → stores_in new number ≡ stores_in old number

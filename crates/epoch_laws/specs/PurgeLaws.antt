-- Laws of bindings that no later event can match.
use Rattle.std.specs.Prelude.{◌≡◌, ℕ, ◌≤◌, false, List}
use Rattle.event_types.specs.Tuple.{TupleView}
use Rattle.semantics.specs.Nexts.{is_eligible}
use Rattle.semantics.specs.Scalars.{Pr}
use Rattle.instances.specs.Alive.{is_alive}

-- for a binding that isn't alive at a time, no tuple of that time or a later one is eligible
abbrev pub DeadStayDead : Type 0
DeadStayDead = (time : ℕ) (choose : List Pr) (binding tuple : TupleView) → is_alive time choose binding ≡ false → time ≤ tuple.at → is_eligible choose binding tuple ≡ false

-- and it isn't alive at a later time
abbrev pub DeadLater : Type 0
DeadLater = (time later : ℕ) (choose : List Pr) (binding : TupleView) → time ≤ later → is_alive time choose binding ≡ false → is_alive later choose binding ≡ false

-- The instances that a later event may still match, as far as the bounds on DUR tell.
use Rattle.std.specs.Prelude.{◌≡◌, ℕ, ◌<◌, ◌≤◌, List, []}
use Rattle.std.specs.List.{All, filter}
use Rattle.event_types.specs.Tuple.{TupleView}
use Rattle.semantics.specs.Scalars.{Pr}
use Rattle.instances.specs.Alive.{is_alive}
use Rattle.instances.specs.declared.instance.Instance.{Instance}

-- the instances whose bindings meet each bound part of the condition at a time
abbrev pub alive_instances : ℕ → List Pr → List Instance → List Instance
alive_instances time choose instances = filter (λ instance. is_alive time choose instance.tuple) instances

-- a binding of which only the start is told, as a bound part reads no more
abbrev pub started : ℕ → TupleView
started from = record { vals = []; from = from; at = from }

-- each of the instances is alive at every time before a deadline
abbrev pub AreAliveUntil : ℕ → List Pr → List Instance → Type 0
AreAliveUntil deadline choose instances = (time : ℕ) → time < deadline → alive_instances time choose instances ≡ instances

-- whichever instances are alive at a time, of which none starts before `oldest`, are alive at every time before a deadline
abbrev pub LastUntil : ℕ → ℕ → ℕ → List Pr → Type 0
LastUntil deadline time oldest choose =
    (instances : List Instance) → All (λ (instance : Instance). oldest ≤ instance.tuple.from) instances → alive_instances time choose instances ≡ instances → AreAliveUntil deadline choose instances

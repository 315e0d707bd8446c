-- What instances give after the birth of a query, which reads only what is detected after it.
use Rattle.std.specs.Prelude.{ℕ, ◌≤◌, ⊤, List, Option, Some, None}
use Rattle.std.specs.List.{All, filter_map}
use Rattle.event_types.specs.Tuple.{TupleView, IsSound}
use Rattle.instances.specs.Births.{began_after}
use Rattle.instances.specs.declared.instance.Instance.{Instance}
use Rattle.semantics.specs.Denotation.{Streams}
use Rattle.automaton.specs.declared.step.Stage.{Stage}
use Rattle.epoch_laws.specs.Instances.{bindings_of, pass_instance}

-- what instances give through a step after a birth: those that pass it and began after the birth, without the times at which they began
abbrev pub passing_after : List Stage → Option ℕ → List Instance → List TupleView
passing_after step birth instances = bindings_of (began_after birth (filter_map (pass_instance step) instances))

-- no tuple of the streams is detected before it starts
abbrev pub AreSound : Streams → Type 0
AreSound streams = (stream : ℕ) → All IsSound (streams stream)

-- a birth is no later than another one; none is the least of all
abbrev pub IsNoLater : Option ℕ → Option ℕ → Type 0
IsNoLater None other = ⊤
IsNoLater (Some birth) None = ⊥
IsNoLater (Some birth) (Some other) = birth ≤ other

-- the least of some births, where there is one; where there is none, any value meets this
pub record IsLeastBirth (IsBirth : Option ℕ → Type 0) (least : Option ℕ) : Type 0 where
  pub no_later : (birth : Option ℕ) → IsBirth birth → IsNoLater least birth
  pub is_one : (birth : Option ℕ) → IsBirth birth → IsBirth least

-- A tuple as contracts see it.
use Rattle.std.specs.Prelude.{ℕ, ◌≤◌, List}
use Rattle.event_types.specs.declared.value.Value.{Value}

-- a tuple: its values, its start and its detection time
pub record TupleView : Type 0 where
  pub vals : List Value
  pub from : ℕ
  pub at : ℕ

-- the tuple starts no later than it is detected
abbrev pub IsSound : TupleView → Type 0
IsSound tuple = tuple.from ≤ tuple.at

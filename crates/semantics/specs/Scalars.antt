-- Scalars, predicates and projections as terms, without where they lie in memory.
use Rattle.std.specs.Prelude.{ℕ, List}
use Rattle.event_types.specs.declared.comparison.Cmp.{Cmp}
use Rattle.event_types.specs.declared.value.Value.{Value}

-- an operation on two numbers or decimals
pub data Op : Type 0 where
  Add : Op
  Sub : Op
  Mul : Op
  Min : Op
  Max : Op

-- a scalar: a literal, an attribute of the event or of the binding by its place from 0, DUR, or an operation
pub data Sc : Type 0 where
  Lit : Value → Sc
  Event : ℕ → Sc
  Binding : ℕ → Sc
  Dur : Sc
  Two : Op → Sc → Sc → Sc

-- a predicate: TRUE, a comparison of two scalars, AND, OR or NOT
pub data Pr : Type 0 where
  True : Pr
  Test : Sc → Cmp → Sc → Pr
  And : Pr → Pr → Pr
  Or : Pr → Pr → Pr
  Not : Pr → Pr

-- a projection: the width of the tuples that its scalars read, and one scalar for each value of the result
pub record Projection : Type 0 where
  pub width : ℕ
  pub parts : List Sc

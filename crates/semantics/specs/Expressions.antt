-- The expressions of the algebra as terms, without where they lie in memory.
use Rattle.std.specs.Prelude.{ℕ, List}
use Rattle.semantics.specs.Scalars.{Pr, Projection}

-- an expression over streams, which are named by their numbers; a condition is the list of its parts
pub data Ex : Type 0 where
  Read : ℕ → Ex
  Filter : List Pr → Ex → Ex
  Select : Projection → Ex → Ex
  Union : Ex → Ex → Ex
  Next : List Pr → Ex → Ex → Ex
  Fold : List Pr → List Pr → Projection → Ex → Ex → Ex

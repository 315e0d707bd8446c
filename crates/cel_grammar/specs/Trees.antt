-- What query texts are read as: trees, without where they lie in memory.
use Rattle.std.specs.Prelude.{ℕ, ℤ, List}
use Rattle.cel_grammar.specs.declared.mark.Mark.{Mark}
use Rattle.event_types.specs.declared.comparison.Cmp.{Cmp}
use Rattle.event_types.specs.declared.kind.Kind.{Kind}

-- an operation on two scalars
pub data Op : Type 0 where
  Add : Op
  Sub : Op
  Mul : Op
  Min : Op
  Max : Op

-- a scalar: a number, a text, an attribute with its mark and name, DUR, an operation, or a decimal with its scale and its units
pub data Scalar : Type 0 where
  Number : ℤ → Scalar
  Quoted : List ℕ → Scalar
  Attr : Mark → List ℕ → Scalar
  Dur : Scalar
  Two : Op → Scalar → Scalar → Scalar
  Decimal : ℕ → ℤ → Scalar

-- a predicate: TRUE, a comparison of two scalars, AND, OR or NOT
pub data Pred : Type 0 where
  True : Pred
  Test : Scalar → Cmp → Scalar → Pred
  And : Pred → Pred → Pred
  Or : Pred → Pred → Pred
  Not : Pred → Pred

-- an item of a SELECT: *, or a scalar under a name
pub data Item : Type 0 where
  All : Item
  Named : Scalar → List ℕ → Item

-- an aggregate of a FOLD: a scalar that is assigned to a name
pub data Agg : Type 0 where
  Set : Scalar → List ℕ → Agg

-- a source: a stream's name, FILTER, SELECT, UNION, NEXT with its condition, or FOLD with its two and its aggregates
pub data Source : Type 0 where
  Name : List ℕ → Source
  Filter : Pred → Source → Source
  Select : List Item → Source → Source
  Union : Source → Source → Source
  Next : Pred → Source → Source → Source
  Fold : Pred → Pred → List Agg → Source → Source → Source

-- an attribute of a declaration: its name and its kind
pub data Column : Type 0 where
  Col : List ℕ → Kind → Column

-- a statement: a stream's declaration, or a query with its items, its source and the name that it publishes
pub data Statement : Type 0 where
  Stream : List ℕ → List Column → Statement
  Query : List Item → Source → List ℕ → Statement

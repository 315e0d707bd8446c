-- Scalars and predicates of the program as terms, without where they lie in memory.
use Rattle.scalar_expr.specs.declared.predicate.Pred.{Pred}
use Rattle.scalar_expr.specs.declared.predicate.Pred.TheVariants as pred
use Rattle.scalar_expr.specs.declared.scalar.Scalar.{Scalar}
use Rattle.scalar_expr.specs.declared.scalar.Scalar.TheVariants as scalar
use Rattle.semantics.specs.Scalars.{Sc, Lit, Event, Binding, Dur, Two, Add, Sub, Mul, Min, Max, Pr, True, Test, And, Or, Not}

-- the scalar as a term
abbrev pub sc_of : Scalar → Sc
sc_of (scalar.Lit v) = Lit v
sc_of (scalar.Event i) = Event i
sc_of (scalar.Binding i) = Binding i
sc_of scalar.Dur = Dur
sc_of (scalar.Add' p x q y) = Two Add (sc_of x) (sc_of y)
sc_of (scalar.Sub' p x q y) = Two Sub (sc_of x) (sc_of y)
sc_of (scalar.Mul' p x q y) = Two Mul (sc_of x) (sc_of y)
sc_of (scalar.Min' p x q y) = Two Min (sc_of x) (sc_of y)
sc_of (scalar.Max' p x q y) = Two Max (sc_of x) (sc_of y)

-- the predicate as a term
abbrev pub pr_of : Pred → Pr
pr_of pred.True = True
pr_of (pred.Test x c y) = Test (sc_of x) c (sc_of y)
pr_of (pred.And' p x q y) = And (pr_of x) (pr_of y)
pr_of (pred.Or' p x q y) = Or (pr_of x) (pr_of y)
pr_of (pred.Not' p x) = Not (pr_of x)

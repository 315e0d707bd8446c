-- The canonical order of scalars and predicates: by variant, then by their parts from left to right.
use Rattle.std.specs.Prelude.{ℕ}
use Rattle.std.specs.declared.cmp.Ordering.{Ordering}
use Rattle.std.specs.Ordering.{nat_cmp, ordering_then, on}
use Rattle.event_types.specs.declared.comparison.Cmp.{Cmp}
use Rattle.event_types.specs.declared.comparison.Cmp.TheVariants as cmp
use Rattle.event_types.specs.Order.{value_cmp}
use Rattle.semantics.specs.Scalars.{Op, Add, Sub, Mul, Min, Max, Sc, Lit, Event, Binding, Dur, Two, Pr, True, Test, And, Or, Not}
use Rattle.scalar_expr.specs.declared.predicate.Pred.{Pred}
use Rattle.scalar_expr.specs.declared.scalar.Scalar.{Scalar}
use Rattle.scalar_expr.specs.Views.{pr_of, sc_of}

-- the place of an operation among the scalars
abbrev pub op_place : Op → ℕ
op_place Add = 4
op_place Sub = 5
op_place Mul = 6
op_place Min = 7
op_place Max = 8

-- the place of a scalar's variant
abbrev pub sc_place : Sc → ℕ
sc_place (Lit v) = 0
sc_place (Event i) = 1
sc_place (Binding i) = 2
sc_place Dur = 3
sc_place (Two op x y) = op_place op

-- the place of a comparison
abbrev pub cmp_place : Cmp → ℕ
cmp_place cmp.Eq = 0
cmp_place cmp.Ne = 1
cmp_place cmp.Lt = 2
cmp_place cmp.Le = 3
cmp_place cmp.Gt = 4
cmp_place cmp.Ge = 5

-- the place of a predicate's variant
abbrev pub pr_place : Pr → ℕ
pr_place True = 0
pr_place (Test x c y) = 1
pr_place (And p q) = 2
pr_place (Or p q) = 3
pr_place (Not p) = 4

-- the order of scalars: by variant, literals as values, so that a number stands before a decimal and this before a text
abbrev pub sc_cmp : Sc → Sc → Ordering
sc_cmp (Lit v) (Lit w) = value_cmp v w
sc_cmp (Event i) (Event j) = nat_cmp i j
sc_cmp (Binding i) (Binding j) = nat_cmp i j
sc_cmp (Two op x y) (Two op' x' y') = ordering_then (nat_cmp (op_place op) (op_place op')) (ordering_then (sc_cmp x x') (sc_cmp y y'))
sc_cmp x y = nat_cmp (sc_place x) (sc_place y)

-- the order of predicates
abbrev pub pr_cmp : Pr → Pr → Ordering
pr_cmp (Test x c y) (Test x' c' y') = ordering_then (sc_cmp x x') (ordering_then (nat_cmp (cmp_place c) (cmp_place c')) (sc_cmp y y'))
pr_cmp (And p q) (And p' q') = ordering_then (pr_cmp p p') (pr_cmp q q')
pr_cmp (Or p q) (Or p' q') = ordering_then (pr_cmp p p') (pr_cmp q q')
pr_cmp (Not p) (Not p') = pr_cmp p p'
pr_cmp p q = nat_cmp (pr_place p) (pr_place q)

-- the same order of the program's scalars
abbrev pub scalar_cmp : Scalar → Scalar → Ordering
scalar_cmp = on sc_of sc_cmp

-- the same order of the program's predicates
abbrev pub pred_cmp : Pred → Pred → Ordering
pred_cmp = on pr_of pr_cmp

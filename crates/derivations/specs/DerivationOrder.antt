-- The order of derivations: by variant, then by their parts from left to right.
use Rattle.std.specs.Prelude.{ℕ, List}
use Rattle.std.specs.declared.cmp.Ordering.{Ordering}
use Rattle.std.specs.Ordering.{nat_cmp, on, ordering_then, then_cmp}
use Rattle.event_types.specs.Order.{sort_by, tuple_cmp}
use Rattle.derivations.specs.Derivation.{Derivation, Derivations}
use Rattle.derivations.specs.Derivation as the
use Rattle.derivations.specs.DerivedTuples.{DerivedTuple}
use Rattle.derivations.specs.Views.{derivation_of}
use Rattle.derivations.specs.declared.deriv.Deriv.{Deriv}

-- the place of a derivation's variant
abbrev pub by_place : Derivation → ℕ
by_place (the.Event place) = 0
by_place (the.Query by) = 1
by_place (the.Left by) = 2
by_place (the.Right by) = 3
by_place (the.Next by next_by) = 4
by_place (the.Fold by all_by) = 5

-- an empty list stands before any other
abbrev pub all_place : Derivations → ℕ
all_place the.None = 0
all_place (the.More by later) = 1

abbrev mutual
  -- the order of derivations
  pub by_cmp : Derivation → Derivation → Ordering
  by_cmp (the.Event i) (the.Event j) = nat_cmp i j
  by_cmp (the.Query x) (the.Query y) = by_cmp x y
  by_cmp (the.Left x) (the.Left y) = by_cmp x y
  by_cmp (the.Right x) (the.Right y) = by_cmp x y
  by_cmp (the.Next x x') (the.Next y y') = ordering_then (by_cmp x y) (by_cmp x' y')
  by_cmp (the.Fold x xs) (the.Fold y ys) = ordering_then (by_cmp x y) (all_cmp xs ys)
  by_cmp x y = nat_cmp (by_place x) (by_place y)

  -- lists from left to right, a shorter one first
  pub all_cmp : Derivations → Derivations → Ordering
  all_cmp (the.More x xs) (the.More y ys) = ordering_then (by_cmp x y) (all_cmp xs ys)
  all_cmp xs ys = nat_cmp (all_place xs) (all_place ys)

-- the same order of the program's derivations
abbrev pub deriv_cmp : Deriv → Deriv → Ordering
deriv_cmp = on derivation_of by_cmp

-- tuples with derivations: by the tuple, then by the derivation
abbrev pub derived_cmp : DerivedTuple → DerivedTuple → Ordering
derived_cmp = then_cmp (on (λ x. x.tuple) tuple_cmp) (on (λ x. x.by) by_cmp)

-- tuples with derivations in order
abbrev pub sorted_derived : List DerivedTuple → List DerivedTuple
sorted_derived found = sort_by derived_cmp found

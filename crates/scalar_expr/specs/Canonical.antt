-- The canonical form of a predicate: a sorted list of parts without doubles, which are all to hold.
use Rattle.std.specs.Prelude.{if◌then◌else◌, List, [], ◌∷◌, ◌++◌}
use Rattle.std.specs.List.{dedup}
use Rattle.std.specs.List.Sorted.{IsStrictlySortedBy}
use Rattle.std.specs.Ordering.{is_gt, eq_by_cmp}
use Rattle.event_types.specs.declared.comparison.Cmp.{Cmp}
use Rattle.event_types.specs.declared.comparison.Cmp.TheVariants as cmp
use Rattle.event_types.specs.Order.{sort_by}
use Rattle.semantics.specs.Scalars.{Sc, Pr, True, Test, And, Or, Not}
use Rattle.scalar_expr.specs.TermOrder.{sc_cmp, pr_cmp}

-- a comparison between two scalars in their order
abbrev pub test_in_order : Cmp → Sc → Sc → Pr
test_in_order c x y = if is_gt (sc_cmp x y) then Test y c x else Test x c y

-- a comparison turned round: `a > b` as `b < a`, `a >= b` as `b <= a`, and the operands of `=` and `<>` in their order
abbrev pub turned_test : Sc → Cmp → Sc → Pr
turned_test x cmp.Eq y = test_in_order cmp.Eq x y
turned_test x cmp.Ne y = test_in_order cmp.Ne x y
turned_test x cmp.Lt y = Test x cmp.Lt y
turned_test x cmp.Le y = Test x cmp.Le y
turned_test x cmp.Gt y = Test y cmp.Lt x
turned_test x cmp.Ge y = Test y cmp.Le x

-- the predicate with every comparison turned round
abbrev pub turned : Pr → Pr
turned True = True
turned (Test x c y) = turned_test x c y
turned (And p q) = And (turned p) (turned q)
turned (Or p q) = Or (turned p) (turned q)
turned (Not p) = Not (turned p)

-- the parts between a predicate's outer ANDs, without TRUE
abbrev pub conjuncts : Pr → List Pr
conjuncts True = []
conjuncts (Test x c y) = Test x c y ∷ []
conjuncts (And p q) = conjuncts p ++ conjuncts q
conjuncts (Or p q) = Or p q ∷ []
conjuncts (Not p) = Not p ∷ []

-- parts in their canonical order, each once
abbrev pub distinct_parts : List Pr → List Pr
distinct_parts parts = dedup (eq_by_cmp pr_cmp) (sort_by pr_cmp parts)

-- the parts ascend in the canonical order: each is below all that come after it, so none stands twice
abbrev pub AreCanonical : List Pr → Type 0
AreCanonical parts = IsStrictlySortedBy pr_cmp parts

-- the canonical form (this project's profile)
abbrev pub canonical : Pr → List Pr
canonical p = distinct_parts (conjuncts (turned p))

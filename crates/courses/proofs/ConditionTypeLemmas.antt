-- The term of a condition that is computed is that of the rules, and so is its first fault.
use Rattle.std.proofs.Common.{Ok, Err, sym, subst}
use Rattle.std.proofs.lemmas.Bool.{cond_both}
use Rattle.event_types.specs.declared.comparison.Cmp.{Cmp}
use Rattle.semantics.specs.Scalars.{Pr}
use Rattle.semantics.specs.Scalars as term
use Rattle.cel_grammar.specs.Trees.{Pred, Scalar}
use Rattle.cel_grammar.specs.Trees as tree
use Rattle.cel_types.specs.declared.fault.TypeFault.{TypeFault}
use Rattle.cel_types.specs.declared.fault.TypeFault.TheVariants.{KindMismatch}
use Rattle.cel_types.specs.Predicates.{Fails, Means}
use Rattle.cel_types.specs.Predicates as pred
use Rattle.cel_types.specs.Scalars.{HasFault, IsOf}
use Rattle.cel_types.specs.Scopes.{Scope, Typed}
use Rattle.cel_types.specs.Unions.{is_kind}
use Rattle.catalogue.specs.Faults as told
use Rattle.courses.specs.ConditionTypes.{condition_type, test_type}
use Rattle.courses.specs.ScalarTypes.{scalar_type}
use Rattle.courses.proofs.FoundLemmas.{IsFound, found-then}
use Rattle.courses.proofs.ScalarTypeLemmas.{HasType, kinds-differ, kinds-same, scalar-typed}

-- what is found of a predicate is so
abbrev pub IsJudged : Scope → Pred → Type 0
IsJudged scope p = IsFound (Means scope p) (Fails scope p) (condition_type scope p)

module _ (scope : Scope) (x y : Scalar) (c : Cmp) where
  abbrev MeansTest : Pr → Type 0
  MeansTest = Means scope (tree.Test x c y)

  abbrev FailsTest : TypeFault → Type 0
  FailsTest = Fails scope (tree.Test x c y)

  kinds-typed : (s t : Typed) → HasType scope x s → HasType scope y t → IsFound MeansTest FailsTest (test_type c s t)
  kinds-typed s t left right = cond_both (is_kind s.kind t.kind) (Ok (term.Test s.term c t.term)) (Err (KindMismatch s.kind t.kind)) (IsFound MeansTest FailsTest)
      (λ e. pred.test left (subst (λ k. IsOf scope y t.term k) (sym (kinds-same s.kind t.kind e)) right))
      (λ e. (pred.test_kinds left right (kinds-differ s.kind t.kind e), told.kinds))

  test-typed : IsJudged scope (tree.Test x c y)
  test-typed =
      found-then (HasType scope x) (HasFault scope x) MeansTest FailsTest (scalar_type scope x) _ (scalar-typed scope x) (λ why fails. pred.test_left fails)
      (λ s left. found-then (HasType scope y) (HasFault scope y) MeansTest FailsTest (scalar_type scope y) _ (scalar-typed scope y) (λ why fails. pred.test_right left fails)
      (λ t right. kinds-typed s t left right))

and-typed : (scope : Scope) (p q : Pred) → IsJudged scope p → IsJudged scope q → IsJudged scope (tree.And p q)
and-typed scope p q left right =
    found-then (Means scope p) (Fails scope p) (Means scope (tree.And p q)) (Fails scope (tree.And p q)) (condition_type scope p) _ left (λ why fails. pred.and_left fails)
    (λ u means. found-then (Means scope q) (Fails scope q) (Means scope (tree.And p q)) (Fails scope (tree.And p q)) (condition_type scope q) _ right (λ why fails. pred.and_right means fails)
    (λ v means_too. pred.and means means_too))

or-typed : (scope : Scope) (p q : Pred) → IsJudged scope p → IsJudged scope q → IsJudged scope (tree.Or p q)
or-typed scope p q left right =
    found-then (Means scope p) (Fails scope p) (Means scope (tree.Or p q)) (Fails scope (tree.Or p q)) (condition_type scope p) _ left (λ why fails. pred.or_left fails)
    (λ u means. found-then (Means scope q) (Fails scope q) (Means scope (tree.Or p q)) (Fails scope (tree.Or p q)) (condition_type scope q) _ right (λ why fails. pred.or_right means fails)
    (λ v means_too. pred.or means means_too))

not-typed : (scope : Scope) (p : Pred) → IsJudged scope p → IsJudged scope (tree.Not p)
not-typed scope p inner =
    found-then (Means scope p) (Fails scope p) (Means scope (tree.Not p)) (Fails scope (tree.Not p)) (condition_type scope p) _ inner (λ why fails. pred.denied fails) (λ u means. pred.not means)

-- by induction on the predicate
pub condition-typed : (scope : Scope) (p : Pred) → IsFound (Means scope p) (Fails scope p) (condition_type scope p)
condition-typed scope tree.True = pred.true
condition-typed scope (tree.Test x c y) = test-typed scope x y c
condition-typed scope (tree.And p q) = and-typed scope p q (condition-typed scope p) (condition-typed scope q)
condition-typed scope (tree.Or p q) = or-typed scope p q (condition-typed scope p) (condition-typed scope q)
condition-typed scope (tree.Not p) = not-typed scope p (condition-typed scope p)

-- What tests equal is equal.
use Rattle.std.proofs.Common.{◌≡◌, ◌∙◌, ◌↔◌, sym, ap, refl, Bool, true, false}
use Rattle.std.specs.Prelude.{IsTrue}
use Rattle.std.specs.declared.cmp.Ordering.{Ordering}
use Rattle.std.specs.declared.cmp.Ordering.TheVariants.{Less, Equal, Greater}
use Rattle.std.specs.Ordering.{eq_by_cmp, is_eq}
use Rattle.std.specs.Cmp.{IsTotalOrder}
use Rattle.std.proofs.lemmas.Cmp.{eq_by_cmp_equiv}
use Rattle.std.proofs.lemmas.Map.Lookups.{CmpEqualImpliesEq}
use Rattle.event_types.specs.Order.{tuple_cmp}
use Rattle.event_types.specs.OrderLaws.{tuple_exact, tuple_total}
use Rattle.event_types.specs.Tuple.{TupleView}
use Rattle.derivations.specs.Derivation.{Derivation}
use Rattle.derivations.specs.DerivationOrder.{by_cmp}
use Rattle.derivations.specs.DerivationOrderLaws.{by_exact, by_total}
use Rattle.derivations.specs.DerivedTuples.{DerivedTuple}

tied : (o : Ordering) → is_eq o ≡ true → o ≡ Equal
tied Less e = cc
tied Equal e = refl
tied Greater e = cc

module _ {K : Type 0} (R : K → K → Ordering) (total : IsTotalOrder R) (exact : CmpEqualImpliesEq R) where
  equal_is : (x y : K) → eq_by_cmp R x y ≡ true → x ≡ y
  equal_is x y e = exact x y (tied (R x y) e)

  is_equal : (x y : K) → x ≡ y → eq_by_cmp R x y ≡ true
  is_equal x y e = ap (eq_by_cmp R x) (sym e) ∙ (eq_by_cmp_equiv total).refl x

module _ (one : DerivedTuple) (tuple : TupleView) (by : Derivation) (a : Bool) (a_is : a ≡ eq_by_cmp tuple_cmp one.tuple tuple) where
  -- where the tuples are equal, the derivations decide
  pub by_decides : (b : Bool) → b ≡ eq_by_cmp by_cmp one.by by → a ≡ true → IsTrue b ↔ (one ≡ record { tuple = tuple; by = by })
  by_decides b bs at = (
    λ bt. λ i. record { tuple = equal_is tuple_cmp tuple_total tuple_exact one.tuple tuple (sym a_is ∙ at) i; by = equal_is by_cmp by_total by_exact one.by by (sym bs ∙ bt) i },
    λ same. bs ∙ is_equal by_cmp by_total by_exact one.by by (ap (λ (x : DerivedTuple). x.by) same),
  )

  -- where they aren't, it is another
  pub tuple_decides : a ≡ false → IsTrue a ↔ (one ≡ record { tuple = tuple; by = by })
  tuple_decides not = (λ at. cc, λ same. a_is ∙ is_equal tuple_cmp tuple_total tuple_exact one.tuple tuple (ap (λ (x : DerivedTuple). x.tuple) same))

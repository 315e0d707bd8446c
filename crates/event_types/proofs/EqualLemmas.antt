-- Tuples of equal parts are equal by their order.
use Rattle.std.proofs.Common.{◌≡◌, ◌∙◌, ap, refl, sym, ℕ}
use Rattle.std.specs.declared.cmp.Ordering.{Ordering}
use Rattle.std.specs.declared.cmp.Ordering.TheVariants.{Less, Equal, Greater}
use Rattle.std.specs.Ordering.{nat_cmp, is_eq, eq_by_cmp, ordering_then}
use Rattle.std.specs.Cmp.{nat_cmp_is}
use Rattle.std.specs.Cmp.Lexicographic.{lists_ties, pointwise, slice_cmp}
use Rattle.event_types.specs.Order.{tuple_cmp, value_cmp}
use Rattle.event_types.specs.Tuple.{TupleView}

-- equal numbers tie
tied_numbers : (x y : ℕ) → x ≡ y → nat_cmp x y ≡ Equal
tied_numbers x y e = sym (nat_cmp_is x y Equal e)

-- a tie behind an order leaves whether it ties
tied_behind : (o : Ordering) → is_eq o ≡ is_eq (ordering_then o Equal)
tied_behind Less = refl
tied_behind Equal = refl
tied_behind Greater = refl

-- where both times are equal, tuples are equal where their values are, one by one
pub tied_tuples : (t u : TupleView) → t.from ≡ u.from → t.at ≡ u.at → pointwise (eq_by_cmp value_cmp) t.vals u.vals ≡ eq_by_cmp tuple_cmp t u
tied_tuples t u from at =
    let order = slice_cmp value_cmp t.vals u.vals in
    let starts : ordering_then (nat_cmp t.from u.from) (ordering_then order (nat_cmp t.at u.at)) ≡ ordering_then order Equal = ap (λ first. ordering_then first (ordering_then order (nat_cmp t.at u.at))) (tied_numbers t.from u.from from) ∙ ap (ordering_then order) (tied_numbers t.at u.at at) in
    lists_ties value_cmp (λ x y. refl) t.vals u.vals ∙ tied_behind order ∙ sym (ap is_eq starts)

-- The order of tuples is total, and tuples that tie are one. No contract cites these; impls of the order and proofs do.
use Rattle.std.proofs.Common.{◌≡◌, ap, subst, refl, true, List, [], ◌∷◌, ℕ, ℤ, pos}
use Rattle.std.specs.declared.cmp.Ordering.{Ordering}
use Rattle.std.specs.declared.cmp.Ordering.TheVariants.{Less, Equal, Greater}
use Rattle.std.specs.Ordering.{nat_cmp, int_cmp, is_eq, eq_by_cmp, ordering_then, then_cmp, on}
use Rattle.std.specs.Cmp.{IsTotalOrder}
use Rattle.std.specs.Cmp.Lexicographic.{slice_cmp}
use Rattle.std.proofs.lemmas.Cmp.{on_total, then_total, nat_cmp_total, int_cmp_total, nat_list_cmp_total, lists_total}
use Rattle.std.proofs.lemmas.Map.Lookups.{CmpEqualImpliesEq, exact_unsigned, exact_signed, exact_bytes}
use Rattle.event_types.specs.declared.value.Value.{Value}
use Rattle.event_types.specs.declared.value.Value.TheVariants.{Int, Over, Text, Dec}
use Rattle.event_types.specs.Order.{value_place, value_cmp, tuple_cmp}

-- the scale of a value, where it is a decimal
abbrev scale : Value → ℕ
scale (Dec s x) = s
scale v = 0

-- the number or the units of a value, where it has them
abbrev number : Value → ℤ
number (Int x) = x
number (Dec s x) = x
number v = pos 0

-- the bytes of a value, where it is a text
abbrev bytes : Value → List ℕ
bytes (Text x) = x
bytes v = []

-- the order of values as one by place, then by scale, then by number, then by bytes
abbrev ranked_cmp : Value → Value → Ordering
ranked_cmp = then_cmp (on value_place nat_cmp) (then_cmp (on scale nat_cmp) (then_cmp (on number int_cmp) (on bytes (slice_cmp nat_cmp))))

-- what ties behind it changes no order
ordering_then-equal : (o : Ordering) → ordering_then o Equal ≡ o
ordering_then-equal Less = refl
ordering_then-equal Equal = refl
ordering_then-equal Greater = refl

-- which is the order of values
ranked_is : (x y : Value) → ranked_cmp x y ≡ value_cmp x y
ranked_is (Int x) (Int y) = ordering_then-equal (int_cmp x y)
ranked_is (Dec s x) (Dec t y) = ap (ordering_then (nat_cmp s t)) (ordering_then-equal (int_cmp x y))
ranked_is (Text x) (Text y) = refl
ranked_is Over Over = refl
ranked_is x y = refl

-- it is total
ranked_total : IsTotalOrder ranked_cmp
ranked_total = then_total (on_total value_place nat_cmp_total) (then_total (on_total scale nat_cmp_total) (then_total (on_total number int_cmp_total) (on_total bytes nat_list_cmp_total)))

-- the order of values is total
pub value_total : IsTotalOrder value_cmp
value_total = let same : ranked_cmp ≡ value_cmp = λ i x y. ranked_is x y i in subst IsTotalOrder same ranked_total

-- the order of tuples is total
pub tuple_total : IsTotalOrder tuple_cmp
tuple_total = then_total (on_total (λ t. t.from) nat_cmp_total) (then_total (on_total (λ t. t.vals) (lists_total value_total)) (on_total (λ t. t.at) nat_cmp_total))

-- both parts of a tie tie
both_equal : (o p : Ordering) → ordering_then o p ≡ Equal → (o ≡ Equal) × (p ≡ Equal)
both_equal Less p e = cc
both_equal Equal p e = (refl, e)
both_equal Greater p e = cc

-- values that tie are one
pub value_exact : CmpEqualImpliesEq value_cmp
value_exact (Int x) (Int y) e = ap Int (exact_signed x y e)
value_exact (Dec s x) (Dec t y) e =
    let both = both_equal (nat_cmp s t) (int_cmp x y) e in λ i. Dec (exact_unsigned s t both.0 i) (exact_signed x y both.1 i)
value_exact Over Over e = refl
value_exact (Text x) (Text y) e = ap Text (exact_bytes x y e)
value_exact x y e = cc

-- so are values that are equal by it
pub tied_values : (x y : Value) → eq_by_cmp value_cmp x y ≡ true → x ≡ y
tied_values x y e = value_exact x y (tie (value_cmp x y) e)
  where
    tie : (o : Ordering) → is_eq o ≡ true → o ≡ Equal
    tie Less e = cc
    tie Equal e = refl
    tie Greater e = cc

-- lists that tie are one, where their items that tie are
pub lists_exact : {X : Type 0} (R : X → X → Ordering) → CmpEqualImpliesEq R → (xs ys : List X) → slice_cmp R xs ys ≡ Equal → xs ≡ ys
lists_exact R exact [] [] e = refl
lists_exact R exact [] (y ∷ ys) e = cc
lists_exact R exact (x ∷ xs) [] e = cc
lists_exact R exact (x ∷ xs) (y ∷ ys) e =
    let both = both_equal (R x y) (slice_cmp R xs ys) e in λ i. exact x y both.0 i ∷ lists_exact R exact xs ys both.1 i

-- tuples that tie are one
pub tuple_exact : CmpEqualImpliesEq tuple_cmp
tuple_exact s t e =
    let first = both_equal (nat_cmp s.from t.from) _ e in
    let second = both_equal (slice_cmp value_cmp s.vals t.vals) (nat_cmp s.at t.at) first.1 in
    let from = exact_unsigned s.from t.from first.0 in
    let vals = lists_exact value_cmp value_exact s.vals t.vals second.0 in
    let at = exact_unsigned s.at t.at second.1 in
    λ i. record { vals = vals i; from = from i; at = at i }

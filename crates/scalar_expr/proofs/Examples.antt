-- Examples of canonical forms and of kinds, each worked out by hand. No contract cites them.
use Rattle.std.proofs.Common.{◌≡◌, refl, pos, negsuc, [], ◌∷◌}
use Rattle.std.specs.Prelude.{None, Some, codes}
use Rattle.std.specs.declared.cmp.Ordering.TheVariants.{Less, Greater}
use Rattle.event_types.specs.declared.comparison.Cmp.TheVariants as cmp
use Rattle.event_types.specs.declared.kind.Kind.TheVariants as kind
use Rattle.event_types.specs.declared.value.Value.TheVariants as value
use Rattle.semantics.specs.OpKinds.{op_kind}
use Rattle.semantics.specs.Scalars.{Add, Mul, Min, Sc, Lit, Event, Binding, Dur, Two, True, Test, And, Or, Not}
use Rattle.scalar_expr.specs.Canonical.{canonical}
use Rattle.scalar_expr.specs.Kinds.{sc_kind}
use Rattle.scalar_expr.specs.TermOrder.{sc_cmp}

-- a literal whole number
abbrev five : Sc
five = Lit (value.Int (pos 5))

-- 5 < $2.a AND (TRUE AND $2.a > 5): one comparison, written twice, is one part
written_twice : canonical (And (Test five cmp.Lt (Event 0)) (And True (Test (Event 0) cmp.Gt five))) ≡ Test five cmp.Lt (Event 0) ∷ []
written_twice = refl

-- $2.a <= 5 and 5 >= $2.a are one, and so are $1.a = $2.a and $2.a = $1.a
turned_bounds : canonical (Test (Event 0) cmp.Le five) ≡ canonical (Test five cmp.Ge (Event 0))
turned_bounds = refl

turned_equality : canonical (Test (Binding 0) cmp.Eq (Event 0)) ≡ canonical (Test (Event 0) cmp.Eq (Binding 0))
turned_equality = refl

-- the order of the parts doesn't matter, and an OR stays whole
order_of_parts : canonical (And (Not True) (And (Or True True) (Test Dur cmp.Lt five))) ≡ Test Dur cmp.Lt five ∷ Or True True ∷ Not True ∷ []
order_of_parts = refl

-- TRUE has no part
true_has_no_part : canonical (And True True) ≡ []
true_has_no_part = refl

-- a whole number stands before a decimal, this before OVER, and OVER before a text
number_before_decimal : sc_cmp five (Lit (value.Dec 2 (negsuc 0))) ≡ Less
number_before_decimal = refl

decimals_by_scale : sc_cmp (Lit (value.Dec 1 (pos 9))) (Lit (value.Dec 2 (pos 1))) ≡ Less
decimals_by_scale = refl

decimals_of_one_scale_by_units : sc_cmp (Lit (value.Dec 2 (pos 1))) (Lit (value.Dec 2 (negsuc 0))) ≡ Greater
decimals_of_one_scale_by_units = refl

text_behind_decimal : sc_cmp (Lit (value.Text (codes ""))) (Lit (value.Dec 18 (pos 1))) ≡ Greater
text_behind_decimal = refl

-- 10.50 is a DEC 2, an attribute has the kind of its place, and DUR is a whole number
literal_decimal : sc_kind (Lit (value.Dec 2 (pos 1050))) [] None ≡ kind.Dec 2
literal_decimal = refl

second_attribute : sc_kind (Event 1) (kind.Int ∷ kind.Dec 18 ∷ []) None ≡ kind.Dec 18
second_attribute = refl

attribute_of_the_binding : sc_kind (Binding 0) (kind.Int ∷ []) (Some (kind.Text ∷ [])) ≡ kind.Text
attribute_of_the_binding = refl

span_is_a_whole_number : sc_kind Dur (kind.Text ∷ []) None ≡ kind.Int
span_is_a_whole_number = refl

-- 10.50 * 0.5 has three places, 10.50 * 3 and 10.50 + 0.05 have two; 10.50 + 0.5, and 10 and 9 places in a product, are refused
product_has_the_places_of_both : sc_kind (Two Mul (Lit (value.Dec 2 (pos 1050))) (Lit (value.Dec 1 (pos 5)))) [] None ≡ kind.Dec 3
product_has_the_places_of_both = refl

whole_number_has_no_places : sc_kind (Two Mul (Event 0) (Lit (value.Int (pos 3)))) (kind.Dec 2 ∷ []) None ≡ kind.Dec 2
whole_number_has_no_places = refl

sum_is_of_one_scale : op_kind Add (kind.Dec 2) (kind.Dec 2) ≡ Some (kind.Dec 2)
sum_is_of_one_scale = refl

sum_of_two_scales_has_no_kind : op_kind Add (kind.Dec 2) (kind.Dec 1) ≡ None
sum_of_two_scales_has_no_kind = refl

least_of_two_scales_has_no_kind : op_kind Min (kind.Dec 1) (kind.Dec 2) ≡ None
least_of_two_scales_has_no_kind = refl

eighteen_places_are_few : op_kind Mul (kind.Dec 9) (kind.Dec 9) ≡ Some (kind.Dec 18)
eighteen_places_are_few = refl

nineteen_places_are_too_many : op_kind Mul (kind.Dec 10) (kind.Dec 9) ≡ None
nineteen_places_are_too_many = refl

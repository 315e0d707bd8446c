-- Examples of values, conditions and what expressions denote, each worked out by hand. No contract cites them.
use Rattle.std.proofs.Common.{◌≡◌, refl, ℕ, ◌-◌, ◌^◌, pos, negsuc, true, false, List, [], ◌∷◌}
use Rattle.std.specs.Prelude.{Some, None, codes}
use Rattle.event_types.specs.declared.comparison.Cmp.TheVariants as cmp
use Rattle.event_types.specs.declared.value.Value.{Value}
use Rattle.event_types.specs.declared.value.Value.TheVariants as value
use Rattle.event_types.specs.Tuple.{TupleView}
use Rattle.semantics.specs.Scalars.{Sc, Lit, Event, Binding, Dur, Two, Add, Sub, Mul, Min, Max, Pr, Test, Not, Op}
use Rattle.semantics.specs.Values.{val}
use Rattle.semantics.specs.Truth.{truth}
use Rattle.semantics.specs.Nexts.{is_eligible, nexts}
use Rattle.semantics.specs.Runs.{runs}
use Rattle.semantics.specs.Expressions.{Read, Filter, Select, Union, Next, Fold}
use Rattle.semantics.specs.Denotation.{Streams, denote}

-- a literal number
abbrev pub number : ℕ → Sc
number n = Lit (value.Int (pos n))

-- the tuple of one number with these times
abbrev pub tuple : ℕ → ℕ → ℕ → TupleView
tuple n from at = record { vals = value.Int (pos n) ∷ []; from = from; at = at }

-- the tuple of two numbers with these times
abbrev pub pair : ℕ → ℕ → ℕ → ℕ → TupleView
pair m n from at = record { vals = value.Int (pos m) ∷ value.Int (pos n) ∷ []; from = from; at = at }

-- the largest and the least number of 128 bits
abbrev largest : Value
largest = value.Int (pos (2 ^ 127 - 1))

abbrev least : Value
least = value.Int (negsuc (2 ^ 127 - 1))

-- a scalar that is OVER
abbrev over : Sc
over = Two Add (Lit largest) (number 1)

-- the ends of the range are numbers
largest_is_a_number : val (Two Add (Lit largest) (number 0)) (tuple 0 1 1) None ≡ largest
largest_is_a_number = refl

least_is_a_number : val (Two Sub (Lit least) (number 0)) (tuple 0 1 1) None ≡ least
least_is_a_number = refl

-- one past either end is OVER
past_the_largest_is_over : val over (tuple 0 1 1) None ≡ value.Over
past_the_largest_is_over = refl

past_the_least_is_over : val (Two Sub (Lit least) (number 1)) (tuple 0 1 1) None ≡ value.Over
past_the_least_is_over = refl

-- an operation with an operand OVER is OVER, also where the other is 0 or less
over_stays : val (Two Mul over (number 0)) (tuple 0 1 1) None ≡ value.Over
over_stays = refl

least_of_over_is_over : val (Two Min over (number 0)) (tuple 0 1 1) None ≡ value.Over
least_of_over_is_over = refl

greatest_of_two : val (Two Max (number 3) (Lit (value.Int (negsuc 6)))) (tuple 0 1 1) None ≡ value.Int (pos 3)
greatest_of_two = refl

-- a literal decimal of 2 places, as 150 for 1.50
abbrev cents : ℕ → Sc
cents n = Lit (value.Dec 2 (pos n))

-- the value of an operation on two literals
abbrev of_two : Op → Value → Value → Value
of_two op x y = val (Two op (Lit x) (Lit y)) (tuple 0 1 1) None

-- sums and differences are of the units: 1.50 + 0.55 is 2.05, and 0.05 - 0.10 is -0.05
sum_of_decimals : of_two Add (value.Dec 2 (pos 150)) (value.Dec 2 (pos 55)) ≡ value.Dec 2 (pos 205)
sum_of_decimals = refl

difference_of_decimals : of_two Sub (value.Dec 2 (pos 5)) (value.Dec 2 (pos 10)) ≡ value.Dec 2 (negsuc 4)
difference_of_decimals = refl

smaller_of_decimals : of_two Min (value.Dec 2 (negsuc 4)) (value.Dec 2 (pos 3)) ≡ value.Dec 2 (negsuc 4)
smaller_of_decimals = refl

larger_of_decimals : of_two Max (value.Dec 2 (negsuc 4)) (value.Dec 2 (pos 3)) ≡ value.Dec 2 (pos 3)
larger_of_decimals = refl

-- of two scales, or of a decimal and a whole number, there is none of these
sum_of_two_scales_is_over : of_two Add (value.Dec 1 (pos 15)) (value.Dec 2 (pos 150)) ≡ value.Over
sum_of_two_scales_is_over = refl

difference_of_two_scales_is_over : of_two Sub (value.Dec 2 (pos 150)) (value.Dec 1 (pos 15)) ≡ value.Over
difference_of_two_scales_is_over = refl

largest_of_two_scales_is_over : of_two Max (value.Dec 1 (pos 15)) (value.Dec 2 (pos 150)) ≡ value.Over
largest_of_two_scales_is_over = refl

least_of_two_scales_is_over : of_two Min (value.Dec 1 (pos 15)) (value.Dec 2 (pos 150)) ≡ value.Over
least_of_two_scales_is_over = refl

sum_with_a_whole_number_is_over : of_two Add (value.Dec 0 (pos 1)) (value.Int (pos 1)) ≡ value.Over
sum_with_a_whole_number_is_over = refl

-- a product has the places of both: 1.5 * 0.25 is 0.375, and 3 * 0.25 is 0.75
product_of_decimals : of_two Mul (value.Dec 1 (pos 15)) (value.Dec 2 (pos 25)) ≡ value.Dec 3 (pos 375)
product_of_decimals = refl

product_with_a_whole_number : of_two Mul (value.Int (pos 3)) (value.Dec 2 (pos 25)) ≡ value.Dec 2 (pos 75)
product_with_a_whole_number = refl

product_by_a_whole_number : of_two Mul (value.Dec 2 (negsuc 24)) (value.Int (pos 3)) ≡ value.Dec 2 (negsuc 74)
product_by_a_whole_number = refl

-- 18 places are there, and 19 aren't
product_of_eighteen_places : of_two Mul (value.Dec 9 (pos 2)) (value.Dec 9 (pos 3)) ≡ value.Dec 18 (pos 6)
product_of_eighteen_places = refl

product_of_nineteen_places_is_over : of_two Mul (value.Dec 10 (pos 2)) (value.Dec 9 (pos 3)) ≡ value.Over
product_of_nineteen_places_is_over = refl

-- a whole number has no places: by it a product of 18 places keeps them
product_of_eighteen_places_by_a_whole_number : of_two Mul (value.Dec 18 (pos 2)) (value.Int (pos 3)) ≡ value.Dec 18 (pos 6)
product_of_eighteen_places_by_a_whole_number = refl

-- the ends of the range of the units, and one past them
largest_units_are_there : of_two Add (value.Dec 2 (pos (2 ^ 127 - 2))) (value.Dec 2 (pos 1)) ≡ value.Dec 2 (pos (2 ^ 127 - 1))
largest_units_are_there = refl

past_the_largest_units_is_over : of_two Add (value.Dec 2 (pos (2 ^ 127 - 1))) (value.Dec 2 (pos 1)) ≡ value.Over
past_the_largest_units_is_over = refl

least_units_are_there : of_two Sub (value.Dec 2 (negsuc (2 ^ 127 - 2))) (value.Dec 2 (pos 1)) ≡ value.Dec 2 (negsuc (2 ^ 127 - 1))
least_units_are_there = refl

past_the_least_units_is_over : of_two Sub (value.Dec 2 (negsuc (2 ^ 127 - 1))) (value.Dec 2 (pos 1)) ≡ value.Over
past_the_least_units_is_over = refl

least_units_by_product : of_two Mul (value.Dec 1 (negsuc (2 ^ 126 - 1))) (value.Dec 1 (pos 2)) ≡ value.Dec 2 (negsuc (2 ^ 127 - 1))
least_units_by_product = refl

product_past_the_largest_units_is_over : of_two Mul (value.Dec 1 (pos (2 ^ 126))) (value.Dec 1 (pos 2)) ≡ value.Over
product_past_the_largest_units_is_over = refl

least_units_by_sum : of_two Add (value.Dec 2 (negsuc (2 ^ 127 - 2))) (value.Dec 2 (negsuc 0)) ≡ value.Dec 2 (negsuc (2 ^ 127 - 1))
least_units_by_sum = refl

sum_past_the_least_units_is_over : of_two Add (value.Dec 2 (negsuc (2 ^ 127 - 1))) (value.Dec 2 (negsuc 0)) ≡ value.Over
sum_past_the_least_units_is_over = refl

difference_past_the_largest_units_is_over : of_two Sub (value.Dec 2 (pos (2 ^ 127 - 1))) (value.Dec 2 (negsuc 0)) ≡ value.Over
difference_past_the_largest_units_is_over = refl

product_past_the_least_units_is_over : of_two Mul (value.Dec 1 (negsuc (2 ^ 126))) (value.Dec 1 (pos 2)) ≡ value.Over
product_past_the_least_units_is_over = refl

-- twice 2^126 units are 2^127, one too many; -2 times as many are the least; and twice one fewer are there
twice_is_past_the_largest_units : of_two Mul (value.Int (pos 2)) (value.Dec 2 (pos (2 ^ 126))) ≡ value.Over
twice_is_past_the_largest_units = refl

minus_twice_is_the_least_units : of_two Mul (value.Dec 2 (pos (2 ^ 126))) (value.Int (negsuc 1)) ≡ value.Dec 2 (negsuc (2 ^ 127 - 1))
minus_twice_is_the_least_units = refl

twice_one_fewer_is_there : of_two Mul (value.Int (pos 2)) (value.Dec 2 (pos (2 ^ 126 - 1))) ≡ value.Dec 2 (pos (2 ^ 127 - 2))
twice_one_fewer_is_there = refl

-- the least whole number by -1, and the least of a decimal, are one past the largest
least_by_minus_one_is_over : of_two Mul least (value.Int (negsuc 0)) ≡ value.Over
least_by_minus_one_is_over = refl

least_units_by_minus_one_are_over : of_two Mul (value.Int (negsuc 0)) (value.Dec 2 (negsuc (2 ^ 127 - 1))) ≡ value.Over
least_units_by_minus_one_are_over = refl

-- a text is no operand
product_with_a_text_is_over : of_two Mul (value.Dec 2 (pos 5)) (value.Text (codes "5")) ≡ value.Over
product_with_a_text_is_over = refl

-- an operation with OVER is OVER
decimal_with_over_is_over : of_two Mul (value.Dec 2 (pos 0)) value.Over ≡ value.Over
decimal_with_over_is_over = refl

-- decimals of one scale compare by units, and those of two scales never, `<>` included
decimals_compare_by_units : truth (Test (cents 150) cmp.Lt (cents 205)) (tuple 0 1 1) None ≡ true
decimals_compare_by_units = refl

scales_never_compare : truth (Test (cents 150) cmp.Ne (Lit (value.Dec 1 (pos 15)))) (tuple 0 1 1) None ≡ false
scales_never_compare = refl

-- nor does a decimal without places with a whole number, nor a decimal with OVER
decimal_never_equals_a_whole_number : truth (Test (Lit (value.Dec 0 (pos 7))) cmp.Eq (number 7)) (tuple 0 1 1) None ≡ false
decimal_never_equals_a_whole_number = refl

over_is_not_below_a_decimal : truth (Test over cmp.Lt (cents 150)) (tuple 0 1 1) None ≡ false
over_is_not_below_a_decimal = refl

-- the ends of the units compare by size
least_units_are_below_the_largest : truth (Test (Lit (value.Dec 2 (negsuc (2 ^ 127 - 1)))) cmp.Lt (Lit (value.Dec 2 (pos (2 ^ 127 - 1))))) (tuple 0 1 1) None ≡ true
least_units_are_below_the_largest = refl

-- each comparison with OVER is false
over_is_not_other_than_one : truth (Test over cmp.Ne (number 1)) (tuple 0 1 1) None ≡ false
over_is_not_other_than_one = refl

over_does_not_equal_over : truth (Test over cmp.Eq over) (tuple 0 1 1) None ≡ false
over_does_not_equal_over = refl

-- and its NOT is true
not_over_equals_one : truth (Not (Test over cmp.Eq (number 1))) (tuple 0 1 1) None ≡ true
not_over_equals_one = refl

-- texts compare by bytes: `Zoo` stands before `ab`
capitals_come_first : truth (Test (Lit (value.Text (codes "Zoo"))) cmp.Lt (Lit (value.Text (codes "ab")))) (tuple 0 1 1) None ≡ true
capitals_come_first = refl

-- an event from 5 to 9 lasts 4, and spans 7 from the start of a binding from 2 to 3
span_of_an_event : val Dur (tuple 0 5 9) None ≡ value.Int (pos 4)
span_of_an_event = refl

span_from_a_binding : val Dur (tuple 0 5 9) (Some (tuple 0 2 3)) ≡ value.Int (pos 7)
span_from_a_binding = refl

-- an event that starts at the binding's detection is not eligible, and one that starts after it is
starts_at_the_detection : is_eligible [] (tuple 0 1 3) (tuple 0 3 4) ≡ false
starts_at_the_detection = refl

starts_after_the_detection : is_eligible [] (tuple 0 1 3) (tuple 0 4 4) ≡ true
starts_after_the_detection = refl

-- simultaneous nexts all count, equal ones as often as they stand; later ones and one that starts too early don't
all_simultaneous_nexts : nexts [] (tuple 0 1 1) (tuple 8 3 4 ∷ tuple 5 1 2 ∷ tuple 7 2 3 ∷ tuple 6 3 3 ∷ tuple 7 2 3 ∷ []) ≡ tuple 7 2 3 ∷ tuple 6 3 3 ∷ tuple 7 2 3 ∷ []
all_simultaneous_nexts = refl

-- the least detection time is sought among the eligible tuples alone
next_is_sought_among_the_eligible : nexts (Test (Event 0) cmp.Gt (Binding 0) ∷ []) (tuple 5 1 1) (tuple 4 2 2 ∷ tuple 6 3 3 ∷ tuple 9 4 4 ∷ []) ≡ tuple 6 3 3 ∷ []
next_is_sought_among_the_eligible = refl

-- $2.a > $.a
abbrev pub rises : List Pr
rises = Test (Event 0) cmp.Gt (Binding 0) ∷ []

-- $.a + $2.a AS a
abbrev sums : List Sc
sums = Two Add (Binding 0) (Event 0) ∷ []

-- two simultaneous nexts make two branches, of which each goes on by itself: 1 + 2, then 3 + 9; 1 + 4, then 5 + 9
branching_runs : runs [] [] sums (tuple 2 2 2 ∷ tuple 4 2 2 ∷ tuple 9 3 3 ∷ []) (tuple 1 1 1) ≡ tuple 3 1 2 ∷ tuple 12 1 3 ∷ tuple 5 1 2 ∷ tuple 14 1 3 ∷ []
branching_runs = refl

-- the next event decides: 3 isn't above the binding's 4, so the run ends there, although 9 comes later
stopped_run : runs [] rises (Event 0 ∷ []) (tuple 4 2 2 ∷ tuple 3 3 3 ∷ tuple 9 4 4 ∷ []) (tuple 1 1 1) ≡ tuple 4 1 2 ∷ []
stopped_run = refl

-- while a condition on the choice itself passes over 3
passed_over : runs rises [] (Event 0 ∷ []) (tuple 4 2 2 ∷ tuple 3 3 3 ∷ tuple 9 4 4 ∷ []) (tuple 1 1 1) ≡ tuple 4 1 2 ∷ tuple 9 1 4 ∷ []
passed_over = refl

-- the one stream of the examples below
abbrev prices : Streams
prices stream = tuple 5 1 1 ∷ tuple 7 2 2 ∷ tuple 6 3 3 ∷ tuple 9 3 3 ∷ []

-- FILTER {a > 6} S
filtered : denote (Filter (Test (Event 0) cmp.Gt (number 6) ∷ []) (Read 0)) prices ≡ tuple 7 2 2 ∷ tuple 9 3 3 ∷ []
filtered = refl

-- SELECT a, a + a AS b FROM FILTER {a = 6} S
projected : denote (Select (record { width = 1; parts = Event 0 ∷ Two Add (Event 0) (Event 0) ∷ [] }) (Filter (Test (Event 0) cmp.Eq (number 6) ∷ []) (Read 0))) prices ≡ pair 6 12 3 3 ∷ []
projected = refl

-- FILTER {a = 5} S UNION FILTER {a = 5} S has its tuple twice
united : denote (Union (Filter (Test (Event 0) cmp.Eq (number 5) ∷ []) (Read 0)) (Filter (Test (Event 0) cmp.Eq (number 5) ∷ []) (Read 0))) prices ≡ tuple 5 1 1 ∷ tuple 5 1 1 ∷ []
united = refl

-- S NEXT {$2.a > $1.a} S: 5 is followed by 7, and 7 by 9
followed : denote (Next rises (Read 0) (Read 0)) prices ≡ pair 5 7 1 2 ∷ pair 7 9 2 3 ∷ []
followed = refl

-- S FOLD {$2.a > $.a, TRUE, $.a + $2.a AS a} S: from 5 to 5 + 7, which no price exceeds; from 7 to 7 + 9
iterated : denote (Fold rises [] (record { width = 1; parts = sums }) (Read 0) (Read 0)) prices ≡ tuple 12 1 2 ∷ tuple 16 2 3 ∷ []
iterated = refl

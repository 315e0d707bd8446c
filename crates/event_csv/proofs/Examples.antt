-- Examples of the decimals that fields write, of lines with two faults, and of control lines, each worked out by hand.
-- No contract cites them.
use Rattle.std.proofs.Common.{◌≡◌, refl, pos, negsuc, List, [], ◌∷◌}
use Rattle.std.specs.Prelude.{Some, None, Ok, Err, codes}
use Rattle.event_types.specs.declared.kind.Kind.{Kind}
use Rattle.event_types.specs.declared.kind.Kind.TheVariants as kind
use Rattle.event_types.specs.declared.value.Value.TheVariants as value
use Rattle.event_csv.specs.Control.{Asked, control_of_text}
use Rattle.event_csv.specs.declared.control.ControlError.TheVariants as refused
use Rattle.event_csv.specs.Decimals.{units_of}
use Rattle.event_csv.specs.Event.{values_of, counted_event, known_event}
use Rattle.event_csv.specs.Faults.{first_fault, value_faults}
use Rattle.event_csv.specs.declared.fault.LineFault.TheVariants as fault

-- missing places are zeros
one_place_of_two : units_of 2 (codes "10.5") ≡ Some (pos 1050)
one_place_of_two = refl

no_place_of_two : units_of 2 (codes "+11") ≡ Some (pos 1100)
no_place_of_two = refl

all_places : units_of 2 (codes "010.05") ≡ Some (pos 1005)
all_places = refl

-- the sign counts below 1, and minus zero is zero
below_one : units_of 2 (codes "-0.05") ≡ Some (negsuc 4)
below_one = refl

minus_zero : units_of 2 (codes "-0.00") ≡ Some (pos 0)
minus_zero = refl

-- more digits than places, a point before no digit or behind none, two points, two signs, and no digit
too_many_places : units_of 2 (codes "1.234") ≡ None
too_many_places = refl

point_before_no_digit : units_of 2 (codes "5.") ≡ None
point_before_no_digit = refl

point_behind_no_digit : units_of 2 (codes ".5") ≡ None
point_behind_no_digit = refl

point_behind_a_sign : units_of 2 (codes "-.5") ≡ None
point_behind_a_sign = refl

two_points : units_of 3 (codes "1.2.3") ≡ None
two_points = refl

two_signs : units_of 2 (codes "+-1") ≡ None
two_signs = refl

no_digit : units_of 2 (codes "-") ≡ None
no_digit = refl

-- where there are no places no point may stand
no_places : units_of 0 (codes "7") ≡ Some (pos 7)
no_places = refl

no_point_without_places : units_of 0 (codes "7.0") ≡ None
no_point_without_places = refl

-- the ends of the range of the units
largest : units_of 2 (codes "1701411834604692317316873037158841057.27") ≡ Some (pos 170141183460469231731687303715884105727)
largest = refl

past_the_largest : units_of 2 (codes "1701411834604692317316873037158841057.28") ≡ None
past_the_largest = refl

least : units_of 2 (codes "-1701411834604692317316873037158841057.28") ≡ Some (negsuc 170141183460469231731687303715884105727)
least = refl

past_the_least : units_of 2 (codes "-1701411834604692317316873037158841057.29") ≡ None
past_the_least = refl

largest_without_places : units_of 0 (codes "170141183460469231731687303715884105727") ≡ Some (pos 170141183460469231731687303715884105727)
largest_without_places = refl

past_the_least_without_places : units_of 0 (codes "-170141183460469231731687303715884105729") ≡ None
past_the_least_without_places = refl

-- eighteen places; those behind the first may be missing, or all with the point
last_of_eighteen_places : units_of 18 (codes "-0.000000000000000001") ≡ Some (negsuc 0)
last_of_eighteen_places = refl

first_of_eighteen_places : units_of 18 (codes "1.5") ≡ Some (pos 1500000000000000000)
first_of_eighteen_places = refl

nineteen_places : units_of 18 (codes "0.0000000000000000010") ≡ None
nineteen_places = refl

least_of_eighteen_places : units_of 18 (codes "-170141183460469231731.687303715884105728") ≡ Some (negsuc 170141183460469231731687303715884105727)
least_of_eighteen_places = refl

past_the_largest_of_eighteen_places : units_of 18 (codes "170141183460469231731.687303715884105728") ≡ None
past_the_largest_of_eighteen_places = refl

-- the kinds of `Trade (Price INT, Cap DEC 2)`
abbrev kinds : List Kind
kinds = kind.Int ∷ kind.Dec 2 ∷ []

-- both values are there
two_values : values_of 4 kinds (codes "-7" ∷ codes "1.5" ∷ []) ≡ Ok (value.Int (negsuc 6) ∷ value.Dec 2 (pos 150) ∷ [])
two_values = refl

-- of two fields that aren't of their kinds the first is the fault, be it an INT or a DEC
number_before_decimal : values_of 4 kinds (codes "x" ∷ codes "1.234" ∷ []) ≡ Err (fault.BadInt 4)
number_before_decimal = refl

decimal_before_number : values_of 4 (kind.Dec 2 ∷ kind.Int ∷ []) (codes "1.234" ∷ codes "x" ∷ []) ≡ Err (fault.BadDec 4 2)
decimal_before_number = refl

decimal_behind_a_good_field : values_of 4 kinds (codes "7" ∷ codes "1.234" ∷ []) ≡ Err (fault.BadDec 5 2)
decimal_behind_a_good_field = refl

-- so it is by the table of faults
first_of_two_in_the_table : (seen : _) → first_fault (value_faults 4 (kind.Dec 2 ∷ kind.Int ∷ []) (codes "1.234" ∷ codes "x" ∷ [])) seen ≡ Err (fault.BadDec 4 2)
first_of_two_in_the_table seen = refl

-- an unknown stream comes before a wrong number of fields, this before a time, the start before the detection, a
-- start after the detection before a value
unknown_stream_before_the_number_of_fields : known_event None (codes "1" ∷ []) ≡ Err fault.UnknownStream
unknown_stream_before_the_number_of_fields = refl

number_of_fields_before_a_time : counted_event 0 kinds (codes "x" ∷ codes "8" ∷ codes "7" ∷ []) ≡ Err (fault.FieldCount 5 4)
number_of_fields_before_a_time = refl

start_before_detection : counted_event 0 kinds (codes "x" ∷ codes "y" ∷ codes "7" ∷ codes "1" ∷ []) ≡ Err (fault.BadTime 2)
start_before_detection = refl

detection_before_a_value : counted_event 0 kinds (codes "7" ∷ codes "y" ∷ codes "x" ∷ codes "1" ∷ []) ≡ Err (fault.BadTime 3)
detection_before_a_value = refl

start_after_detection_before_a_value : counted_event 0 kinds (codes "8" ∷ codes "7" ∷ codes "x" ∷ codes "1" ∷ []) ≡ Err fault.StartAfterDetection
start_after_detection_before_a_value = refl

-- what stands behind the word and one space is the text of a query, or a name
query_comes : control_of_text (codes ">ADD SELECT * FROM Stock PUBLISH All;") ≡ Ok (Asked.Adding (codes "SELECT * FROM Stock PUBLISH All;"))
query_comes = refl

query_leaves : control_of_text (codes ">DROP Pair ") ≡ Ok (Asked.Removing (codes "Pair "))
query_leaves = refl

-- another word, small letters, and no space behind the word
other_word : control_of_text (codes ">STOP") ≡ Err refused.BadForm
other_word = refl

small_letters : control_of_text (codes ">add S") ≡ Err refused.BadForm
small_letters = refl

no_space : control_of_text (codes ">DROP") ≡ Err refused.BadForm
no_space = refl

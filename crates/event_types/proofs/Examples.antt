-- Examples of the order of values and of tuples, and of the words of kinds, each worked out by hand. No contract cites them.
use Rattle.std.proofs.Common.{◌≡◌, ap, refl, lit<, ℕ, ◌-◌, ◌^◌, pos, negsuc, List, [], ◌∷◌, ◌++◌}
use Rattle.std.specs.Prelude.{codes}
use Rattle.std.specs.declared.cmp.Ordering.TheVariants.{Less, Equal, Greater}
use Rattle.std.proofs.lemmas.Fmt.{decimal_digit, decimal-digits_of}
use Rattle.event_types.specs.declared.kind.Kind.TheVariants as kind
use Rattle.event_types.specs.declared.value.Value.{Value}
use Rattle.event_types.specs.declared.value.Value.TheVariants.{Int, Over, Text, Dec}
use Rattle.event_types.specs.KindWord.{kind_word}
use Rattle.event_types.specs.Order.{value_cmp, tuple_cmp, sorted}
use Rattle.event_types.specs.Tuple.{TupleView}

-- the ends of the whole numbers
abbrev largest : Value
largest = Int (pos (2 ^ 127 - 1))

abbrev least : Value
least = Int (negsuc (2 ^ 127 - 1))

-- whole numbers by size
least_is_below_largest : value_cmp least largest ≡ Less
least_is_below_largest = refl

minus_one_is_below_none : value_cmp (Int (negsuc 0)) (Int (pos 0)) ≡ Less
minus_one_is_below_none = refl

-- the largest whole number stands before the least decimal
numbers_come_before_decimals : value_cmp largest (Dec 0 (negsuc (2 ^ 127 - 1))) ≡ Less
numbers_come_before_decimals = refl

decimals_come_after_numbers : value_cmp (Dec 0 (negsuc (2 ^ 127 - 1))) largest ≡ Greater
decimals_come_after_numbers = refl

-- the scale comes first: the largest units of scale 1 stand before the least of scale 2
scale_comes_before_units : value_cmp (Dec 1 (pos (2 ^ 127 - 1))) (Dec 2 (negsuc (2 ^ 127 - 1))) ≡ Less
scale_comes_before_units = refl

-- and in one scale the units: -0.01 before 0.00, which equals itself
units_come_by_size : value_cmp (Dec 2 (negsuc 0)) (Dec 2 (pos 0)) ≡ Less
units_come_by_size = refl

equal_units_tie : value_cmp (Dec 2 (pos 0)) (Dec 2 (pos 0)) ≡ Equal
equal_units_tie = refl

-- 1.0 and 1.00 are two values
scales_tell_apart : value_cmp (Dec 1 (pos 10)) (Dec 2 (pos 100)) ≡ Less
scales_tell_apart = refl

-- OVER stands after each number and each decimal, and before the empty text
over_comes_after_numbers : value_cmp largest Over ≡ Less
over_comes_after_numbers = refl

over_comes_after_decimals : value_cmp (Dec 18 (pos (2 ^ 127 - 1))) Over ≡ Less
over_comes_after_decimals = refl

decimals_come_before_over : value_cmp Over (Dec 18 (pos (2 ^ 127 - 1))) ≡ Greater
decimals_come_before_over = refl

over_ties_with_over : value_cmp Over Over ≡ Equal
over_ties_with_over = refl

texts_come_after_over : value_cmp Over (Text []) ≡ Less
texts_come_after_over = refl

-- texts stand after all, by bytes, a prefix first
texts_come_after_numbers : value_cmp (Text []) largest ≡ Greater
texts_come_after_numbers = refl

texts_come_after_decimals : value_cmp (Text []) (Dec 18 (pos (2 ^ 127 - 1))) ≡ Greater
texts_come_after_decimals = refl

texts_come_by_bytes : value_cmp (Text (codes "10")) (Text (codes "9")) ≡ Less
texts_come_by_bytes = refl

prefix_comes_first : value_cmp (Text (codes "a")) (Text (codes "a0")) ≡ Less
prefix_comes_first = refl

-- each end of the whole numbers ties with itself
largest_ties_with_itself : value_cmp largest largest ≡ Equal
largest_ties_with_itself = refl

least_ties_with_itself : value_cmp least least ≡ Equal
least_ties_with_itself = refl

-- the least whole number, too, stands before a decimal, OVER and a text
least_comes_before_decimals : value_cmp least (Dec 18 (negsuc (2 ^ 127 - 1))) ≡ Less
least_comes_before_decimals = refl

least_comes_before_over : value_cmp Over least ≡ Greater
least_comes_before_over = refl

least_comes_before_texts : value_cmp least (Text []) ≡ Less
least_comes_before_texts = refl

-- the least units of a scale stand before its largest
least_units_are_below_largest : value_cmp (Dec 18 (negsuc (2 ^ 127 - 1))) (Dec 18 (pos (2 ^ 127 - 1))) ≡ Less
least_units_are_below_largest = refl

-- capitals stand before small letters, and those before letters of two bytes, as é
capitals_come_first : value_cmp (Text (codes "Z")) (Text (codes "a")) ≡ Less
capitals_come_first = refl

letters_of_two_bytes_come_last : value_cmp (Text (codes "a0")) (Text (195 ∷ 169 ∷ [])) ≡ Less
letters_of_two_bytes_come_last = refl

-- kinds as they stand in a declaration
word_of_a_whole_number : kind_word kind.Int ≡ codes "INT"
word_of_a_whole_number = refl

word_of_a_text : kind_word kind.Text ≡ codes "TEXT"
word_of_a_text = refl

word_without_places : kind_word (kind.Dec 0) ≡ codes "DEC 0"
word_without_places = ap (λ digits. codes "DEC " ++ digits) (decimal_digit 0 (lit< tt))

word_of_eighteen_places : kind_word (kind.Dec 18) ≡ codes "DEC 18"
word_of_eighteen_places = ap (λ digits. codes "DEC " ++ digits) (decimal-digits_of 18 (lit< tt) (lit< tt))

-- the tuple of these values from a start to a detection
abbrev tuple : ℕ → List Value → ℕ → TupleView
tuple from vals at = record { vals = vals; from = from; at = at }

-- the start comes first: greater values and a later detection don't matter
start_comes_first : tuple_cmp (tuple 1 (Text (codes "z") ∷ []) 9) (tuple 2 (least ∷ []) 2) ≡ Less
start_comes_first = refl

-- of one start the values decide, from left to right, whatever the detection
values_come_second : tuple_cmp (tuple 1 (Int (pos 1) ∷ largest ∷ []) 9) (tuple 1 (Int (pos 2) ∷ least ∷ []) 2) ≡ Less
values_come_second = refl

-- a list stands after each that it goes on from, and no values stand first
shorter_list_comes_first : tuple_cmp (tuple 1 (Over ∷ []) 9) (tuple 1 (Over ∷ least ∷ []) 2) ≡ Less
shorter_list_comes_first = refl

no_values_come_first : tuple_cmp (tuple 1 (least ∷ []) 2) (tuple 1 [] 9) ≡ Greater
no_values_come_first = refl

-- a shorter list stands later where an item of it is greater
greater_item_decides_before_the_length : tuple_cmp (tuple 1 (Over ∷ []) 2) (tuple 1 (largest ∷ largest ∷ []) 2) ≡ Greater
greater_item_decides_before_the_length = refl

-- the detection decides last
detection_comes_last : tuple_cmp (tuple 1 (Over ∷ []) 2) (tuple 1 (Over ∷ []) 3) ≡ Less
detection_comes_last = refl

equal_tuples_tie : tuple_cmp (tuple 1 (Over ∷ []) 2) (tuple 1 (Over ∷ []) 2) ≡ Equal
equal_tuples_tie = refl

-- sorted tuples, of which equal ones stand as often as before
all_sorts_in_order : sorted (tuple 1 (Text [] ∷ []) 2 ∷ tuple 1 (Over ∷ []) 2 ∷ tuple 1 (Dec 2 (pos 5) ∷ []) 2 ∷ tuple 0 (Over ∷ []) 5 ∷ tuple 1 (Int (pos 7) ∷ []) 2 ∷ tuple 1 (Over ∷ []) 2 ∷ []) ≡ tuple 0 (Over ∷ []) 5 ∷ tuple 1 (Int (pos 7) ∷ []) 2 ∷ tuple 1 (Dec 2 (pos 5) ∷ []) 2 ∷ tuple 1 (Over ∷ []) 2 ∷ tuple 1 (Over ∷ []) 2 ∷ tuple 1 (Text [] ∷ []) 2 ∷ []
all_sorts_in_order = refl

-- Examples of snapshots and of bytes that are none, each byte worked out by hand. No contract cites them.
use Rattle.std.proofs.Common.{◌≡◌, refl, pos, negsuc, ℕ, List, [], ◌∷◌, ◌++◌, length, take, true}
use Rattle.std.specs.Prelude.{codes, None, Some, Ok, Err}
use Rattle.std.specs.Str.{is_utf8}
use Rattle.std.proofs.lemmas.Str.{is_utf8-from_IsUtf8}
use Rattle.event_types.specs.Tuple.{TupleView}
use Rattle.event_types.specs.declared.value.Value.{Value}
use Rattle.event_types.specs.declared.value.Value.TheVariants as value
use Rattle.snap_codec.specs.declared.fault.SnapFault.TheVariants as fault
use Rattle.snap_codec.specs.declared.image.Image.{Image}
use Rattle.snap_codec.specs.Reading.{decimal_from, decoded, ended, item_at, items_at, list_at, number_from, open_at, parts_at, spanned_at, text_from, time_at, tuple_at, value_at, whole_from}
use Rattle.snap_codec.specs.Spelling.{bits_bytes, image_bytes, number_bytes}

-- a tuple with these times and values
abbrev tuple : ℕ → ℕ → List Value → TupleView
tuple from at vals = record { vals = vals; from = from; at = at }

-- a text of one letter, which has two bytes; a query without a birth, and one that was born at 258; 2 is closed, and 3 is open with an event of -1 and OVER; x and 10.50 wait at the first of two states, since 1
abbrev small : Image
small = record {
  text = 195 ∷ 169 ∷ [];
  births = None ∷ Some 258 ∷ [];
  last = Some 2;
  opened = Some 3;
  events = record { place = 0; tuple = tuple 3 3 (value.Int (negsuc 0) ∷ value.Over ∷ []) } ∷ [];
  stores = (record { first = 1; tuple = tuple 1 2 (value.Text (codes "x") ∷ value.Dec 2 (pos 1050) ∷ []) } ∷ []) ∷ [] ∷ [];
}

-- a number below 256
abbrev below_256 : ℕ → List ℕ
below_256 byte = 0 ∷ 0 ∷ 0 ∷ 0 ∷ 0 ∷ 0 ∷ 0 ∷ byte ∷ []

-- CAYSNAP1, and two bytes of text
abbrev text_part : List ℕ
text_part = 67 ∷ 65 ∷ 89 ∷ 83 ∷ 78 ∷ 65 ∷ 80 ∷ 49 ∷ (below_256 2 ++ 195 ∷ 169 ∷ [])

-- two births: none, and 1 * 256 + 2
abbrev births_part : List ℕ
births_part = below_256 2 ++ 0 ∷ 1 ∷ 0 ∷ 0 ∷ 0 ∷ 0 ∷ 0 ∷ 0 ∷ 1 ∷ 2 ∷ []

-- the last closed time and the open one
abbrev times_part : List ℕ
times_part = 1 ∷ (below_256 2 ++ 1 ∷ below_256 3)

-- -1 in 128 bits
abbrev minus_one : List ℕ
minus_one = 255 ∷ 255 ∷ 255 ∷ 255 ∷ 255 ∷ 255 ∷ 255 ∷ 255 ∷ 255 ∷ 255 ∷ 255 ∷ 255 ∷ 255 ∷ 255 ∷ 255 ∷ 255 ∷ []

-- one event: its place, its times and two values, the number and OVER
abbrev events_part : List ℕ
events_part = below_256 1 ++ (below_256 0 ++ (below_256 3 ++ (below_256 3 ++ (below_256 2 ++ 0 ∷ (minus_one ++ 1 ∷ [])))))

-- two values: a text of one byte, and a decimal with two places and 4 * 256 + 26 units
abbrev waiting_values : List ℕ
waiting_values = below_256 2 ++ 2 ∷ (below_256 1 ++ 120 ∷ 3 ∷ 2 ∷ (below_256 0 ++ 0 ∷ 0 ∷ 0 ∷ 0 ∷ 0 ∷ 0 ∷ 4 ∷ 26 ∷ []))

-- two stores: of one item, which began at 1, and of none
abbrev stores_part : List ℕ
stores_part = below_256 2 ++ (below_256 1 ++ (below_256 1 ++ (below_256 1 ++ (below_256 2 ++ (waiting_values ++ below_256 0)))))

abbrev small_bytes : List ℕ
small_bytes = text_part ++ (births_part ++ (times_part ++ (events_part ++ stores_part)))

small_is_spelled : image_bytes small ≡ small_bytes
unfolding number_bytes bits_bytes
small_is_spelled = refl

-- its text is that of one character, é
text_is_utf8 : is_utf8 small.text ≡ true
unfolding lib.Utf8.encode
text_is_utf8 = is_utf8-from_IsUtf8 small.text (233 ∷ [], (refl, refl))

x_is_utf8 : is_utf8 (codes "x") ≡ true
unfolding lib.Utf8.encode
x_is_utf8 = is_utf8-from_IsUtf8 (codes "x") (codes "x", (refl, refl))

small_is_read : decoded small_bytes ≡ Ok small
unfolding decimal_from decoded ended item_at items_at list_at number_from open_at parts_at spanned_at text_from time_at tuple_at value_at whole_from
small_is_read = rw (text_is_utf8, x_is_utf8) refl

-- without its last byte the last number, which begins behind 188 bytes, is cut
without_last_byte : decoded (take 195 small_bytes) ≡ Err (fault.Cut 188)
unfolding decimal_from decoded ended item_at items_at list_at number_from open_at parts_at spanned_at text_from time_at tuple_at value_at whole_from
without_last_byte = rw (text_is_utf8, x_is_utf8) refl

-- with one byte more that one follows, behind 196
with_one_more : decoded (small_bytes ++ 0 ∷ []) ≡ Err (fault.Extra 196)
unfolding decimal_from decoded ended item_at items_at list_at number_from open_at parts_at spanned_at text_from time_at tuple_at value_at whole_from
with_one_more = rw (text_is_utf8, x_is_utf8) refl

-- a decimal of 19 places is told once all its bytes are there, and else it is cut; so is a text that isn't UTF-8, and both are told at the tag
nineteen_places : value_at 30 (3 ∷ 19 ∷ minus_one) ≡ Err (fault.BadByte 12)
unfolding value_at decimal_from whole_from
nineteen_places = refl

nineteen_places_cut : value_at 29 (3 ∷ 19 ∷ take 15 minus_one) ≡ Err (fault.Cut 12)
unfolding value_at decimal_from whole_from
nineteen_places_cut = refl

text_cut : value_at 20 (2 ∷ (below_256 3 ++ 255 ∷ 255 ∷ [])) ≡ Err (fault.Cut 9)
unfolding value_at text_from number_from
text_cut = refl

-- no value has the tag 4, and no time the tag 2
no_value : value_at 1 (4 ∷ []) ≡ Err (fault.BadByte 0)
unfolding value_at
no_value = refl

no_time : time_at 9 (2 ∷ []) ≡ Err (fault.BadByte 8)
unfolding time_at
no_time = refl

-- a tuple from 3 to 2 is told at its begin, before its values, which are cut; one that is cut in its detection time is told there
falls_back : tuple_at 18 (below_256 3 ++ below_256 2) ≡ Err (fault.BadByte 2)
unfolding tuple_at spanned_at number_from
falls_back = refl

detection_cut : tuple_at 18 (below_256 3 ++ take 7 (below_256 2)) ≡ Err (fault.Cut 11)
unfolding tuple_at number_from
detection_cut = refl

-- what doesn't begin as snapshots do, and what has nothing behind that
no_snapshot : decoded (codes "CAYSNAP2") ≡ Err fault.NotSnapshot
unfolding decoded
no_snapshot = refl

nothing_behind : decoded (codes "CAYSNAP1") ≡ Err (fault.Cut 8)
unfolding decoded parts_at text_from number_from
nothing_behind = refl

-- STREAM Stock (Name TEXT, Price INT, Volume INT);
-- SELECT * FROM Stock NEXT {$2.Name = $1.Name} Stock PUBLISH Pair;
-- 1 is closed, and 2 is open; the event of 1 waits for a later one of its name
abbrev price : ℕ → ℕ → ℕ → TupleView
price at number volume = tuple at at (value.Text (codes "IBM") ∷ value.Int (pos number) ∷ value.Int (pos volume) ∷ [])

abbrev two_prices : Image
two_prices = record {
  text = codes "STREAM Stock (Name TEXT, Price INT, Volume INT);\nSELECT * FROM Stock NEXT {$2.Name = $1.Name} Stock PUBLISH Pair;\n";
  births = None ∷ [];
  last = Some 1;
  opened = Some 2;
  events = record { place = 0; tuple = price 2 11 6 } ∷ [];
  stores = (record { first = 1; tuple = price 1 10 5 } ∷ []) ∷ [];
}

-- 8, and 8 and 114 of text, 8 and 1 of births, 9 and 9 of times, 8 and 78 of events, 16 and 78 of stores
size_of_two_prices : length (image_bytes two_prices) ≡ 337
unfolding number_bytes bits_bytes
size_of_two_prices = refl

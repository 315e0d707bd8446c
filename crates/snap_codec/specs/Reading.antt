-- What bytes read as, from left to right, with the first fault that is met.
use Rattle.std.specs.Prelude.{ℕ, ℤ, zero, suc, ◌-◌, ◌^◌, if◌then◌else◌, nat_lt, List, [], ◌∷◌, length, take, drop, Option, Some, None, Result, Ok, Err, nat_eq}
use Rattle.std.specs.List.{starts_with}
use Rattle.std.specs.Int.{w64, w128, cast_signed, from_be_bytes}
use Rattle.std.specs.Str.{is_utf8}
use Rattle.event_types.specs.Tuple.{TupleView}
use Rattle.event_types.specs.declared.value.Value.{Value}
use Rattle.event_types.specs.declared.value.Value.TheVariants.{Int, Over, Text, Dec}
use Rattle.snap_codec.specs.Spelling.{magic}
use Rattle.snap_codec.specs.declared.fault.SnapFault.{SnapFault}
use Rattle.snap_codec.specs.declared.fault.SnapFault.TheVariants.{TooBig, NotSnapshot, Cut, BadByte, Extra}
use Rattle.snap_codec.specs.declared.image.Image.{Image}
use Rattle.snap_codec.specs.declared.image.Item.{Item}
use Rattle.snap_codec.specs.declared.image.Open.{Open}

-- a value and the bytes behind it, or the first fault
abbrev pub Read : Type 0 → Type 0
Read X = Result (X × List ℕ) SnapFault

infixl 10 ◌>>=◌
abbrev pub ◌>>=◌ : {A B : Type 0} → Result A SnapFault → (A → Result B SnapFault) → Result B SnapFault
(Ok x) >>= f = f x
(Err fault) >>= f = Err fault

-- the place of the first of these bytes, where so many bytes are there in all
abbrev pub place_in : ℕ → List ℕ → ℕ
place_in total bytes = total - length bytes

-- a number of an item that begins at a place
unfoldable pub number_from : ℕ → List ℕ → Read ℕ
number_from place bytes = if nat_lt (length bytes) 8 then Err (Cut place) else Ok (from_be_bytes w64 (take 8 bytes), drop 8 bytes)

-- so many bytes of an item that begins at a place, which are a text
abbrev pub chars_from : ℕ → ℕ → List ℕ → Read (List ℕ)
chars_from place count bytes =
    if nat_lt (length bytes) count then Err (Cut place) else if is_utf8 (take count bytes) then Ok (take count bytes, drop count bytes) else Err (BadByte place)

-- a text of an item that begins at a place
unfoldable pub text_from : ℕ → List ℕ → Read (List ℕ)
text_from place bytes = do
  count ← number_from place bytes
  chars_from place count.0 count.1

-- a number of 128 bits of an item that begins at a place
unfoldable pub whole_from : ℕ → List ℕ → Read ℤ
whole_from place bytes = if nat_lt (length bytes) 16 then Err (Cut place) else Ok (cast_signed w128 (from_be_bytes w128 (take 16 bytes)), drop 16 bytes)

-- the scale and the units of an item that begins at a place
unfoldable pub decimal_from : ℕ → List ℕ → Read Value
decimal_from place [] = Err (Cut place)
decimal_from place (scale ∷ bytes) = do
  units ← whole_from place bytes
  if nat_lt 18 scale then Err (BadByte place) else Ok (Dec scale units.0, units.1)

-- a number
abbrev pub number_at : ℕ → List ℕ → Read ℕ
number_at total bytes = number_from (place_in total bytes) bytes

-- a text
abbrev pub text_at : ℕ → List ℕ → Read (List ℕ)
text_at total bytes = text_from (place_in total bytes) bytes

-- a time that may be none
unfoldable pub time_at : ℕ → List ℕ → Read (Option ℕ)
time_at total [] = Err (Cut total)
time_at total (zero ∷ bytes) = Ok (None, bytes)
time_at total (suc zero ∷ bytes) = do
  time ← number_from (place_in total (1 ∷ bytes)) bytes
  Ok (Some time.0, time.1)
time_at total (suc (suc tag) ∷ bytes) = Err (BadByte (place_in total (suc (suc tag) ∷ bytes)))

-- a value
unfoldable pub value_at : ℕ → List ℕ → Read Value
value_at total [] = Err (Cut total)
value_at total (zero ∷ bytes) = do
  number ← whole_from (place_in total (0 ∷ bytes)) bytes
  Ok (Int number.0, number.1)
value_at total (suc zero ∷ bytes) = Ok (Over, bytes)
value_at total (suc (suc zero) ∷ bytes) = do
  text ← text_from (place_in total (2 ∷ bytes)) bytes
  Ok (Text text.0, text.1)
value_at total (suc (suc (suc zero)) ∷ bytes) = decimal_from (place_in total (3 ∷ bytes)) bytes
value_at total (suc (suc (suc (suc tag))) ∷ bytes) = Err (BadByte (place_in total (suc (suc (suc (suc tag))) ∷ bytes)))

-- so many items, one after the other
unfoldable pub items_at : {X : Type 0} → (List ℕ → Read X) → ℕ → List ℕ → Read (List X)
items_at item_at zero bytes = Ok ([], bytes)
items_at item_at (suc count) bytes = do
  first ← item_at bytes
  others ← items_at item_at count first.1
  Ok (first.0 ∷ others.0, others.1)

-- a list: its length, and its items
unfoldable pub list_at : {X : Type 0} → (ℕ → List ℕ → Read X) → ℕ → List ℕ → Read (List X)
list_at item_at total bytes = do
  count ← number_at total bytes
  items_at (item_at total) count.0 count.1

-- the values of a tuple that begins at a place, unless it starts after its detection
unfoldable pub spanned_at : ℕ → ℕ → ℕ → ℕ → List ℕ → Read TupleView
spanned_at place total from at bytes = if nat_lt at from then Err (BadByte place) else do
  vals ← list_at value_at total bytes
  Ok (record { vals = vals.0; from = from; at = at }, vals.1)

-- a tuple
unfoldable pub tuple_at : ℕ → List ℕ → Read TupleView
tuple_at total bytes = do
  from ← number_at total bytes
  at ← number_at total from.1
  spanned_at (place_in total bytes) total from.0 at.0 at.1

-- an open event
unfoldable pub open_at : ℕ → List ℕ → Read Open
open_at total bytes = do
  place ← number_at total bytes
  tuple ← tuple_at total place.1
  Ok (record { place = place.0; tuple = tuple.0 }, tuple.1)

-- what waits
unfoldable pub item_at : ℕ → List ℕ → Read Item
item_at total bytes = do
  first ← number_at total bytes
  tuple ← tuple_at total first.1
  Ok (record { first = first.0; tuple = tuple.0 }, tuple.1)

-- the parts of an image
unfoldable pub parts_at : ℕ → List ℕ → Read Image
parts_at total bytes = do
  text ← text_at total bytes
  births ← list_at time_at total text.1
  last ← time_at total births.1
  opened ← time_at total last.1
  events ← list_at open_at total opened.1
  stores ← list_at (list_at item_at) total events.1
  Ok (record { text = text.0; births = births.0; last = last.0; opened = opened.0; events = events.0; stores = stores.0 }, stores.1)

-- the image, where no byte is left
unfoldable pub ended : ℕ → Image → List ℕ → Result Image SnapFault
ended total image [] = Ok image
ended total image (byte ∷ bytes) = Err (Extra (place_in total (byte ∷ bytes)))

-- what all bytes read as
unfoldable pub decoded : List ℕ → Result Image SnapFault
decoded bytes =
    if nat_lt (2 ^ 32) (length bytes) then Err TooBig else
    if starts_with nat_eq bytes magic then (parts_at (length bytes) (drop 8 bytes) >>= λ parts. ended (length bytes) parts.0 parts.1) else Err NotSnapshot

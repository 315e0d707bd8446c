-- The bytes of an image (this project's profile).
use Rattle.std.specs.Prelude.{ℕ, ℤ, List, [], ◌∷◌, ◌++◌, length, codes, Option, Some, None}
use Rattle.std.specs.List.{flat_map}
use Rattle.std.specs.Int.{w64, w128, cast_unsigned, to_be_bytes}
use Rattle.event_types.specs.Tuple.{TupleView}
use Rattle.event_types.specs.declared.value.Value.{Value}
use Rattle.event_types.specs.declared.value.Value.TheVariants.{Int, Over, Text, Dec}
use Rattle.snap_codec.specs.declared.image.Image.{Image}
use Rattle.snap_codec.specs.declared.image.Item.{Item}
use Rattle.snap_codec.specs.declared.image.Open.{Open}

-- the bytes with which a snapshot begins
abbrev pub magic : List ℕ
magic = codes "CAYSNAP1"

-- a number: eight bytes, the most significant first
unfoldable pub number_bytes : ℕ → List ℕ
number_bytes number = to_be_bytes w64 number

-- 128 bits: sixteen bytes, the most significant first
unfoldable pub bits_bytes : ℕ → List ℕ
bits_bytes bits = to_be_bytes w128 bits

-- a number of 128 bits, in two's complement
abbrev pub whole_bytes : ℤ → List ℕ
whole_bytes number = bits_bytes (cast_unsigned w128 number)

-- a text: its length, and its bytes
abbrev pub text_bytes : List ℕ → List ℕ
text_bytes text = number_bytes (length text) ++ text

-- a list: its length, and its items one after the other
abbrev pub list_bytes : {X : Type 0} → (X → List ℕ) → List X → List ℕ
list_bytes bytes_of items = number_bytes (length items) ++ flat_map bytes_of items

-- a time that may be none: 0, or 1 and the time
abbrev pub time_bytes : Option ℕ → List ℕ
time_bytes None = 0 ∷ []
time_bytes (Some time) = 1 ∷ number_bytes time

-- a value: 0 and the number; 1 for OVER; 2 and the text; 3, the scale and the units
abbrev pub value_bytes : Value → List ℕ
value_bytes (Int number) = 0 ∷ whole_bytes number
value_bytes Over = 1 ∷ []
value_bytes (Text text) = 2 ∷ text_bytes text
value_bytes (Dec scale units) = 3 ∷ scale ∷ whole_bytes units

-- a tuple: its start, its detection time and its values
abbrev pub tuple_bytes : TupleView → List ℕ
tuple_bytes tuple = number_bytes tuple.from ++ (number_bytes tuple.at ++ list_bytes value_bytes tuple.vals)

-- an open event: the place of its stream, and its tuple
abbrev pub open_bytes : Open → List ℕ
open_bytes event = number_bytes event.place ++ tuple_bytes event.tuple

-- what waits: the time with which it began, and its tuple
abbrev pub item_bytes : Item → List ℕ
item_bytes item = number_bytes item.first ++ tuple_bytes item.tuple

-- the parts of an image, one after the other
abbrev pub parts_bytes : Image → List ℕ
parts_bytes image =
    text_bytes image.text ++ (list_bytes time_bytes image.births ++ (time_bytes image.last ++ (time_bytes image.opened
    ++ (list_bytes open_bytes image.events ++ list_bytes (list_bytes item_bytes) image.stores))))

-- an image: the bytes with which each begins, and its parts
abbrev pub image_bytes : Image → List ℕ
image_bytes image = magic ++ parts_bytes image

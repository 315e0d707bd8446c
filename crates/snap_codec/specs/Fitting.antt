-- What an image may hold: what the types of the program tell of each value, and decimals of at most 18 places.
use Rattle.std.specs.Prelude.{ℕ, ◌<◌, ◌≤◌, ◌^◌, ⊤, Option, Some, None, IsUtf8, FitsSigned}
use Rattle.std.specs.Int.{w128}
use Rattle.std.specs.List.{AllByRecursion}
use Rattle.event_types.specs.Tuple.{TupleView}
use Rattle.event_types.specs.declared.value.Value.{Value}
use Rattle.event_types.specs.declared.value.Value.TheVariants.{Int, Over, Text, Dec}
use Rattle.snap_codec.specs.declared.image.Image.{Image}
use Rattle.snap_codec.specs.declared.image.Item.{Item}
use Rattle.snap_codec.specs.declared.image.Open.{Open}

-- a number of 64 bits
abbrev pub IsNumber : ℕ → Type 0
IsNumber number = number < 2 ^ 64

-- a time of 64 bits, or none
abbrev pub IsTime : Option ℕ → Type 0
IsTime None = ⊤
IsTime (Some time) = IsNumber time

-- a value: its number is of 128 bits, its text is UTF-8, and a decimal has at most 18 places
abbrev pub IsValue : Value → Type 0
IsValue (Int number) = FitsSigned w128 number
IsValue Over = ⊤
IsValue (Text text) = IsUtf8 text
IsValue (Dec scale units) = (scale ≤ 18) × FitsSigned w128 units

-- a tuple that starts no later than it is detected
pub record IsTuple (tuple : TupleView) : Type 0 where
  pub from : IsNumber tuple.from
  pub at : IsNumber tuple.at
  pub in_order : tuple.from ≤ tuple.at
  pub vals : AllByRecursion IsValue tuple.vals

-- an open event
abbrev pub IsOpen : Open → Type 0
IsOpen event = IsNumber event.place × IsTuple event.tuple

-- what waits
abbrev pub IsItem : Item → Type 0
IsItem item = IsNumber item.first × IsTuple item.tuple

-- an image
pub record IsImage (image : Image) : Type 0 where
  pub text : IsUtf8 image.text
  pub births : AllByRecursion IsTime image.births
  pub last : IsTime image.last
  pub opened : IsTime image.opened
  pub events : AllByRecursion IsOpen image.events
  pub stores : AllByRecursion (AllByRecursion IsItem) image.stores

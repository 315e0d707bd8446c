-- What is read from bytes: what an image may hold, and so many texts and items at most as a number of 64 bits tells.
-- No public clause cites these words.
use Rattle.std.proofs.Common.{ℕ, ◌≤◌, List, length}
use Rattle.std.specs.Prelude.{⊤, IsUtf8, FitsSigned}
use Rattle.std.specs.Int.{w128}
use Rattle.std.specs.List.{AllByRecursion}
use Rattle.event_types.specs.Tuple.{TupleView}
use Rattle.event_types.specs.declared.value.Value.{Value}
use Rattle.event_types.specs.declared.value.Value.TheVariants.{Int, Over, Text, Dec}
use Rattle.snap_codec.specs.declared.image.Image.{Image}
use Rattle.snap_codec.specs.declared.image.Item.{Item}
use Rattle.snap_codec.specs.declared.image.Open.{Open}
use Rattle.snap_codec.specs.Fitting.{IsNumber, IsTime}

-- a text in UTF-8
pub record ShortText (text : List ℕ) : Type 0 where
  pub utf8 : IsUtf8 text
  pub long : IsNumber (length text)

-- a list of such items
pub record ShortList {X : Type 0} (Fits : X → Type 0) (items : List X) : Type 0 where
  pub all : AllByRecursion Fits items
  pub long : IsNumber (length items)

-- a value
abbrev pub ShortValue : Value → Type 0
ShortValue (Int number) = FitsSigned w128 number
ShortValue Over = ⊤
ShortValue (Text text) = ShortText text
ShortValue (Dec scale units) = (scale ≤ 18) × FitsSigned w128 units

-- a tuple
pub record ShortTuple (tuple : TupleView) : Type 0 where
  pub from : IsNumber tuple.from
  pub at : IsNumber tuple.at
  pub in_order : tuple.from ≤ tuple.at
  pub vals : ShortList ShortValue tuple.vals

-- an open event
abbrev pub ShortOpen : Open → Type 0
ShortOpen event = IsNumber event.place × ShortTuple event.tuple

-- what waits
abbrev pub ShortItem : Item → Type 0
ShortItem item = IsNumber item.first × ShortTuple item.tuple

-- an image
pub record ShortImage (image : Image) : Type 0 where
  pub text : ShortText image.text
  pub births : ShortList IsTime image.births
  pub last : IsTime image.last
  pub opened : IsTime image.opened
  pub events : ShortList ShortOpen image.events
  pub stores : ShortList (ShortList ShortItem) image.stores

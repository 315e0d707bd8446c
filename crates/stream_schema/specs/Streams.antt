-- The table of streams: a list of names, each with a schema.
use Rattle.std.specs.Prelude.{◌≡◌, ℕ, zero, suc, Bool, false, List, [], ◌∷◌, ◌++◌, Option, Some, length, map, position, slice_get}
use Rattle.std.specs.List.{range_with_len}
use Rattle.std.specs.Str.{bytes_eq}
use Rattle.stream_schema.specs.Schema.{Attr}

-- a stream: its name, its schema, and whether a STREAM statement declares it
pub record Entry : Type 0 where
  pub name : List ℕ
  pub schema : List Attr
  pub declared : Bool

-- the names of the streams, by number
abbrev pub stream_names : List Entry → List (List ℕ)
stream_names streams = map (λ s. s.name) streams

-- the number from 0 of the stream that has the name, if one has it
abbrev pub number_of : List ℕ → List Entry → Option ℕ
number_of name streams = position (λ s. bytes_eq name s.name) streams

-- the schemas of the streams, by number
abbrev pub schemas_of : List Entry → List (List Attr)
schemas_of streams = map (λ s. s.schema) streams

-- whether each stream is declared, by number
abbrev pub declared_of : List Entry → List Bool
declared_of streams = map (λ s. s.declared) streams

-- the name of a retired or hidden stream by its number, which no text has: 256 is no byte
abbrev pub retired_name : ℕ → List ℕ
retired_name number = 256 ∷ number ∷ []

-- the streams, where that of a number has another name
abbrev pub renamed : List Entry → ℕ → List ℕ → List Entry
renamed [] number name = []
renamed (s ∷ streams) zero name = record { name = name; schema = s.schema; declared = s.declared } ∷ streams
renamed (s ∷ streams) (suc number) name = s ∷ renamed streams number name

-- the streams, where that of a number is retired
abbrev pub retired : List Entry → ℕ → List Entry
retired streams number = renamed streams number (retired_name number)

-- a hidden stream of this number, which lines publish for lines of their own query: no text says its name, and it tells no attributes
abbrev pub hidden_entry : ℕ → Entry
hidden_entry number = record { name = retired_name number; schema = []; declared = false }

-- so many hidden streams, which have the numbers from `first` on
abbrev pub hidden_entries : ℕ → ℕ → List Entry
hidden_entries first many = map hidden_entry (range_with_len first many)

-- the streams with one hidden stream more, which is the last one
abbrev pub with_hidden : List Entry → List Entry
with_hidden streams = streams ++ hidden_entry (length streams) ∷ []

-- the stream of this number is retired, or hidden
abbrev pub IsRetired : List Entry → ℕ → Type 0
IsRetired streams number = slice_get (stream_names streams) number ≡ Some (retired_name number)

-- none of the streams is retired or hidden
abbrev pub AreThere : List Entry → Type 0
AreThere streams = (number : ℕ) → IsRetired streams number → ⊥

-- What a list of streams and a table of their numbers say. No public clause cites it.
use Rattle.std.specs.Prelude.{◌≡◌, ℕ, ◌+◌, false, List, [], ◌∷◌, Option, Some, None, String, string_bytes}
use Rattle.std.specs.HashMap.{HashMap, get_by_text}
use Rattle.std.specs.List.{IsDistinct}
use Rattle.std.specs.Str.{bytes_eq}
use Rattle.stream_schema.specs.Streams.{Entry, number_of, retired_name, stream_names}
use Rattle.stream_schema.specs.declared.streams.Stream.{Stream}

-- the name of a stream of this number: its own, or where it is retired that of a retired one
abbrev pub name_at : {A : Type 0} → ℕ → Option (String A) → List ℕ
name_at number None = retired_name number
name_at number (Some name) = string_bytes name

-- the streams whose numbers begin with this one
abbrev pub streams_from : ℕ → List Stream → List Entry
streams_from number [] = []
streams_from number (s ∷ streams) = record { name = name_at number s.name; schema = s.schema; declared = s.declared } ∷ streams_from (number + 1) streams

-- the streams by number
abbrev pub streams_of : List Stream → List Entry
streams_of streams = streams_from 0 streams

-- a stream without a name and without attributes
abbrev pub unnamed : Stream
unnamed = record { name = None; schema = []; declared = false }

-- a name that isn't that of a retired stream
abbrev pub IsOwn : List ℕ → Type 0
IsOwn name = (number : ℕ) → name ≡ retired_name number → ⊥

-- the table has the number of each name that isn't that of a retired stream, and no two names are the same
pub record IsTable {A S : Type 0} (streams : List Stream) (numbers : HashMap (String A) ℕ S) : Type 0 where
  pub found : (name : List ℕ) → IsOwn name → get_by_text numbers name ≡ number_of name (streams_of streams)
  pub distinct : IsDistinct bytes_eq (stream_names (streams_of streams))

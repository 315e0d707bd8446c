-- Histories of two texts by the names of their streams.
use Rattle.std.specs.Prelude.{◌≡◌, ℕ, List, [], Some, slice_get}
use Rattle.std.specs.List.{All, AllZip}
use Rattle.std.specs.Option.{option_map_or}
use Rattle.event_types.specs.Tuple.{TupleView}
use Rattle.semantics.specs.Histories.{Event, heard_on}
use Rattle.stream_schema.specs.Streams.{Entry, number_of, stream_names}
use Rattle.catalogue.specs.Judgement.{Judged}
use Rattle.independence.specs.ReadsFrom.{ReadsFrom}

-- the tuples that were heard on the stream of a name
abbrev pub heard_by_name : List Entry → List Event → List ℕ → List TupleView
heard_by_name streams history name = option_map_or (heard_on history) (number_of name streams) []

-- on each declared stream that the query reads from the same tuples were heard in both histories
abbrev pub HearTheSame : Judged → Judged → List Event → List Event → List ℕ → Type 0
HearTheSame judged other history other_history query =
    All (λ stream. ReadsFrom judged.statements query stream.name → heard_by_name judged.streams history stream.name ≡ heard_by_name other.streams other_history stream.name) judged.declared

-- the streams with these numbers have one name
pub record HaveOneName (streams others : List Entry) (number other_number : ℕ) : Type 0 where
  pub name : List ℕ
  pub first : slice_get (stream_names streams) number ≡ Some name
  pub second : slice_get (stream_names others) other_number ≡ Some name

-- one tuple on streams of one name
pub record AreOneEvent (streams others : List Entry) (event other : Event) : Type 0 where
  pub streams_are : HaveOneName streams others event.stream other.stream
  pub tuples_are : event.tuple ≡ other.tuple

-- the same events in the same order, named by their streams
abbrev pub AreTheSameEvents : List Entry → List Entry → List Event → List Event → Type 0
AreTheSameEvents streams others history other_history = AllZip (AreOneEvent streams others) history other_history

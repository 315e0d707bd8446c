-- What a catalogue is once a query has left it, and when none may leave.
use Rattle.std.specs.Prelude.{◌≡◌, ◌≢◌, ◌<◌, ◌+◌, ◌==◌, ℕ, List, ◌++◌, length, map, take, drop}
use Rattle.std.specs.List.{position_or_len, remove}
use Rattle.automaton.specs.declared.layout.Layout.{Layout}
use Rattle.automaton.specs.Layouts.{HasPart, shrunk}
use Rattle.semantics.specs.Programs.{Query}
use Rattle.semantics.specs.Reading.{ReadsOnly}
use Rattle.splitter.specs.Chains.{chain_lines, chain_order}
use Rattle.splitter.specs.Splitting.{split_lines}
use Rattle.stream_schema.specs.Streams.{retired}
use Rattle.work_order.specs.Numbers.{moved_down}
use Rattle.catalogue.specs.declared.dropping.Dropped.{Dropped}
use Rattle.catalogue.specs.declared.fault.DropFault.{DropFault}
use Rattle.catalogue.specs.declared.fault.DropFault.TheVariants.{UnknownQuery, InUse, Memory}
use Rattle.catalogue.specs.Catalogued.{Catalogued, program_in, query_in, work_in}
use Rattle.catalogue.specs.Changes.{without_query}

-- the place of a query in the order of work
abbrev pub place_of : Catalogued → ℕ → ℕ
place_of c number = position_or_len (λ other. number == other) c.order

-- a list without its items from a place up to another
abbrev pub without_part : {X : Type 0} → List X → ℕ → ℕ → List X
without_part xs first end = take first xs ++ drop end xs

-- how many lines stand before those of a query
abbrev pub lines_before : Catalogued → ℕ → ℕ
lines_before c number = length (chain_lines (take (place_of c number) (work_in c)))

-- how many lines a query has
abbrev pub lines_many : Query → ℕ
lines_many query = length (split_lines query.expr query.stream query.hidden)

-- how many lines stand before those of a query, and how many these are
abbrev pub lines_up_to : Catalogued → ℕ → ℕ
lines_up_to c number = lines_before c number + lines_many (query_in c number)

-- the numbers of the ends of a query's lines
abbrev pub ends_of : Catalogued → ℕ → List ℕ
ends_of c number = take (lines_many (query_in c number)) (drop (lines_before c number) c.ends)

-- the layout without a query: its streams are neither worked on nor printed, and all streams keep their kinds
abbrev pub layout_without : Catalogued → ℕ → Layout
layout_without c number = record { order = chain_order (remove (work_in c) (place_of c number)); outs = remove c.layout.outs number; kinds = c.layout.kinds }

-- the catalogue without the query with a number: its stream is retired, the later queries move down, and its lines and their ends are gone; no number of a stream or an end is used again
abbrev pub catalogue_without : Catalogued → ℕ → Catalogued
catalogue_without c number = record {
  file = c.file;
  declared = c.declared;
  streams = retired c.streams (query_in c number).stream;
  order = map (moved_down number) (remove c.order (place_of c number));
  published = remove c.published (place_of c number);
  expressions = remove c.expressions (place_of c number);
  ends = without_part c.ends (lines_before c number) (lines_up_to c number);
  next_end = c.next_end;
  layout = layout_without c number;
}

-- the query with this number has the name
pub record HasName (c : Catalogued) (name : List ℕ) (number : ℕ) : Type 0 where
  pub within : number < length c.order
  pub name_is : (query_in c number).name ≡ name

-- no query before the one with this number has the name
abbrev pub IsFirstNamed : Catalogued → List ℕ → ℕ → Type 0
IsFirstNamed c name number = (earlier : ℕ) → earlier < number → (query_in c earlier).name ≢ name

-- no query that is there has the name; a declared stream is no query
abbrev pub HasNoQuery : Catalogued → List ℕ → Type 0
HasNoQuery c name = (number : ℕ) → number < length c.order → (query_in c number).name ≢ name

-- the query with this number doesn't read the stream
abbrev pub LeavesUnread : Catalogued → ℕ → ℕ → Type 0
LeavesUnread c stream number = ReadsOnly (λ read. read ≢ stream) (query_in c number).expr

-- no query that is there reads the stream of the query with this number
abbrev pub IsUnread : Catalogued → ℕ → Type 0
IsUnread c number = (other : ℕ) → other < length c.order → LeavesUnread c (query_in c number).stream other

-- of the queries that read the stream the one with this number is the first in print order
pub record IsFirstReader (c : Catalogued) (stream number : ℕ) : Type 0 where
  pub within : number < length c.order
  pub reads : LeavesUnread c stream number → ⊥
  pub earlier : (other : ℕ) → other < number → LeavesUnread c stream other

-- the query of this name is read, first by the query of that name
pub record IsInUse (c : Catalogued) (name reader : List ℕ) : Type 0 where
  pub number : ℕ
  pub named : HasName c name number
  pub first_named : IsFirstNamed c name number
  pub other : ℕ
  pub first : IsFirstReader c (query_in c number).stream other
  pub reader_is : reader ≡ (query_in c other).name

-- why no query leaves: none has the name, or it is read; want of memory tells nothing
abbrev pub StaysFor : Catalogued → List ℕ → DropFault → Type 0
StaysFor c name UnknownQuery = HasNoQuery c name
StaysFor c name (InUse reader) = IsInUse c name reader
StaysFor c name Memory = Unit {0}

-- the query with a number left the old catalogue, and the new one is that without it; given out are the ends of its lines, and the part that the layout loses
pub record IsLeft (number : ℕ) (dropped : Dropped) (old new : Catalogued) : Type 0 where
  pub catalogue : new ≡ catalogue_without old number
  pub program : program_in new ≡ without_query (program_in old) (query_in old number).stream
  pub ends : dropped.ends ≡ ends_of old number
  pub there : HasPart old.layout dropped.part
  pub layout : shrunk old.layout dropped.part ≡ new.layout

-- the query of this name left the old catalogue, where none read it
pub record Leaves (name : List ℕ) (dropped : Dropped) (old new : Catalogued) : Type 0 where
  pub number : ℕ
  pub named : HasName old name number
  pub unread : IsUnread old number
  pub left : IsLeft number dropped old new

-- A query that comes to a catalogue, and the catalogue then.
use Rattle.std.specs.Prelude.{◌≡◌, ℕ, ◌+◌, ◌-◌, List, [], ◌∷◌, ◌++◌, length, Option}
use Rattle.std.specs.List.{All, range_with_len}
use Rattle.event_types.specs.declared.kind.Kind.{Kind}
use Rattle.semantics.specs.Programs.{Query}
use Rattle.automaton.specs.declared.line.Line.{Line}
use Rattle.automaton.specs.Layouts.{grown}
use Rattle.splitter.specs.Chains.{hidden_end}
use Rattle.splitter.specs.Splitting.{split_lines}
use Rattle.stream_schema.specs.Streams.{hidden_entries}
use Rattle.catalogue.specs.declared.adding.Added.{Added}
use Rattle.catalogue.specs.declared.fault.AddFault.{AddFault}
use Rattle.catalogue.specs.declared.fault.AddFault.TheVariants.{Bad, Memory}
use Rattle.catalogue.specs.declared.fault.QueryFault.{QueryFault}
use Rattle.catalogue.specs.Adding.{AddedQuery, JudgesAdded, Taken}
use Rattle.catalogue.specs.Catalogued.{Catalogued, program_in, work_in}
use Rattle.catalogue.specs.Changes.{with_query}
use Rattle.catalogue.specs.Standing.{IsUpTo}
use Rattle.catalogue.specs.Statements.{name_of}
use Rattle.catalogue.specs.Typing.{published_by}

-- no query that is there was born later
abbrev pub IsLatest : Option ℕ → Catalogued → Type 0
IsLatest birth c = All (λ query. IsUpTo query.birth birth) (work_in c)

-- the query that comes with a birth: its stream is the next one, and its hidden streams stand behind it
abbrev pub coming : Catalogued → AddedQuery → Option ℕ → Query
coming c added birth = record { name = name_of added.statement; stream = length c.streams; hidden = length c.streams + 1; expr = added.expr; birth = birth }

-- the automaton lines of a query
abbrev pub lines_by : Query → List Line
lines_by query = split_lines query.expr query.stream query.hidden

-- a query came to a catalogue: it has the next number and stands last in the order of work; its stream and its hidden ones stand behind those that were there, and the kinds of these stay; and its lines have the next end numbers
pub record HasCome (old : Catalogued) (added : AddedQuery) (birth : Option ℕ) (new : Catalogued) : Type 0 where
  pub file : new.file ≡ old.file
  pub declared : new.declared ≡ old.declared
  pub streams : new.streams ≡ old.streams ++ published_by added.statement added.schema ∷ hidden_entries (length old.streams + 1) (hidden_end (coming old added birth) - (length old.streams + 1))
  pub order : new.order ≡ old.order ++ length old.order ∷ []
  pub program : program_in new ≡ with_query (program_in old) (coming old added birth)
  pub ends : new.ends ≡ old.ends ++ range_with_len old.next_end (length (lines_by (coming old added birth)))
  pub next_end : new.next_end ≡ old.next_end + length (lines_by (coming old added birth))
  pub more : List (List Kind)
  pub kinds : new.layout.kinds ≡ old.layout.kinds ++ more

-- this is told of a query that came: its number, its lines, their ends, and what the layout grew by
pub record IsTold (old : Catalogued) (query : Query) (new : Catalogued) (told : Added) : Type 0 where
  pub number : told.query ≡ length old.order
  pub lines : told.lines ≡ lines_by query
  pub ends : told.ends ≡ range_with_len old.next_end (length (lines_by query))
  pub layout : grown old.layout told.growth ≡ new.layout

-- the text is taken as a query that came with a birth, and this is told of it
pub record IsAdded (text : List ℕ) (birth : Option ℕ) (old new : Catalogued) (told : Added) : Type 0 where
  pub query : AddedQuery
  pub taken : JudgesAdded old.streams text (Taken query)
  pub come : HasCome old query birth new
  pub is_told : IsTold old (coming old query birth) new told

-- a fault with its line; want of memory tells nothing
abbrev pub TellsAdded : (ℕ → QueryFault → Type 0) → AddFault → Type 0
TellsAdded P (Bad line why) = P line why
TellsAdded P Memory = Unit {0}

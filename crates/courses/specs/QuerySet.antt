-- Sets of queries, which change while events are heard.
use Rattle.std.specs.Prelude.{ℕ, ◌+◌, ◌-◌, List, ◌∷◌, ◌++◌, length, Option}
use Rattle.semantics.specs.Programs.{Program, Query}
use Rattle.splitter.specs.Chains.{end_of, hidden_end}
use Rattle.stream_schema.specs.Streams.{Entry, hidden_entries, retired}
use Rattle.catalogue.specs.Adding.{AddedQuery}
use Rattle.catalogue.specs.Catalogued.{Catalogued, program_in}
use Rattle.catalogue.specs.Changes.{with_query, without_query}
use Rattle.catalogue.specs.Judgement.{Judged, program_of}
use Rattle.catalogue.specs.Statements.{name_of}
use Rattle.catalogue.specs.Typing.{published_by}

-- the queries that are there: all streams by number, and the program
pub record QuerySet : Type 0 where
  pub streams : List Entry
  pub program : Program

-- those of a catalogue
abbrev pub set_in : Catalogued → QuerySet
set_in c = record { streams = c.streams; program = program_in c }

-- those of an accepted query text, whose hidden streams stand behind the streams of its statements
abbrev pub set_of : Judged → QuerySet
set_of judged = record {
  streams = judged.streams ++ hidden_entries (length judged.streams) (end_of (program_of judged) - length judged.streams);
  program = program_of judged;
}

-- the query that is added, with its birth: its stream has the next number, and its hidden streams those behind it
abbrev pub newcomer : QuerySet → AddedQuery → Option ℕ → Query
newcomer set added birth = record { name = name_of added.statement; stream = length set.streams; hidden = length set.streams + 1; expr = added.expr; birth = birth }

-- the queries with one more, which stands last
abbrev pub with_added : QuerySet → AddedQuery → Option ℕ → QuerySet
with_added set added birth = record {
  streams = set.streams ++ published_by added.statement added.schema ∷ hidden_entries (length set.streams + 1) (hidden_end (newcomer set added birth) - (length set.streams + 1));
  program = with_query set.program (newcomer set added birth);
}

-- the queries without one of them, whose name is free again
abbrev pub without : QuerySet → Query → QuerySet
without set query = record { streams = retired set.streams query.stream; program = without_query set.program query.stream }

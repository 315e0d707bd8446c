-- Laws of accepted query texts: what their programs are.
use Rattle.std.specs.Prelude.{◌≡◌, ◌<◌, ◌↔◌, ℕ, true, List, [], length, take, Some, slice_get, slice_index_or}
use Rattle.std.specs.List.{All, filter_map}
use Rattle.semantics.specs.TypedPrograms.{IsProgram}
use Rattle.stream_schema.specs.Streams.{Entry, stream_names}
use Rattle.splitter.specs.ProgramLaws.{IsWideProgram}
use Rattle.cel_types.specs.SourceLaws.{kinds_in}
use Rattle.catalogue.specs.Judgement.{Accepts, Judged, program_of, query_at}
use Rattle.catalogue.specs.Statements.{queries_in, query_names}

-- an accepted text is a program over the kinds of its streams
abbrev pub AcceptedArePrograms : Type 0
AcceptedArePrograms = (text : List ℕ) (judged : Judged) → Accepts text judged → IsProgram (kinds_in judged.streams) (program_of judged)

-- the projections of an accepted text have the widths of their sources
abbrev pub AcceptedAreWidePrograms : Type 0
AcceptedAreWidePrograms = (text : List ℕ) (judged : Judged) → Accepts text judged → IsWideProgram (kinds_in judged.streams) (program_of judged)

-- the queries are worked on by their numbers in the order of work
abbrev pub WorkIsInOrder : Type 0
WorkIsInOrder = (text : List ℕ) (judged : Judged) → Accepts text judged → (program_of judged).order ≡ filter_map (slice_get (program_of judged).queries) judged.order

-- each of these numbers is that of a query
abbrev pub NumbersAreQueries : Type 0
NumbersAreQueries = (text : List ℕ) (judged : Judged) → Accepts text judged → All (λ number. number < length (program_of judged).queries) judged.order

-- as many queries are worked on as stand in the file
abbrev pub AllAreWorkedOn : Type 0
AllAreWorkedOn = (text : List ℕ) (judged : Judged) → Accepts text judged → length judged.order ≡ length (queries_in judged.statements)

-- a query has the name of its statement
abbrev pub QueriesHaveTheirNames : Type 0
QueriesHaveTheirNames = (text : List ℕ) (judged : Judged) → Accepts text judged → (number : ℕ) → number < length judged.order → (query_at judged number).name ≡ slice_index_or (query_names judged.statements) number []

-- the stream that a query publishes has the name of the query's statement
abbrev pub StreamsHaveTheirNames : Type 0
StreamsHaveTheirNames =
    (text : List ℕ) (judged : Judged) → Accepts text judged → (number : ℕ) → number < length judged.order → slice_get (stream_names judged.streams) (query_at judged number).stream ≡ Some (query_at judged number).name

-- the declared streams come first
abbrev pub DeclaredComeFirst : Type 0
DeclaredComeFirst = (text : List ℕ) (judged : Judged) → Accepts text judged → take (length judged.declared) judged.streams ≡ judged.declared

-- a stream is told to be declared exactly where it is one of the first, declared streams
abbrev pub DeclaredAreTold : Type 0
DeclaredAreTold = (text : List ℕ) (judged : Judged) → Accepts text judged → (stream : ℕ) (entry : Entry) → slice_get judged.streams stream ≡ Some entry → (entry.declared ≡ true) ↔ (stream < length judged.declared)

-- What holds of a catalogue whatever queries came and left.
use Rattle.std.specs.Prelude.{⊤, ◌≡◌, ◌≢◌, ◌<◌, ◌≤◌, ◌^◌, ◌+◌, ◌↔◌, ℕ, true, List, length, AllPairs, Contains, Option, Some, None, slice_get, sum_by}
use Rattle.std.specs.List.{All}
use Rattle.automaton.specs.declared.layout.Layout.{Layout}
use Rattle.automaton.specs.declared.line.Line.{Line}
use Rattle.automaton.specs.Layouts.{LayoutFits}
use Rattle.semantics.specs.Programs.{Program}
use Rattle.splitter.specs.Chains.{hidden_end, lines_of, outs_of, work_order}
use Rattle.splitter.specs.ProgramLaws.{IsWideProgram}
use Rattle.stream_schema.specs.Streams.{Entry, IsRetired}
use Rattle.cel_types.specs.SourceLaws.{kinds_in}
use Rattle.work_order.specs.Numbers.{AreNumbers}
use Rattle.catalogue.specs.Catalogued.{Catalogued, program_in, work_in}
use Rattle.catalogue.specs.Changes.{streams_there}

-- there is a stream of this number, and it is neither retired nor hidden
pub record IsKnown (streams : List Entry) (number : ℕ) : Type 0 where
  pub within : number < length streams
  pub named : IsRetired streams number → ⊥

-- the first birth isn't after the second, where none is before all times
abbrev pub IsUpTo : Option ℕ → Option ℕ → Type 0
IsUpTo None later = ⊤
IsUpTo (Some birth) None = ⊥
IsUpTo (Some birth) (Some later) = birth ≤ later

-- each line has an end number, no two have the same, and each is below the next one
pub record AreEnds (lines : List Line) (ends : List ℕ) (next : ℕ) : Type 0 where
  pub as_many : length ends ≡ length lines
  pub distinct : AllPairs (λ x y. x ≢ y) ends
  pub below : All (λ end. end < next) ends

-- the layout has the program's order of work and its printed streams; it has kinds for each stream of the table, and for those that the program declares or publishes these are their own; and it fits the program's lines
pub record IsLayoutOver (streams : List Entry) (program : Program) (layout : Layout) : Type 0 where
  pub order : layout.order ≡ work_order program
  pub outs : layout.outs ≡ outs_of program
  pub long : length layout.kinds ≡ length streams
  pub kinds : All (λ stream. slice_get layout.kinds stream ≡ Some (kinds_in streams stream)) (streams_there program)
  pub fits : LayoutFits (lines_of program) layout

-- the queries of a catalogue stand in order: they are a program over the kinds of its streams; a stream is told to be declared exactly where it is one of the first; known by name are exactly the declared streams and those of the queries; each query has what it publishes and its expression; the queries are numbered; no birth is after that of a later query in the order of work; each line has its end number; the hidden streams of each query are streams of the table; the layout is one of the program; and the lines are few
pub record StandsInOrder (c : Catalogued) : Type 0 where
  pub wide : IsWideProgram (kinds_in c.streams) (program_in c)
  pub told : (stream : ℕ) (entry : Entry) → slice_get c.streams stream ≡ Some entry → (entry.declared ≡ true) ↔ (stream < c.declared)
  pub known : (stream : ℕ) → Contains (streams_there (program_in c)) stream ↔ IsKnown c.streams stream
  pub publish : length c.published ≡ length c.order
  pub express : length c.expressions ≡ length c.order
  pub numbered : AreNumbers c.order
  pub born : AllPairs (λ earlier later. IsUpTo earlier.birth later.birth) (work_in c)
  pub ended : AreEnds (lines_of (program_in c)) c.ends c.next_end
  pub within : All (λ query. hidden_end query ≤ length c.streams) (work_in c)
  pub laid : IsLayoutOver c.streams (program_in c) c.layout
  pub few : sum_by (λ line. 1 + length line.hops) (lines_of (program_in c)) < 2 ^ 64

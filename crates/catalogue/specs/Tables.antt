-- Tables of the statements of a file, by name and by the queries' numbers. No public clause cites this.
use Rattle.std.specs.Prelude.{◌≡◌, ◌+◌, ℕ, List, length, map, Some, slice_get, sum_by}
use Rattle.automaton.specs.declared.line.Line.{Line}
use Rattle.splitter.specs.Chains.{lines_of}
use Rattle.cel_grammar.specs.Trees.{Statement}
use Rattle.stream_schema.specs.Streams.{stream_names}
use Rattle.catalogue.specs.declared.naming.Named.{Named}
use Rattle.catalogue.specs.declared.sharing.Shares.{Shares}
use Rattle.catalogue.specs.Catalogued.{Catalogued, program_in, work_in}
use Rattle.catalogue.specs.Sharing.{shares_of}
use Rattle.catalogue.specs.Standing.{StandsInOrder}
use Rattle.catalogue.specs.Statements.{names_in, queries_in, query_names}
use Rattle.catalogue.specs.Tallies.{AreTallied}
use Rattle.catalogue.specs.Typing.{query_lines}

-- the tables have the names of the statements, and of the queries among them
pub record AreNamed (statements : List Statement) (named : Named) : Type 0 where
  pub all : stream_names named.all ≡ names_in statements
  pub queries : stream_names named.queries ≡ query_names statements

-- at these places of a file stand the queries among these statements, one after another, and their lines
pub record ArePlaces (statements : List Statement) (lines : List ℕ) (some : List Statement) (some_lines places : List ℕ) : Type 0 where
  pub queries : map (slice_get statements) places ≡ map Some (queries_in some)
  pub lines_are : map (slice_get lines) places ≡ map Some (query_lines some some_lines)

-- the catalogue stands in order, these are its lines, these are the shares that its queries have, and these are the tallies of what they read
pub record IsHeld (c : Catalogued) (lines : List Line) (shares : Shares) (reads : List ℕ) : Type 0 where
  pub stands : StandsInOrder c
  pub lines_are : lines ≡ lines_of (program_in c)
  pub shared : shares ≡ shares_of (work_in c)
  pub tallied : AreTallied c.expressions reads

-- the catalogue is held with these; and so many are its lines and the hops on them
pub record IsKept (c : Catalogued) (lines : List Line) (shares : Shares) (reads : List ℕ) (size : ℕ) : Type 0 where
  pub held : IsHeld c lines shares reads
  pub sized : size ≡ sum_by (λ line. 1 + length line.hops) lines

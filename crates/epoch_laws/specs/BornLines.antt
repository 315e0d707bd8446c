-- Lines with the births of their queries.
use Rattle.std.specs.Prelude.{◌≡◌, ℕ, List, map, Option, None, Contains}
use Rattle.automaton.specs.NetworkLines.{ArePrefixes, Ending, HasEndings}
use Rattle.automaton.specs.Prefixes.{Prefix, extended, path}
use Rattle.automaton.specs.States.{Net}
use Rattle.automaton.specs.declared.line.Hop.{Hop}
use Rattle.automaton.specs.declared.line.Line.{Line}

-- a line, and the birth of its query
pub record BornLine : Type 0 where
  pub line : Line
  pub birth : Option ℕ

-- a line whose query has no birth
abbrev pub unborn : Line → BornLine
unborn line = record { line = line; birth = None }

-- the line of an ending with its birth
abbrev pub born_by : Ending → BornLine
born_by ending = record { line = ending.line; birth = ending.birth }

-- the lines without their births
abbrev pub lines_in : List BornLine → List Line
lines_in lines = map (λ born. born.line) lines

-- a line of this birth uses the prefix: its own is the prefix with more hops behind, or it itself
abbrev pub IsReadAfter : List BornLine → Prefix → Option ℕ → Type 0
IsReadAfter lines prefix birth = (born : BornLine) × (more : List Hop) × Contains lines born × (path born.line ≡ extended prefix more) × (born.birth ≡ birth)

-- the network has exactly these lines with these births, whatever the numbers of their ends, and no states but those of their prefixes
abbrev pub HasBornLines : Net → List BornLine → Type 0
HasBornLines net lines = (endings : List Ending) × HasEndings net endings × (map born_by endings ≡ lines) × ArePrefixes net (lines_in lines)

-- The automaton lines of a program whose queries were there from the start.
use Rattle.std.specs.Prelude.{List, map}
use Rattle.semantics.specs.Programs.{Program}
use Rattle.splitter.specs.Chains.{lines_of}
use Rattle.epoch_laws.specs.BornLines.{BornLine, unborn}

-- the lines of a program, without births
abbrev pub unborn_lines : Program → List BornLine
unborn_lines program = map unborn (lines_of program)

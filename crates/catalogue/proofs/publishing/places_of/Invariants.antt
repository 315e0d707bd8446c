use Rattle.std.proofs.Common.{take, map}
use Rattle.cel_grammar.specs.Views.{statement_of}
use Rattle.catalogue.specs.Tables.{ArePlaces}
use Rattle.catalogue.proofs.publishing.places_of.Given as goal

-- the places are those of the queries so far
abbrev pub invariant-loop-place : goal.invariant-loop-place
invariant-loop-place l = ArePlaces (map statement_of l.file.statements) l.file.lines (take l.place (map statement_of l.file.statements)) (take l.place l.file.lines) l.places

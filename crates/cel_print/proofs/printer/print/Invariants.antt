use Rattle.std.proofs.Common.{◌≡◌, take}
use Rattle.std.specs.List.{flat_map}
use Rattle.cel_grammar.specs.Views.{statement_of}
use Rattle.cel_print.specs.Spelled.{line_of}
use Rattle.cel_print.proofs.printer.print.Given as goal

-- the lines of the statements so far
abbrev pub invariant-loop-i : goal.invariant-loop-i
invariant-loop-i l = l.text.items ≡ flat_map (λ s. line_of (statement_of s)) (take l.i l.file.statements)

use Rattle.std.proofs.Common.{◌≡◌, ◌++◌, length}
use Rattle.cel_grammar.specs.Spellings.{undoubled}
use Rattle.cel_parser.proofs.literals.without_doubled.Given as goal

-- what is written, and then what is left, is all of it
abbrev pub invariant-loop-rest : goal.invariant-loop-rest
invariant-loop-rest l = l.bytes.items ++ undoubled l.rest ≡ undoubled l.text

abbrev pub decreases-loop-rest : goal.decreases-loop-rest
decreases-loop-rest l = length l.rest

use Rattle.std.proofs.Common.{◌-◌, ◌≤◌, length, map}
use Rattle.cel_grammar.specs.Views.{statement_of}
use Rattle.cel_parser.specs.Cutting.{left_at}
use Rattle.cel_parser.proofs.PassedLemmas.{Passed}
use Rattle.cel_parser.proofs.parsing.parse.Given as goal

abbrev pub invariant-loop-at : goal.invariant-loop-at
invariant-loop-at l = record {
  within : l.at ≤ length l.tokens.items;
  fewer : length l.statements ≤ l.at;
  passed : Passed (left_at l.tokens 0) (left_at l.tokens l.at) (map statement_of l.statements) l.lines;
}

abbrev pub decreases-loop-at : goal.decreases-loop-at
decreases-loop-at l = length l.tokens.items - l.at

use Rattle.std.proofs.Common.{◌≡◌, ◌-◌, ◌≤◌, length, map}
use Rattle.cel_parser.specs.Cutting.{left_at}
use Rattle.cel_parser.specs.GrammarSymbols.{grammar_symbol_of}
use Rattle.cel_parser.proofs.CutLemmas.{joined}
use Rattle.cel_parser.proofs.sentences.cut.Given as goal

abbrev pub invariant-loop-end : goal.invariant-loop-end
invariant-loop-end l = record {
  from : l.at ≤ l.end;
  within : l.end ≤ length l.tokens.items;
  front : left_at l.tokens l.at ≡ joined l.line (map grammar_symbol_of l.symbols.items) (left_at l.tokens l.end);
}

abbrev pub decreases-loop-end : goal.decreases-loop-end
decreases-loop-end l = length l.tokens.items - l.end

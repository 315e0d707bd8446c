use Rattle.std.proofs.Common.{◌≡◌, ◌≤◌, drop, map}
use Rattle.cel_grammar.specs.Sentences.{is_deep}
use Rattle.cel_parser.specs.GrammarSymbols.{grammar_symbol_of}
use Rattle.cel_parser.proofs.sentences.is_deep.Given as goal

abbrev pub invariant-loop-symbol : goal.invariant-loop-symbol
invariant-loop-symbol l = record {
  few : l.open ≤ 64;
  rest : is_deep 0 (map grammar_symbol_of l.symbols) ≡ is_deep l.open (map grammar_symbol_of (drop l.symbol-index l.symbols));
}

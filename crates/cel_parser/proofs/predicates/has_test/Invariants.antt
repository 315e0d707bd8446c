use Rattle.std.proofs.Common.{◌≡◌, ◌≤◌, drop}
use Rattle.std.specs.Prelude.{map}
use Rattle.cel_grammar.specs.Parens.{holds_test}
use Rattle.cel_parser.specs.GrammarSymbols.{grammar_symbol_of}
use Rattle.cel_parser.proofs.predicates.has_test.Given as goal

-- what is left tells it, behind those that are open
abbrev pub invariant-loop-symbol : goal.invariant-loop-symbol
invariant-loop-symbol l = (l.open ≤ l.symbol-index) × (holds_test 0 (map grammar_symbol_of l.symbols) ≡ holds_test l.open (map grammar_symbol_of (drop l.symbol-index l.symbols)))

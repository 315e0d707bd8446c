use Rattle.std.proofs.Common.{◌*◌, length, arith}
use Rattle.std.specs.Prelude.{map}
use Rattle.std.proofs.lemmas.List.{length-map}
use Rattle.cel_parser.specs.GrammarSymbols.{grammar_symbol_of}
use Rattle.cel_parser.proofs.ColumnNext.{given_bad, given_found}
use Rattle.cel_parser.proofs.statements.read_statement.Goals as goal

pub returns-clause-ok : goal.returns-clause-ok
returns-clause-ok c = given_found c.read_whole.result (16 * length c.args.symbols.now) (map grammar_symbol_of c.args.symbols.now) c.read_whole.ensures

pub returns-clause-bad : goal.returns-clause-bad
returns-clause-bad c =
    given_bad c.read_whole.result (16 * length c.args.symbols.now) (map grammar_symbol_of c.args.symbols.now) (omega (arith, length-map c.args.symbols.now grammar_symbol_of)) c.read_whole.ensures

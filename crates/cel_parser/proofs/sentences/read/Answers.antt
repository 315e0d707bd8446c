use Rattle.std.proofs.Common.{◌∙◌, Err, ap, arith, refl, sym}
use Rattle.std.proofs.lemmas.List.{length-map}
use Rattle.cel_parser.specs.Faults.{bad, deep, many}
use Rattle.cel_parser.specs.GrammarSymbols.{grammar_symbol_of}
use Rattle.cel_parser.proofs.sentences.read.Goals as goal

pub returns-then-symbols-gt-MOST-clause-err : goal.returns-then-symbols-gt-MOST-clause-err
returns-then-symbols-gt-MOST-clause-err c _ = many refl (omega (arith, length-map c.args.symbols.now grammar_symbol_of, c.if-symbols-gt-MOST.true))

pub returns-then-is_deep-clause-err : goal.returns-then-is_deep-clause-err
returns-then-is_deep-clause-err c _ =
    deep refl (omega (arith, length-map c.args.symbols.now grammar_symbol_of, c.if-symbols-gt-MOST.false)) (sym c.is_deep.ensures ∙ c.if-is_deep.true)

pub returns-in-Err-Bad-clause-err : goal.returns-in-Err-Bad-clause-err
returns-in-Err-Bad-clause-err c _ =
    bad refl
    (record { few = omega (arith, length-map c.args.symbols.now grammar_symbol_of, c.if-symbols-gt-MOST.false); shallow = sym c.is_deep.ensures ∙ c.if-is_deep.false })
    (c.read_statement.ensures.bad (c.in-Err-Bad.is ∙ ap Err c.in-Err-Bad.field-0-is))

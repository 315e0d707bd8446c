use Rattle.std.proofs.Common.{◌∙◌}
use Rattle.std.specs.Prelude.{take_while}
use Rattle.std.specs.Char.{is_ascii_digit}
use Rattle.cel_lexer.proofs.NumberLemmas.{range_more, range_none}
use Rattle.cel_lexer.proofs.numbers.units.Goals as goal

pub returns-in-Some : goal.returns-in-Some
returns-in-Some c =
    c.value_after-in-Some.ensures ∙ range_more (take_while is_ascii_digit c.args.text.now) (take_while is_ascii_digit c.args.behind.now) c.in-Some.whole c.in-Some.ensures

pub returns-in-None : goal.returns-in-None
returns-in-None c = range_none (take_while is_ascii_digit c.args.text.now) (take_while is_ascii_digit c.args.behind.now) c.in-None.ensures

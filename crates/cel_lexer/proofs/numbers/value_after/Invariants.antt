use Rattle.std.proofs.Common.{◌≡◌, ◌<◌, ◌^◌, drop}
use Rattle.std.specs.Prelude.{take_while}
use Rattle.std.specs.Char.{is_ascii_digit}
use Rattle.std.specs.Str.Parse.{digits_value_after}
use Rattle.cel_lexer.proofs.numbers.value_after.Given as goal

abbrev pub invariant-loop-b : goal.invariant-loop-b
invariant-loop-b l = record {
  fits : l.value < 2 ^ 127;
  whole : digits_value_after 10 l.before (take_while is_ascii_digit l.text) ≡ digits_value_after 10 l.value (take_while is_ascii_digit (drop l.b-index l.text));
}

use Rattle.std.proofs.Common.{◌≡◌, ◌∙◌, ◌+◌, ◌*◌, ◌-◌, true, sym, arith, rules, drop, get_or}
use Rattle.std.specs.Prelude.{take_while}
use Rattle.std.specs.Char.{is_ascii_digit}
use Rattle.std.specs.Str.Parse.{digits_value_after}
use Rattle.cel_lexer.proofs.NumberLemmas.{digit-step, digit_value_is, in_range-high, value_after_le}
use Rattle.cel_lexer.proofs.numbers.value_after.Goals as goal

pub returns-then-digit-value : goal.returns-then-digit-value
returns-then-digit-value c =
    let s = c.args.text.now in
    let i = c.loop-b.b-index in
    let digit : is_ascii_digit (get_or s i 0) ≡ true = search rules in
    let step = digit-step s i c.loop-b.value c.loop-b-test.true digit in
    let least = value_after_le (c.loop-b.value * 10 + (get_or s i 0 - 48)) (take_while is_ascii_digit (drop (i + 1) s)) in
    let small = digit_value_is (get_or s i 0) digit in
    sym (in_range-high (digits_value_after 10 c.args.before (take_while is_ascii_digit s)) (omega (arith, c.loop-b.invariant.whole, step, least, small.1, c.if-digit-value.true)))

pub loop-b-preserved : goal.loop-b-preserved
loop-b-preserved c =
    let s = c.args.text.now in
    let i = c.loop-b.b-index in
    let digit : is_ascii_digit (get_or s i 0) ≡ true = search rules in
    let small = digit_value_is (get_or s i 0) digit in
    record {
      fits = omega (arith, small.1, c.if-digit-value.false);
      whole = c.loop-b.invariant.whole ∙ digit-step s i c.loop-b.value c.loop-b-test.true digit;
    }

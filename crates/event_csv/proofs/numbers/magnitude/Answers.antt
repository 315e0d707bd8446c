use Rattle.std.proofs.Common.{◌+◌, ◌*◌, ◌-◌, arith, get_or, drop}
use Rattle.event_csv.proofs.DigitFacts.{digit-at, more, one-more}
use Rattle.event_csv.proofs.numbers.magnitude.Goals as goal
use Rattle.event_csv.proofs.numbers.magnitude.Goals.{then-byte-lt48-via-then-byte-lt48, then-byte-lt48-via-else-byte-lt48+then-byte-gt57}

pub returns-then-byte-lt48 : goal.returns-then-byte-lt48
returns-then-byte-lt48 c =
    let digit = digit-at c.args.digits.now c.loop-byte.byte-index c.requires.digits c.loop-byte-test.true in
    elim c.then-byte-lt48.branch [
      | then-byte-lt48-via-then-byte-lt48 w ↦ absurd (omega (arith, digit.0, w.if-byte-lt48.true))
      | then-byte-lt48-via-else-byte-lt48+then-byte-gt57 w ↦ absurd (omega (arith, digit.1, w.if-byte-gt57.true))
    ]

pub returns-then-most-digit : goal.returns-then-most-digit
returns-then-most-digit c =
    let i = c.loop-byte.byte-index in
    let s = c.args.digits.now in
    let whole = c.loop-byte.invariant.1 in
    let digit = digit-at s i c.requires.digits c.loop-byte-test.true in
    let step = one-more c.loop-byte.number s i c.loop-byte-test.true digit.0 digit.1 in
    let least = more (c.loop-byte.number * 10 + (get_or s i 0 - 48)) (drop (i + 1) s) in
    omega (arith, whole, step, least, c.if-most-digit.true)

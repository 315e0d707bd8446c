use Rattle.std.proofs.Common.{◌≤◌, ◌<◌, ◌-◌, arith, get_or, length}
use Rattle.event_csv.proofs.NumberFacts.{room}
use Rattle.event_csv.proofs.QuickFacts.{digits-more, power-more, value-more}
use Rattle.event_csv.proofs.front.few_digits.Goals as goal

pub overflow_mul-number : goal.overflow_mul-number
overflow_mul-number c =
    let few = c.min-most.ensures in
    let r = room c.loop-place.number c.loop-place.place 9 c.loop-place.invariant.small (omega (arith, few)) (omega arith) in omega arith

pub overflow_add-number : goal.overflow_add-number
overflow_add-number c =
    let few = c.min-most.ensures in
    let byte = c.type_inv.text c.loop-place.place in
    let lo : 48 ≤ get_or c.args.text.now c.loop-place.place 0 = omega (arith, byte, c.if-digit-gt9.false) in
    let digit : get_or c.args.text.now c.loop-place.place 0 - 48 ≤ 9 = omega (arith, byte, c.if-digit-gt9.false) in
    let r = room c.loop-place.number c.loop-place.place _ c.loop-place.invariant.small (omega (arith, few)) digit in omega (arith, r, lo, digit, byte)

pub loop-place-preserved : goal.loop-place-preserved
loop-place-preserved c =
    let s = c.args.text.now in
    let i = c.loop-place.place in
    let n = c.loop-place.number in
    let here : i < length s = omega (arith, c.min-most.ensures) in
    let byte = c.type_inv.text i in
    let lo : 48 ≤ get_or s i 0 = omega (arith, byte, c.if-digit-gt9.false) in
    let hi : get_or s i 0 ≤ 57 = omega (arith, byte, c.if-digit-gt9.false) in
    record {
      small = omega (arith, power-more n i (get_or s i 0 - 48) c.loop-place.invariant.small (omega (arith, hi)), lo, hi);
      digits = digits-more s i here lo hi c.loop-place.invariant.digits;
      value = omega (arith, value-more s i n here lo hi c.loop-place.invariant.value, lo, hi);
    }

use Rattle.std.proofs.Common.{◌≤◌, ◌-◌, arith, get_or}
use Rattle.event_csv.proofs.NumberFacts.{room}
use Rattle.event_csv.proofs.numbers.short.Goals as goal

pub overflow_mul-number : goal.overflow_mul-number
overflow_mul-number c = let r = room c.loop-byte.number c.loop-byte.byte-index 9 c.loop-byte.invariant.small (omega arith) (omega arith) in omega arith

pub overflow_add-number : goal.overflow_add-number
overflow_add-number c =
    let d : get_or c.args.text.now c.loop-byte.byte-index 0 - 48 ≤ 9 = omega arith in
    let r = room c.loop-byte.number c.loop-byte.byte-index _ c.loop-byte.invariant.small (omega arith) d in omega arith

use Rattle.std.proofs.Common.{◌∙◌, sym, ◌<◌, ◌≤◌, length, arith}
use Rattle.derivations.proofs.OrderLemmas.{first_ended, second_ended}
use Rattle.derivations.proofs.ordering.+comparing.Goals as goal

-- the second list ended first
pub compare_all-returns-then-place-ys : goal.compare_all-returns-then-place-ys
compare_all-returns-then-place-ys t c =
    let some : c.loop-place.place < length c.args.xs.now = omega arith in
    let none : length c.args.ys.now ≤ c.loop-place.place = omega arith in
    sym (c.loop-place.invariant.0 ∙ second_ended c.args.xs.now c.args.ys.now c.loop-place.place some none)

-- the first list ended first
pub compare_all-returns-then-xs-ys : goal.compare_all-returns-then-xs-ys
compare_all-returns-then-xs-ys t c =
    let none : length c.args.xs.now ≤ c.loop-place.place = omega arith in
    let some : c.loop-place.place < length c.args.ys.now = omega arith in
    sym (c.loop-place.invariant.0 ∙ first_ended c.args.xs.now c.args.ys.now c.loop-place.place none some)

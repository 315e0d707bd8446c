use Rattle.std.proofs.Common.{arith}
use Rattle.catalogue.proofs.SizeLemmas.{size_more, size_within}
use Rattle.catalogue.proofs.growing.size_between.Goals as goal

-- one line more is within all
pub overflow_add-size : goal.overflow_add-size
overflow_add-size c =
    let up = c.loop-place.auto.place in
    let within = size_within c.args.lines.now c.args.first c.loop-place.place c.get.result.now (omega (arith, up)) (omega (arith, c.loop-place-test.true, c.requires.within)) c.get.ensures in
    omega (arith, within, c.len.ensures, c.requires.few)

pub overflow_add-size-in-loop-place : goal.overflow_add-size-in-loop-place
overflow_add-size-in-loop-place c =
    let up = c.loop-place.auto.place in
    let within = size_within c.args.lines.now c.args.first c.loop-place.place c.get.result.now (omega (arith, up)) (omega (arith, c.loop-place-test.true, c.requires.within)) c.get.ensures in
    omega (arith, within, c.len.ensures, c.requires.few, c.loop-place.invariant)

pub loop-place-preserved : goal.loop-place-preserved
loop-place-preserved c =
    let up = c.loop-place.auto.place in
    let more = size_more c.args.lines.now c.args.first c.loop-place.place c.get.result.now (omega (arith, up)) (omega (arith, c.loop-place-test.true, c.requires.within)) c.get.ensures in
    omega (arith, more, c.len.ensures, c.loop-place.invariant)

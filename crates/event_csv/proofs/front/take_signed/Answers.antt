use Rattle.std.proofs.Common.{rules}
use Rattle.std.proofs.lemmas.Int.{to_z-of_z}
use Rattle.std.proofs.lemmas.List.{take_rest}
use mir.Syntax.{w128}
use mir.Val.{SFits}
use Rattle.event_csv.proofs.QuickFacts.{few-same, minus-first, plus-first}
use Rattle.event_csv.proofs.front.take_signed.Goals as goal

pub returns-then-text-eq45 : goal.returns-then-text-eq45
returns-then-text-eq45 c =
    let s = c.args.text.now in
    let fits : SFits w128 c.below_zero.result = search rules in
    rw (to_z-of_z w128 c.below_zero.result fits, c.below_zero.ensures) (minus-first s c.in_ok-number.number _ c.if-text-gt0.true c.if-text-eq45.true (rw (take_rest s 1) at c.in_ok-number.ensures))

pub returns-then-text-eq43 : goal.returns-then-text-eq43
returns-then-text-eq43 c =
    let s = c.args.text.now in
    let n = c.in_ok-number-2.number in
    let h = rw (take_rest s 1) at c.in_ok-number-2.ensures in
    rw (few-same n h.fits) (plus-first s n _ c.if-text-gt0-2.true c.if-text-eq43.true h)

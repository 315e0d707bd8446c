use Rattle.std.proofs.Common.{◌≡◌, ◌∙◌, ◌+◌, ap, sym, arith}
use Rattle.std.specs.Prelude.{Some}
use Rattle.cel_types.proofs.UnionLemmas.{difference-short}
use Rattle.cel_types.proofs.unions.difference.Goals as goal

pub returns-then-size : goal.returns-then-size
returns-then-size c =
    let left = c.args.left.now in
    let right = c.args.right.now in
    let place = c.loop-place.place in
    let ended = difference-short (place + 1) place left right (omega arith) (omega arith) in
    let here : c.size-then-size.result + 1 ≡ place + 1 = omega arith in
    ap Some here ∙ sym (c.loop-place.invariant.rest ∙ ended)

use Rattle.std.proofs.Common.{arith}
use Rattle.std.proofs.lemmas.Int.{to_z-of_z}
use Rattle.static_index.proofs.SpanLemmas.{within_reach}
use Rattle.static_index.proofs.span.reach.Goals as goal

pub returns-clause-far : goal.returns-clause-far
returns-clause-far c = within_reach c.args.low.now c.args.high.now c.doublings.reach (grind (arith, to_z-of_z))

pub returns-clause-near : goal.returns-clause-near
returns-clause-near c =
    let near = c.doublings.invariant.near in
    grind (arith, to_z-of_z)

use Rattle.std.proofs.Common.{length, ap, arith}
use Rattle.long_lists.specs.Blocks.{joined}
use Rattle.long_lists.proofs.BlocksLemmas.{all_sum}
use Rattle.long_lists.proofs.blocks.Blocks.len.Goals as goal

pub returns : goal.returns
returns g c =
    let all = all_sum c.self.inside.closed c.self.inside.lengths c.self.inside.full c.self.inside.last c.self.invariant in
    let same = ap (λ blocks. length (joined blocks)) c.self.view_is in
    omega (arith, all, same, c.sum.ensures, c.len.ensures)

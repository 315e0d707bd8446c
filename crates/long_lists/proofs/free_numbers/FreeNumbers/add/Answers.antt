use Rattle.std.proofs.Common.{arith}
use Rattle.long_lists.proofs.FreeLemmas.{sum_within}
use Rattle.long_lists.proofs.free_numbers.FreeNumbers.add.Goals as goal

pub add-requires : goal.add-requires
add-requires c =
    let within = sum_within c.self.inside.ones c.self.invariant in
    let fits = c.self.invariant.fits in
    omega (arith, within, fits)

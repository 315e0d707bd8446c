use Rattle.std.proofs.Common.{[], ◌∷◌, ◌++◌, sym, subst}
use Rattle.long_lists.specs.Blocks.{AreSums}
use Rattle.long_lists.proofs.SumsLemmas.{last_fits_behind, opened_are, read_fits}
use Rattle.long_lists.proofs.long_sums.LongSums.open_block.Goals as goal

pub sum_of_first-sum-requires-clause-fits : goal.sum_of_first-sum-requires-clause-fits
sum_of_first-sum-requires-clause-fits c = read_fits c.self.inside.numbers c.self.inside.sums c.self.invariant c.closed.result c.block-last.result.now c.block-last.ensures

pub add-requires : goal.add-requires
add-requires c = last_fits_behind c.self.inside.numbers c.self.inside.sums c.self.invariant c.closed.result c.block-last.result.now c.block-last.ensures c.closed.ensures c.len.result c.sum_of_first-sum.result c.len.ensures c.sum_of_first-sum.ensures

pub invariant_of-self-in_default : goal.invariant_of-self-in_default
invariant_of-self-in_default c =
    subst (λ numbers. AreSums numbers c.add.new.self) (sym c.in_default.ensures.ok)
    (subst (λ sums. AreSums (c.self.inside.numbers ++ [] ∷ []) sums) (sym c.in_ok-add.ensures.ok)
    (opened_are c.self.inside.numbers c.self.inside.sums c.self.invariant c.closed.result c.block-last.result.now c.block-last.ensures c.closed.ensures c.len.result c.sum_of_first-sum.result c.len.ensures c.sum_of_first-sum.ensures))

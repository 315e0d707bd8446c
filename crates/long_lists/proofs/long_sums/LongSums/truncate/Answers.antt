use Rattle.std.proofs.Common.{sym, subst}
use Rattle.long_lists.specs.Blocks.{AreSums}
use Rattle.long_lists.proofs.SumsLemmas.{cut_are}
use Rattle.long_lists.proofs.long_sums.LongSums.truncate.Goals as goal

pub invariant_of-self : goal.invariant_of-self
invariant_of-self c =
    subst (λ sums. AreSums c.truncate.new.self sums) (sym c.truncate-2.ensures)
    (cut_are c.self.inside.numbers c.self.inside.sums c.self.invariant c.args.len c.closed.result c.truncate.new.self c.closed.ensures c.truncate.ensures.closed c.truncate.ensures.items)

use Rattle.std.proofs.Common.{◌∙◌, length, sym, ap}
use Rattle.long_lists.specs.Blocks.{closed_of, joined}
use Rattle.long_lists.proofs.BlocksLemmas.{closed_is, closed_sum}
use Rattle.long_lists.proofs.blocks.Blocks.closed_len.Goals as goal

pub returns : goal.returns
returns g c =
    c.sum.ensures ∙ closed_sum c.self.inside.closed c.self.inside.lengths c.self.inside.full c.self.inside.last c.self.invariant
    ∙ ap (λ blocks. length (joined blocks)) (sym (closed_is c.self.inside.closed c.self.inside.last) ∙ ap closed_of c.self.view_is)

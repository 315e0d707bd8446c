use Rattle.std.proofs.Common.{◌∙◌, ◌+◌, ◌<◌, ◌^◌, length, sym, ap, subst, arith}
use Rattle.std.proofs.lemmas.List.{length_push}
use Rattle.long_lists.specs.Blocks.{joined}
use Rattle.long_lists.proofs.BlocksLemmas.{put_are}
use Rattle.long_lists.proofs.blocks.Blocks.put.Goals as goal

pub invariant_of-self-2 : goal.invariant_of-self-2
invariant_of-self-2 g c =
    let long = ap length c.in_ok-add.ensures.ok ∙ length_push c.self.inside.last c.args.item in
    put_are c.self.inside.closed c.self.inside.lengths c.self.inside.full c.self.inside.last c.self.invariant c.add.new.self (omega (arith, long))
    (subst (λ blocks. length (joined blocks) + 1 < 2 ^ 64) (sym c.self.view_is) c.requires)

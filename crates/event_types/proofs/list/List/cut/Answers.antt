use Rattle.std.proofs.Common.{◌∙◌, ap, arith, length}
use Rattle.std.specs.List.{remove}
use Rattle.event_types.proofs.CutLemmas.{cut_more}
use Rattle.event_types.proofs.list.List.cut.Goals as goal

-- one item more is gone
pub loop-preserved : goal.loop-preserved
loop-preserved g c =
    c.remove.ensures.items ∙ ap (λ xs. remove xs c.args.first) c.loop.invariant
    ∙ cut_more c.self.inside.held.items c.args.first c.loop.counter c.loop.auto.counter (omega (arith, c.loop-test.true, c.requires.within, ap length c.self.view_is))

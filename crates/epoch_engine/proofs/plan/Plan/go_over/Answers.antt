use Rattle.std.proofs.Common.{ap, length, subst, sym, take, arith}
use Rattle.epoch_draft.specs.Turns.{HaveTurns}
use Rattle.epoch_draft.specs.declared.turns.Turns.{Turns}
use Rattle.epoch_draft.proofs.AgendaLemmas.{below_more}
use Rattle.epoch_engine.proofs.EngineLemmas.{order_below, order_once, outs_below}
use Rattle.epoch_engine.proofs.plan.Plan.go_over.Goals as goal

-- there is room for the streams of the order
pub arrange-requires-clause-below : goal.arrange-requires-clause-below
arrange-requires-clause-below c =
    let plan = c.args.self.now in
    let room = c.requires.room.turns in
    let same = ap (λ (turns : Turns). length turns.given) c.tell.ensures.turns in
    below_more (length plan.layout.kinds) (length c.tell.new.self.turns.given) plan.layout.order (omega (arith, room, same)) (order_below plan.merged plan.layout c.requires.fits)

-- each of them stands once in the order
pub arrange-requires-clause-once : goal.arrange-requires-clause-once
arrange-requires-clause-once c = let plan = c.args.self.now in order_once plan.merged plan.layout c.requires.fits

-- those that were there have their turns
pub arrange-requires-clause-before : goal.arrange-requires-clause-before
arrange-requires-clause-before c = subst (HaveTurns (take c.args.worked c.args.self.now.layout.order)) (sym c.tell.ensures.turns) c.requires.worked

-- there is room for those that are printed
pub arrange-requires-2-clause-below : goal.arrange-requires-2-clause-below
arrange-requires-2-clause-below c =
    let plan = c.args.self.now in
    below_more (length plan.layout.kinds) (length plan.prints.turns.given) plan.layout.outs c.requires.room.prints (outs_below plan.merged plan.layout c.requires.fits)

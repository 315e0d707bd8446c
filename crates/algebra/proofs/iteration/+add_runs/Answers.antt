use Rattle.std.proofs.Common.{◌∙◌, ◌<◌, ◌-◌, arith, subst, sym}
use Rattle.event_types.specs.Tuple.{TupleView}
use Rattle.algebra.specs.Suits.{SuitsRuns}
use Rattle.algebra.proofs.FoldLemmas.{SuitsBranch, suits_branches}
use Rattle.scalar_expr.proofs.ListLemmas.{All_read}
use Rattle.algebra.proofs.iteration.+add_runs.Goals as goal
use Rattle.scalar_expr.proofs.RunsLemmas.{goers_start_later}

-- the event is a goer, which starts after the binding was detected
pub rebind-requires-clause-later : goal.rebind-requires-clause-later
rebind-requires-clause-later g t c =
    All_read (λ (r : TupleView). c.args.binding.now.at < r.from) _ _ (c.as_slice-event-items.ensures ∙ c.in_ok-found.ensures)
    (goers_start_later c.args.fold.now.choose.now c.args.fold.now.on.now c.args.fold.now.tuples.now c.args.binding.now) c.loop-event.event-index c.event-item.result (omega arith) c.event-item.is

-- the scalars fit each goer
pub rebind-requires-clause-fits : goal.rebind-requires-clause-fits
rebind-requires-clause-fits g t c =
    let some : 0 < c.args.most = omega arith in
    let suits = suits_branches c.args.most c.args.fold.now.choose.now c.args.fold.now.on.now c.args.fold.now.projection.now.parts c.args.fold.now.tuples.now c.args.binding.now some c.requires in
    (All_read (SuitsBranch (c.args.most - 1) c.args.fold.now.choose.now c.args.fold.now.on.now c.args.fold.now.projection.now.parts c.args.fold.now.tuples.now c.args.binding.now) _ _
    (c.as_slice-event-items.ensures ∙ c.in_ok-found.ensures) suits.2 c.loop-event.event-index c.event-item.result (omega arith) c.event-item.is).0

-- one event less may follow, and what is needed holds at the new binding
pub add_runs-requires : goal.add_runs-requires
add_runs-requires g t c κs within =
    let some : 0 < c.args.most = omega arith in
    let suits = suits_branches c.args.most c.args.fold.now.choose.now c.args.fold.now.on.now c.args.fold.now.projection.now.parts c.args.fold.now.tuples.now c.args.binding.now some c.requires in
    let one = All_read (SuitsBranch (c.args.most - 1) c.args.fold.now.choose.now c.args.fold.now.on.now c.args.fold.now.projection.now.parts c.args.fold.now.tuples.now c.args.binding.now) _ _
    (c.as_slice-event-items.ensures ∙ c.in_ok-found.ensures) suits.2 c.loop-event.event-index c.event-item.result (omega arith) c.event-item.is in
    (omega arith, (within, subst (λ (b : TupleView). SuitsRuns (c.args.most - 1) c.args.fold.now.choose.now c.args.fold.now.on.now c.args.fold.now.projection.now.parts c.args.fold.now.tuples.now b) (sym c.in_ok-new_binding.ensures) one.1))

use Rattle.std.proofs.Common.{◌+◌, ◌-◌}
use Rattle.semantics.specs.Denotation.{streams_of}
use Rattle.epoch_draft.specs.Held.{held}
use Rattle.epoch_draft.specs.EpochWork.{derived_work, taking_work}
use Rattle.epoch_draft.proofs.InTurnLemmas.{DerivedSoFar}
use Rattle.epoch_draft.proofs.making.derive.Given as goal

-- the streams so far are derived, and each later one that is due and read is planned
abbrev pub invariant-loop-turn : goal.invariant-loop-turn
invariant-loop-turn g l =
    DerivedSoFar l.stored.network.now l.stored.layout.now l.stored.stores.now l.opened l.stored.turns.now.turns l.drawing.draft l.drawing.pairs l.drawing.agenda.entries l.last l.steps
    (l.initial.steps + derived_work l.stored.network.now l.stored.layout.now.order (held l.stored.stores.now) (streams_of l.opened)) (taking_work l.stored.network.now l.stored.layout.now (held l.stored.stores.now) (streams_of l.opened))

-- the turns that are left
abbrev pub decreases-loop-turn : goal.decreases-loop-turn
decreases-loop-turn g l = l.stored.turns.now.turns.last - l.last

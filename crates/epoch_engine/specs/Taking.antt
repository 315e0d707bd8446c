-- What the two halves of a closing do with the parts of an engine. No public clause cites this module.
use Rattle.std.specs.Prelude.{ℕ, ◌+◌, List, IfSome, Option}
use Rattle.event_types.specs.Tuple.{TupleView}
use Rattle.binding_index.specs.declared.store.Store.{Store}
use Rattle.semantics.specs.Denotation.{streams_of}
use Rattle.epoch_draft.specs.Deriving.{DrawnUpTo, news_of}
use Rattle.epoch_draft.specs.EpochWork.{TakesNoMore, draw_work, epoch_work, pairs_work}
use Rattle.epoch_draft.specs.Held.{held}
use Rattle.epoch_draft.specs.Settling.{AreClosed}
use Rattle.epoch_engine.specs.Closes.{IsTaken}
use Rattle.epoch_engine.specs.Results.{results_of}
use Rattle.epoch_draft.specs.declared.drawing.Drawing.{Drawing}
use Rattle.epoch_engine.specs.declared.epoch.Epoch.{Epoch}
use Rattle.epoch_engine.specs.declared.plan.Plan.{Plan}
use Rattle.epoch_engine.specs.declared.room.Room.{Room}

-- all that comes of the open tuples over these stores is drawn
abbrev pub IsDrawn : Plan → List (Option Store) → Epoch → Drawing → Type 0
IsDrawn plan stores epoch drawing = DrawnUpTo plan.merged plan.layout stores epoch.tuples plan.layout.order drawing.draft drawing.pairs

-- the stores are taken over an epoch that was drawn, and purged for the time after it
abbrev pub IsSettled : Plan → Epoch → Drawing → List (Option Store) → List (Option Store) → Type 0
IsSettled plan epoch drawing old new = IfSome epoch.time (λ time. AreClosed (time + 1) plan.merged (news_of epoch.tuples drawing.draft.made plan.layout.order) old new)

-- the results that stand in a room
abbrev pub results_in : Room → List (ℕ × List TupleView)
results_in room = results_of room.streams (streams_of room.drawing.draft.made)

-- so that the epoch is taken, with this batch
abbrev pub TakesEpoch : Plan → Epoch → List (Option Store) → List (Option Store) → List (ℕ × List TupleView) → Type 0
TakesEpoch plan epoch old new batch = IfSome epoch.time (λ time. IsTaken plan.merged plan.layout time (held old) (streams_of epoch.tuples) (held new) batch)

-- the tests by which all that comes of the open tuples is drawn over these stores
abbrev pub drawing_work : Plan → List (Option Store) → Epoch → ℕ
drawing_work plan stores epoch = draw_work plan.merged plan.layout (held stores) (streams_of epoch.tuples)

-- the tests by which the drawn pairs take out what they match
abbrev pub settling_work : Plan → List (Option Store) → Epoch → Drawing → ℕ
settling_work plan stores epoch drawing = pairs_work plan.merged plan.layout.order stores epoch.tuples drawing.draft.made drawing.pairs

-- all tests of the closing
abbrev pub closing_work : Plan → List (Option Store) → Epoch → ℕ
closing_work plan stores epoch = epoch_work plan.merged plan.layout (held stores) (streams_of epoch.tuples)

-- the pairs that are drawn take out by no more tests than the tuples of the epoch have
abbrev pub TakesWithin : Plan → List (Option Store) → Epoch → Drawing → Type 0
TakesWithin plan stores epoch drawing = TakesNoMore plan.merged plan.layout stores epoch.tuples drawing.draft.made drawing.pairs

use Rattle.std.proofs.Common.{◌≡◌, ◌+◌, ◌≤◌, length, take, get_or, []}
use Rattle.std.specs.Prelude.{Contains, sum_by}
use Rattle.std.specs.List.{All}
use Rattle.semantics.specs.Denotation.{streams_of}
use Rattle.epoch_draft.specs.Tests.{streams_work}
use Rattle.epoch_draft.specs.Deriving.{opened_of}
use Rattle.epoch_draft.specs.Drafts.{DraftFits}
use Rattle.epoch_draft.specs.Drawn.{Drawn, Paired}
use Rattle.epoch_draft.specs.Held.{held}
use Rattle.epoch_draft.proofs.making.meet_opened.Given as goal
use Rattle.epoch_draft.specs.Takes.{take_work, takes_work}

-- the streams so far are met
abbrev pub invariant-loop-stream : goal.invariant-loop-stream
invariant-loop-stream g l = record {
  fits : DraftFits (length l.stored.layout.now.kinds) (length l.stored.network.now) l.drawing.draft;
  drawn : Drawn l.stored.network.now (held l.stored.stores.now) (opened_of l.opened (take l.stream-index l.touched)) l.drawing.draft;
  paired : Paired l.stored.network.now (held l.stored.stores.now) (opened_of l.opened (take l.stream-index l.touched)) l.drawing.pairs;
  takes : takes_work l.stored.network.now (streams_of l.opened) (held l.stored.stores.now) l.drawing.pairs ≤ sum_by (λ s. sum_by (take_work l.stored.network.now (held l.stored.stores.now) s) (get_or l.opened s [])) (take l.stream-index l.touched);
  due : All (Contains l.stored.layout.now.order) l.drawing.draft.due.numbers;
  agenda : l.drawing.agenda.entries ≡ l.initial.drawing.agenda.entries;
  ticks : l.steps ≤ l.initial.steps + streams_work l.stored.network.now (held l.stored.stores.now) l.opened (take l.stream-index l.touched);
}

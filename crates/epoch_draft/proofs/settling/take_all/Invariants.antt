use Rattle.std.proofs.Common.{◌+◌, ◌≤◌, take}
use Rattle.epoch_draft.specs.Held.{held}
use Rattle.epoch_draft.specs.Settling.{AreTaken, tuples_in}
use Rattle.epoch_draft.specs.Takes.{takes_work}
use Rattle.epoch_draft.proofs.settling.take_all.Given as goal

-- the tuples of the pairs so far took out what they match
abbrev pub invariant-loop-pair : goal.invariant-loop-pair
invariant-loop-pair g l = record {
  taken : AreTaken l.network (tuples_in l.opened l.made) (take l.pair-index l.pairs) l.initial.stores l.stores;
  ticks : l.steps ≤ l.initial.steps + takes_work l.network (tuples_in l.opened l.made) (held l.initial.stores) (take l.pair-index l.pairs);
}

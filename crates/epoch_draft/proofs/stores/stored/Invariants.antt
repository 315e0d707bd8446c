use Rattle.std.proofs.Common.{◌≡◌, ◌-◌, ◌^◌, length, min, sum_by, take}
use Rattle.epoch_draft.specs.Held.{instances_in}
use Rattle.epoch_draft.proofs.stores.stored.Given as goal

-- the instances of the states so far are counted
abbrev pub invariant-loop-slot : goal.invariant-loop-slot
invariant-loop-slot l = l.count ≡ min (sum_by (λ slot. length (instances_in slot)) (take l.slot-index l.stores)) (2 ^ 64 - 1)

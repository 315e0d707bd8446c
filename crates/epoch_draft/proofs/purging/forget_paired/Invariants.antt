use Rattle.std.proofs.Common.{map, take}
use Rattle.epoch_draft.specs.Purging.{ForgetUnusedIn}
use Rattle.epoch_draft.specs.declared.draft.Pair.{Pair}
use Rattle.epoch_draft.proofs.purging.forget_paired.Given as goal

-- the stores of the pairs so far have forgotten keys
abbrev pub invariant-loop-pair : goal.invariant-loop-pair
invariant-loop-pair l = ForgetUnusedIn (map (λ (pair : Pair). pair.state) (take l.pair-index l.pairs)) l.initial.stores l.stores

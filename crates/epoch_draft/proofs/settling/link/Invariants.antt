use Rattle.std.proofs.Common.{◌≡◌, ◌++◌, [], length}
use Rattle.std.specs.List.{All}
use Rattle.std.specs.List.Sorted.{IsPermutation}
use Rattle.binding_index.specs.Stores.{condition_of, instances_of, key_of, ready_of}
use Rattle.epoch_draft.specs.Readying.{HasRoom}
use Rattle.epoch_draft.proofs.settling.link.Given as goal

-- the beads that are left are still to be linked, and there is room for them
abbrev pub invariant-loop-bead : goal.invariant-loop-bead
invariant-loop-bead l = record {
  instances : IsPermutation (instances_of l.store ++ l.walk.chain.now) (instances_of l.initial.store ++ l.initial.walk.chain.now);
  room : All (HasRoom (key_of l.store) (ready_of l.store)) l.walk.chain.now;
  idle : l.initial.walk.chain.now ≡ [] → (l.store ≡ l.initial.store) × (l.walk.chain.now ≡ []);
  condition : condition_of l.store ≡ condition_of l.initial.store;
  key : key_of l.store ≡ key_of l.initial.store;
  ready : ready_of l.store ≡ ready_of l.initial.store;
}

abbrev pub decreases-loop-bead : goal.decreases-loop-bead
decreases-loop-bead l = length l.walk.chain.now

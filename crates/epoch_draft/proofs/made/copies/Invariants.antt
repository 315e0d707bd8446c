use Rattle.std.proofs.Common.{◌≡◌, take}
use Rattle.epoch_draft.specs.Made.{placed}
use Rattle.epoch_draft.proofs.made.copies.Given as goal

-- the tuples at the places so far
abbrev pub invariant-loop-place : goal.invariant-loop-place
invariant-loop-place l = l.copies.items ≡ placed l.tuples (take l.place-index l.places)

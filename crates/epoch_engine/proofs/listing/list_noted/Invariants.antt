use Rattle.std.proofs.Common.{◌≡◌, map, take}
use Rattle.epoch_engine.proofs.listing.list_noted.Given as goal

-- the streams so far are listed
abbrev pub invariant-loop-due : goal.invariant-loop-due
invariant-loop-due l = l.streams ≡ map (λ due. due.stream) (take l.due-index l.noted)

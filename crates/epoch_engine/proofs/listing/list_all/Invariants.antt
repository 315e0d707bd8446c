use Rattle.std.proofs.Common.{◌≡◌, take}
use Rattle.epoch_engine.proofs.listing.list_all.Given as goal

-- the streams so far are listed
abbrev pub invariant-loop-place : goal.invariant-loop-place
invariant-loop-place l = l.streams ≡ take l.place l.outs

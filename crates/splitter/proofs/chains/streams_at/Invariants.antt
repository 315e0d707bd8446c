use Rattle.std.proofs.Common.{◌≡◌, ◌+◌, take, map}
use Rattle.splitter.proofs.chains.streams_at.Given as goal

-- the streams of the places so far
abbrev pub invariant-loop-place : goal.invariant-loop-place
invariant-loop-place l = l.streams ≡ map (λ place. l.fn.declared + place) (take l.place-index l.places)

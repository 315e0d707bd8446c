use Rattle.std.proofs.Common.{drop}
use Rattle.reference.proofs.PublishingLemmas.{IsLeft}
use Rattle.reference.proofs.publishing.publish.Given as goal

-- what is left is the queries at the places from here on
abbrev pub invariant-loop-place : goal.invariant-loop-place
invariant-loop-place g l = IsLeft l.queries l.initial.streams l.order l.streams (drop l.place-index l.order)

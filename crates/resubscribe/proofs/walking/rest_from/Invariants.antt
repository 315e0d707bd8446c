use Rattle.std.proofs.Common.{◌≡◌, take}
use Rattle.resubscribe.proofs.walking.rest_from.Given as goal

-- the numbers so far were added
abbrev pub invariant-loop-other : goal.invariant-loop-other
invariant-loop-other l = l.rest ≡ take l.other-index l.other-items

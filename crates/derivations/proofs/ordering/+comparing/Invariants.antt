use Rattle.std.proofs.Common.{◌≡◌, ◌≤◌, length}
use Rattle.derivations.proofs.OrderLemmas.{rest_cmp}
use Rattle.derivations.proofs.ordering.+comparing.Given as goal

-- what is left of both lists decides
abbrev pub invariant-compare_all-loop-place : goal.invariant-compare_all-loop-place
invariant-compare_all-loop-place l = (rest_cmp 0 l.xs l.ys ≡ rest_cmp l.place l.xs l.ys) × (l.place ≤ length l.ys)

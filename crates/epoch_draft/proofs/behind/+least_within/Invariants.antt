use Rattle.std.proofs.Common.{◌≡◌, ◌-◌, drop, flat_map}
use Rattle.epoch_draft.specs.BirthLists.{births_within, least_with}
use Rattle.epoch_draft.proofs.behind.+least_within.Given as goal

-- with the births behind the edges that are left it is that of all
abbrev pub invariant-loop-next : goal.invariant-loop-next
invariant-loop-next l = least_with l.least (flat_map (births_within l.network (l.hops - 1)) (drop l.next-index l.next-items)) ≡ least_with l.initial.least (flat_map (births_within l.network (l.hops - 1)) l.next-items)

abbrev pub decreases-least_within : goal.decreases-least_within
decreases-least_within l = l.hops

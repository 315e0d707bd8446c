use Rattle.std.proofs.Common.{◌≡◌, drop}
use Rattle.epoch_draft.specs.BirthLists.{births_of, least_with}
use Rattle.epoch_draft.proofs.behind.least_at.Given as goal

-- with the births that are left it is that of all
abbrev pub invariant-loop-end : goal.invariant-loop-end
invariant-loop-end l = least_with l.least (births_of (drop l.end-index l.ends)) ≡ least_with l.initial.least (births_of l.ends)

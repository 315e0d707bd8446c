use Rattle.std.proofs.Common.{◌≡◌, ◌≤◌, ◌-◌, ℕ, length, get_or, []}
use Rattle.epoch_draft.proofs.draft.fit_chains.Given as goal

-- so far all chains are empty
abbrev pub invariant-loop-chains : goal.invariant-loop-chains
invariant-loop-chains l = (length l.chains ≤ l.count) × ((place : ℕ) → get_or l.chains place [] ≡ [])

abbrev pub decreases-loop-chains : goal.decreases-loop-chains
decreases-loop-chains l = l.count - length l.chains

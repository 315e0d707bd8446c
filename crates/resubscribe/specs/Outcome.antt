-- How the order of queries is refused, and the first number that passes a test.
use Rattle.std.specs.Prelude.{◌≡◌, ◌<◌, ◌≤◌, ℕ, Bool, true, false, List, Option, Some, None}
use Rattle.resubscribe.specs.Cycle.{IsCycle}
use Rattle.resubscribe.specs.Laws.{ReadsInCircle}
use Rattle.resubscribe.specs.declared.fault.OrderFault.{OrderFault}
use Rattle.resubscribe.specs.declared.fault.OrderFault.TheVariants.{Cycle, Memory}

-- the queries have this cycle, in which each reads the next and the last reads the first; want of memory says nothing
abbrev pub IsRefusal : List (List ℕ) → OrderFault → Type 0
IsRefusal reads (Cycle cycle) = IsCycle reads cycle × ReadsInCircle reads cycle
IsRefusal reads Memory = Unit {0}

-- the first number from `low` up to `high` that passes the test, if one does
abbrev pub IsFirstFrom : (ℕ → Bool) → ℕ → ℕ → Option ℕ → Type 0
IsFirstFrom test low high None = (number : ℕ) → low ≤ number → number < high → test number ≡ false
IsFirstFrom test low high (Some found) = (low ≤ found) × (found < high) × (test found ≡ true) × ((number : ℕ) → low ≤ number → number < found → test number ≡ false)

-- Ids of which those are kept that pass a test. No public clause cites it.
use Rattle.std.specs.Prelude.{ℕ, Bool, true, not, ◌==◌, List, Option, Some, None}
use Rattle.std.specs.List.{dedup, filter}

-- whether an id isn't the one before it, if there is one
abbrev pub is_other : Option ℕ → ℕ → Bool
is_other None id = true
is_other (Some last) id = not (id == last)

-- the ids that pass, where equal ones that follow one another count once
abbrev pub passing : (ℕ → Bool) → List ℕ → List ℕ
passing test ids = filter test (dedup ◌==◌ ids)

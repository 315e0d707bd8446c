-- The least detection time of some tuples. No public clause cites this.
use Rattle.std.specs.Prelude.{◌<◌, ℕ, Bool, nat_le, if◌then◌else◌, List, [], ◌∷◌, Option, Some, None}
use Rattle.std.specs.List.{filter}
use Rattle.derivations.specs.DerivedTuples.{DerivedTuple}

-- the lesser of a time and another, if there is one
abbrev pub lesser_of : Option ℕ → ℕ → ℕ
lesser_of None time = time
lesser_of (Some other) time = if nat_le other time then other else time

-- the lesser of both where the test passes
abbrev pub lesser_if : Bool → Option ℕ → ℕ → Option ℕ
lesser_if test first time = if test then Some (lesser_of first time) else first

-- there is another time, and this one is after it
abbrev pub IsPast : Option ℕ → ℕ → Type 0
IsPast None time = ⊥
IsPast (Some other) time = other < time

-- the least detection time, if there is a tuple
abbrev pub least_at : List DerivedTuple → Option ℕ
least_at [] = None
least_at (x ∷ found) = Some (lesser_of (least_at found) x.tuple.at)

-- those that are detected no later than a time
abbrev pub up_to_least : ℕ → List DerivedTuple → List DerivedTuple
up_to_least time found = filter (λ x. nat_le x.tuple.at time) found

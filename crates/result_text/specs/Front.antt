-- The fronts of result lines: what stands before the tails.
use Rattle.std.specs.Prelude.{ℕ, List, [], ◌∷◌, ◌++◌}
use Rattle.semantics.specs.Report.{quoted}

-- a name as a field, and a comma
abbrev pub front_of : List ℕ → List ℕ
front_of name = quoted name ++ 44 ∷ []

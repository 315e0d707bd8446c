-- What is put behind a list of names and its text, one by one. No public clause cites this module.
use Rattle.std.specs.Prelude.{ℕ, zero, suc, List, [], ◌∷◌, ◌++◌, codes, if◌then◌else◌}
use Rattle.cel_types.specs.Aggregates.{is_among}

-- what stands before the item at a place of a list
abbrev pub gap : ℕ → List ℕ
gap zero = []
gap (suc place) = codes ", "

-- the names with one more, if it isn't among them
abbrev pub with_name : List (List ℕ) → List ℕ → List (List ℕ)
with_name names name = if is_among names name then names else names ++ name ∷ []

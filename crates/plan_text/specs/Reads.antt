-- The names that queries read, each once.
use Rattle.std.specs.Prelude.{ℕ, List, [], ◌∷◌, map, not}
use Rattle.std.specs.List.{filter}
use Rattle.std.specs.Str.{bytes_eq}
use Rattle.cel_grammar.specs.Trees.{Statement}
use Rattle.catalogue.specs.Statements.{queries_in, reads_by}

-- the names without repeats: each where it first stands
abbrev pub once : List (List ℕ) → List (List ℕ)
once [] = []
once (name ∷ names) = name ∷ filter (λ other. not (bytes_eq other name)) (once names)

-- for each query of a file by its number the names that it reads, in reading order without repeats
abbrev pub reads_once : List Statement → List (List (List ℕ))
reads_once statements = map (λ query. once (reads_by query)) (queries_in statements)

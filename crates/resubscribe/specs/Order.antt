-- The order of queries that read one another (CIDR 2007, resubscription; which order it is, is this project's profile).
use Rattle.std.specs.Prelude.{◌≡◌, ℕ, ◌==◌, ◌++◌, ⊤, Bool, not, ◌&&◌, List, [], ◌∷◌, length, Option, Some, None, slice_index_or}
use Rattle.std.specs.List.{find, list_all, list_any, range_with_len}

-- the numbers of the queries that a query reads, in reading order
abbrev pub reads_of : List (List ℕ) → ℕ → List ℕ
reads_of reads query = slice_index_or reads query []

-- whether a number is among the numbers
abbrev pub is_among : List ℕ → ℕ → Bool
is_among numbers number = list_any (λ other. number == other) numbers

-- whether the query isn't taken
abbrev pub is_untaken : List ℕ → ℕ → Bool
is_untaken taken query = not (is_among taken query)

-- whether the query isn't taken and all that it reads is
abbrev pub is_ready : List (List ℕ) → List ℕ → ℕ → Bool
is_ready reads taken query = is_untaken taken query && list_all (is_among taken) (reads_of reads query)

-- the queries as they stand in the file
abbrev pub in_file : List (List ℕ) → List ℕ
in_file reads = range_with_len 0 (length reads)

-- the first query of the file that isn't taken and whose read queries are all taken
abbrev pub first_ready : List (List ℕ) → List ℕ → Option ℕ
first_ready reads taken = find (is_ready reads taken) (in_file reads)

-- the first query of the file that isn't taken
abbrev pub first_untaken : List (List ℕ) → List ℕ → Option ℕ
first_untaken reads taken = find (is_untaken taken) (in_file reads)

-- after the taken queries these are taken one by one, each as the first that is ready
abbrev pub TakesQuery : List (List ℕ) → List ℕ → List ℕ → Type 0
TakesQuery reads taken [] = ⊤
TakesQuery reads taken (query ∷ later) = (first_ready reads taken ≡ Some query) × TakesQuery reads (taken ++ query ∷ []) later

-- the queries are in their order: they are taken so one by one, until none is left
pub record IsOrder (reads : List (List ℕ)) (order : List ℕ) : Type 0 where
  pub taken : TakesQuery reads [] order
  pub none_left : first_untaken reads order ≡ None

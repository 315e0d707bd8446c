-- The cycle that is told where queries have no order (this project's profile).
use Rattle.std.specs.Prelude.{◌≡◌, ◌≢◌, ℕ, ◌++◌, ⊤, List, [], ◌∷◌, Option, Some, None, slice_get, AllPairs}
use Rattle.std.specs.List.{find}
use Rattle.resubscribe.specs.Order.{TakesQuery, first_ready, first_untaken, is_untaken, reads_of}

-- the leftmost of its read queries that isn't taken
abbrev pub untaken_read : List (List ℕ) → List ℕ → ℕ → Option ℕ
untaken_read reads taken query = find (is_untaken taken) (reads_of reads query)

-- each query but the last is followed by its leftmost untaken read
abbrev pub Walks : List (List ℕ) → List ℕ → List ℕ → Type 0
Walks reads taken [] = ⊤
Walks reads taken (query ∷ []) = ⊤
Walks reads taken (query ∷ next ∷ later) = (untaken_read reads taken query ≡ Some next) × Walks reads taken (next ∷ later)

-- some queries are taken and none further can be; the walk from the first untaken one, until a query comes again, has the cycle from the first place of that query on
pub record IsCycle (reads : List (List ℕ)) (cycle : List ℕ) : Type 0 where
  pub taken : List ℕ
  pub before : List ℕ
  pub repeated : ℕ
  pub between : List ℕ
  pub takes : TakesQuery reads [] taken
  pub none_ready : first_ready reads taken ≡ None
  pub begins : first_untaken reads taken ≡ slice_get (before ++ repeated ∷ between) 0
  pub walks : Walks reads taken (before ++ repeated ∷ between ++ repeated ∷ [])
  pub all_new : AllPairs (λ x y. x ≢ y) (before ++ repeated ∷ between)
  pub is_rest : cycle ≡ repeated ∷ between

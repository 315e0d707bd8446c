-- What follows of the order and of the cycle.
use Rattle.std.specs.Prelude.{◌≡◌, ◌≢◌, ◌<◌, ◌↔◌, ◌⊎◌, ◌-◌, ◌==◌, ℕ, ⊤, false, nat_lt, not, if◌then◌else◌, List, [], ◌∷◌, ◌++◌, length, map, remove, take, slice_index, AllPairs, Contains}
use Rattle.std.specs.List.{All, filter}
use Rattle.resubscribe.specs.Order.{IsOrder, is_among, reads_of}
use Rattle.resubscribe.specs.Cycle.{IsCycle}

-- each query stands in the order exactly once
pub record HasEachOnce (reads : List (List ℕ)) (order : List ℕ) : Type 0 where
  pub distinct : AllPairs (λ x y. x ≢ y) order
  pub all : (query : ℕ) → Contains order query ↔ (query < length reads)

-- each query stands after all that it reads
abbrev pub StandsAfterReads : List (List ℕ) → List ℕ → Type 0
StandsAfterReads reads order = (place : ℕ) → place < length order → All (Contains (take place order)) (reads_of reads (slice_index order place))

-- each query reads the next one, and the last one reads this one
abbrev pub EachReadsNext : List (List ℕ) → List ℕ → ℕ → Type 0
EachReadsNext reads [] first = ⊤
EachReadsNext reads (query ∷ []) first = Contains (reads_of reads query) first
EachReadsNext reads (query ∷ next ∷ later) first = Contains (reads_of reads query) next × EachReadsNext reads (next ∷ later) first

-- there is a query, each reads the next one, and the last one reads the first
abbrev pub ReadsInCircle : List (List ℕ) → List ℕ → Type 0
ReadsInCircle reads cycle = (0 < length cycle) × EachReadsNext reads cycle (slice_index cycle 0)

-- queries have at most one order
abbrev pub OneOrder : Type 0
OneOrder = (reads : List (List ℕ)) (order other : List ℕ) → IsOrder reads order → IsOrder reads other → order ≡ other

-- queries have at most one cycle
abbrev pub OneCycle : Type 0
OneCycle = (reads : List (List ℕ)) (cycle other : List ℕ) → IsCycle reads cycle → IsCycle reads other → cycle ≡ other

-- queries that have an order have no cycle
abbrev pub NotBoth : Type 0
NotBoth = (reads : List (List ℕ)) (order cycle : List ℕ) → IsOrder reads order → ¬ IsCycle reads cycle

-- queries that read queries have an order or a cycle
abbrev pub SomeOutcome : Type 0
SomeOutcome = (reads : List (List ℕ)) → All (λ numbers. All (λ number. number < length reads) numbers) reads → ((order : List ℕ) × IsOrder reads order) ⊎ ((cycle : List ℕ) × IsCycle reads cycle)

-- the number of a query once another one has left: those behind that one move up
abbrev pub number_without : ℕ → ℕ → ℕ
number_without gone query = if nat_lt gone query then query - 1 else query

-- what the queries read once one that none reads has left
abbrev pub reads_without : ℕ → List (List ℕ) → List (List ℕ)
reads_without gone reads = map (map (number_without gone)) (remove reads gone)

-- queries without one of them
abbrev pub order_without : ℕ → List ℕ → List ℕ
order_without gone queries = map (number_without gone) (filter (λ query. not (query == gone)) queries)

-- a query that none reads leaves the others in their order
abbrev pub LeavingKeepsOrder : Type 0
LeavingKeepsOrder =
    (reads : List (List ℕ)) (order : List ℕ) (gone : ℕ) → gone < length reads → All (λ numbers. is_among numbers gone ≡ false) reads → IsOrder reads order → IsOrder (reads_without gone reads) (order_without gone order)

-- a query that is added comes last
abbrev pub AddedComesLast : Type 0
AddedComesLast = (reads : List (List ℕ)) (order numbers : List ℕ) → All (λ number. number < length reads) numbers → IsOrder reads order → IsOrder (reads ++ numbers ∷ []) (order ++ length reads ∷ [])

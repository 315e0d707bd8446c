-- The order of values and of tuples, and tuples in that order.
use Rattle.std.specs.Prelude.{ℕ, if◌then◌else◌, List, [], ◌∷◌}
use Rattle.std.specs.Ordering.{nat_cmp, int_cmp, is_gt, ordering_then, then_cmp, on}
use Rattle.std.specs.declared.cmp.Ordering.{Ordering}
use Rattle.std.specs.Cmp.Lexicographic.{slice_cmp}
use Rattle.event_types.specs.declared.value.Value.{Value}
use Rattle.event_types.specs.declared.value.Value.TheVariants.{Int, Over, Text, Dec}
use Rattle.event_types.specs.Tuple.{TupleView}

-- the place of a value's sort in the order: whole numbers, decimals, OVER, texts
abbrev pub value_place : Value → ℕ
value_place (Int x) = 0
value_place (Dec scale units) = 1
value_place Over = 2
value_place (Text x) = 3

-- whole numbers by size, then decimals by scale and units, then OVER, then texts by bytes
abbrev pub value_cmp : Value → Value → Ordering
value_cmp (Int x) (Int y) = int_cmp x y
value_cmp (Dec s x) (Dec t y) = ordering_then (nat_cmp s t) (int_cmp x y)
value_cmp (Text x) (Text y) = slice_cmp nat_cmp x y
value_cmp x y = nat_cmp (value_place x) (value_place y)

-- by start, then by the values from left to right with the shorter list first, then by detection
abbrev pub tuple_cmp : TupleView → TupleView → Ordering
tuple_cmp = then_cmp (on (λ t. t.from) nat_cmp) (then_cmp (on (λ t. t.vals) (slice_cmp value_cmp)) (on (λ t. t.at) nat_cmp))

-- the list with one more item, which stands before the first that it isn't greater than
abbrev pub put : {X : Type 0} → (X → X → Ordering) → X → List X → List X
put cmp x [] = x ∷ []
put cmp x (y ∷ ys) = if is_gt (cmp x y) then y ∷ put cmp x ys else x ∷ y ∷ ys

-- the items in order, each as often as it stands
abbrev pub sort_by : {X : Type 0} → (X → X → Ordering) → List X → List X
sort_by cmp [] = []
sort_by cmp (x ∷ xs) = put cmp x (sort_by cmp xs)

-- the tuples in order
abbrev pub sorted : List TupleView → List TupleView
sorted tuples = sort_by tuple_cmp tuples

-- The tuples that an epoch brings, of which each stream has the places.
use Rattle.std.specs.Prelude.{◌≡◌, ℕ, ◌-◌, ◌<◌, List, [], IfSome, Option, Some, length, option_to_list, slice_get, slice_index_or}
use Rattle.std.specs.List.{All, flat_map}
use Rattle.std.specs.Option.{option_cmp}
use Rattle.std.specs.declared.cmp.Ordering.{Ordering}
use Rattle.event_types.specs.Order.{tuple_cmp}
use Rattle.event_types.specs.Tuple.{TupleView}

-- the items at these places, in the order of the places; a place without an item gives none
abbrev pub placed : {X : Type 0} → List X → List ℕ → List X
placed items places = flat_map (λ place. option_to_list (slice_get items place)) places

-- each place in each of these lists is that of an item
abbrev pub ArePlaced : {X : Type 0} → List X → List (List ℕ) → Type 0
ArePlaced items lists = All (λ places. All (λ place. place < length items) places) lists

-- the list's last item is this one
abbrev pub EndsWith : {X : Type 0} → List X → X → Type 0
EndsWith items item = slice_get items (length items - 1) ≡ Some item

-- where a number is given, the list of that number ends with the item
abbrev pub IsLastIn : {X : Type 0} → List (List X) → X → Option ℕ → Type 0
IsLastIn lists item last = IfSome last (λ number. EndsWith (slice_index_or lists number []) item)

-- the order of the tuples at two places, before which stands a place without one
abbrev pub place_cmp : List TupleView → ℕ → ℕ → Ordering
place_cmp tuples one other = option_cmp tuple_cmp (slice_get tuples one) (slice_get tuples other)

-- Lists by the places of their items.
use Rattle.std.proofs.Common.{◌≡◌, ◌∙◌, sym, ap, refl, subst, ℕ, zero, suc, ◌+◌, ◌<◌, length, true, false, cond, get_or, set, take, List, [], ◌∷◌, ◌++◌, map, arith}
use Rattle.std.specs.Prelude.{Option, Some, option_to_list, slice_get}
use Rattle.std.specs.List.{All}
use Rattle.std.specs.List.Sorted.{IsPermutation, IsSorted, IsSortedBy}
use Rattle.std.specs.Option.{option_cmp}
use Rattle.std.specs.Ordering.{is_gt, is_lt}
use Rattle.std.proofs.lemmas.Grind.{flat_map-append}
use Rattle.std.proofs.lemmas.List.{get_or-set_same, length-append, map-set, take_more}
use Rattle.std.proofs.lemmas.List.Elements.{All-cons, All-append, All-get_or, All-head, All-nil, All-set, All-tail}
use Rattle.std.proofs.lemmas.List.Sorted.{All-permutation}
use Rattle.std.proofs.lemmas.Option.{get_or_from_slice_get, slice_get-get_or, slice_get_read}
use Rattle.event_types.specs.Order.{sorted, tuple_cmp}
use Rattle.event_types.specs.OrderLaws.{tuple_exact, tuple_total}
use Rattle.event_types.specs.Tuple.{TupleView}
use Rattle.event_types.proofs.SortLemmas.{sorted_is}
use Rattle.scalar_expr.proofs.Bags.{flat_map_permuted}
use Rattle.epoch_draft.specs.Made.{ArePlaced, EndsWith, place_cmp, placed}
use Rattle.epoch_draft.proofs.Lists.{all_at, some_is}

module _ {X : Type 0} where
  -- the item at a place that is within
  pub item_at : (items : List X) (place : ℕ) → place < length items → (item : X) × (slice_get items place ≡ Some item)
  item_at [] place lt = absurd (omega (arith, lt))
  item_at (x ∷ items) zero lt = (x, refl)
  item_at (x ∷ items) (suc place) lt = item_at items place (omega (arith, lt))

  -- it stands there when more come behind
  kept_at : (items more : List X) (place : ℕ) → place < length items → slice_get (items ++ more) place ≡ slice_get items place
  kept_at [] more place lt = absurd (omega (arith, lt))
  kept_at (x ∷ items) more zero lt = refl
  kept_at (x ∷ items) more (suc place) lt = kept_at items more place (omega (arith, lt))

  -- places one behind another
  pub placed_append : (items : List X) (a b : List ℕ) → placed items (a ++ b) ≡ placed items a ++ placed items b
  placed_append items a b = flat_map-append (λ place. option_to_list (slice_get items place)) a b

  -- what stands at places stays there when more come behind
  pub placed_more : (items more : List X) (places : List ℕ) → All (λ place. place < length items) places → placed (items ++ more) places ≡ placed items places
  placed_more items more [] below = refl
  placed_more items more (place ∷ places) below =
      ap (λ (o : Option X). option_to_list o ++ placed (items ++ more) places) (kept_at items more place (All-head (λ place. place < length items) place places below))
      ∙ ap (λ (xs : List X). option_to_list (slice_get items place) ++ xs) (placed_more items more places (All-tail (λ place. place < length items) place places below))

  -- the item that comes behind
  last_at : (items : List X) (item : X) → slice_get (items ++ item ∷ []) (length items) ≡ Some item
  last_at [] item = refl
  last_at (x ∷ items) item = last_at items item

  -- so many as places
  pub placed_length : (items : List X) (places : List ℕ) → All (λ place. place < length items) places → length (placed items places) ≡ length places
  placed_length items [] below = refl
  placed_length items (place ∷ places) below =
      let one = item_at items place (All-head (λ place. place < length items) place places below) in
      let rest = placed_length items places (All-tail (λ place. place < length items) place places below) in
      ap (λ (o : Option X). length (option_to_list o ++ placed items places)) one.1 ∙ ap (λ (n : ℕ). suc n) rest

  -- the item at one of the places
  pub placed_get : (items : List X) (places : List ℕ) (k place : ℕ) → All (λ place. place < length items) places → slice_get places k ≡ Some place → slice_get (placed items places) k ≡ slice_get items place
  placed_get items [] k place below got = absurd (cc)
  placed_get items (first ∷ places) zero place below got =
      let one = item_at items first (All-head (λ place. place < length items) first places below) in
      ap (λ (o : Option X). slice_get (option_to_list o ++ placed items places) 0) one.1 ∙ sym one.1 ∙ ap (slice_get items) (some_is first place got)
  placed_get items (first ∷ places) (suc k) place below got =
      let one = item_at items first (All-head (λ place. place < length items) first places below) in
      ap (λ (o : Option X). slice_get (option_to_list o ++ placed items places) (suc k)) one.1 ∙ placed_get items places k place (All-tail (λ place. place < length items) first places below) got

  -- lists by places stay as they are when more items come behind
  pub lists_more : (items more : List X) (lists : List (List ℕ)) → ArePlaced items lists → map (placed (items ++ more)) lists ≡ map (placed items) lists
  lists_more items more [] below = refl
  lists_more items more (places ∷ lists) below =
      let P = All (λ place. place < length items) in
      ap (λ (xs : List X). xs ∷ map (placed (items ++ more)) lists) (placed_more items more places (All-head P places lists below))
      ∙ ap (λ (xss : List (List X)). placed items places ∷ xss) (lists_more items more lists (All-tail P places lists below))

  -- the items of one of the lists
  pub placed_at : (items : List X) (lists : List (List ℕ)) (number : ℕ) → get_or (map (placed items) lists) number [] ≡ placed items (get_or lists number [])
  placed_at items [] number = refl
  placed_at items (places ∷ lists) zero = refl
  placed_at items (places ∷ lists) (suc number) = placed_at items lists number

  -- the places of one of the lists are within
  pub below_at : (items : List X) (lists : List (List ℕ)) (number : ℕ) → ArePlaced items lists → All (λ place. place < length items) (get_or lists number [])
  below_at items [] number below = All-nil (λ place. place < length items)
  below_at items (places ∷ lists) zero below = All-head (All (λ place. place < length items)) places lists below
  below_at items (places ∷ lists) (suc number) below = below_at items lists number (All-tail (All (λ place. place < length items)) places lists below)

  -- a list has an item more, which comes behind all items
  pub add_is : (items : List X) (lists : List (List ℕ)) (number : ℕ) (item : X) → ArePlaced items lists
      → map (placed (items ++ item ∷ [])) (set lists number (get_or lists number [] ++ length items ∷ [])) ≡ set (map (placed items) lists) number (get_or (map (placed items) lists) number [] ++ item ∷ [])
  add_is items lists number item below =
      let now = items ++ item ∷ [] in
      let old = get_or lists number [] in
      map-set (placed now) lists number (old ++ length items ∷ [])
      ∙ ap (λ (xss : List (List X)). set xss number (placed now (old ++ length items ∷ []))) (lists_more items (item ∷ []) lists below)
      ∙ ap (λ (xs : List X). set (map (placed items) lists) number xs)
      (placed_append now old (length items ∷ []) ∙ ap (λ (xs : List X). xs ++ placed now (length items ∷ [])) (placed_more items (item ∷ []) old (below_at items lists number below) ∙ sym (placed_at items lists number))
      ∙ ap (λ (o : Option X). get_or (map (placed items) lists) number [] ++ (option_to_list o ++ [])) (last_at items item))

  -- the places of one of the lists, where it was got
  pub below_got : (items : List X) (lists : List (List ℕ)) (number : ℕ) (places : List ℕ) → ArePlaced items lists → slice_get lists number ≡ Some places → All (λ place. place < length items) places
  below_got items lists number places below got = subst (All (λ place. place < length items)) (get_or_from_slice_get lists number places [] got) (below_at items lists number below)

  -- its items, where all lists are seen by their items
  pub seen_at : (items : List X) (lists : List (List ℕ)) (seen : List (List X)) (number : ℕ) (places : List ℕ) → map (placed items) lists ≡ seen → slice_get lists number ≡ Some places → get_or seen number [] ≡ placed items places
  seen_at items lists seen number places is got = ap (λ (xss : List (List X)). get_or xss number []) (sym is) ∙ placed_at items lists number ∙ ap (placed items) (get_or_from_slice_get lists number places [] got)

  -- it has as many places as items
  pub many_at : (items : List X) (lists : List (List ℕ)) (seen : List (List X)) (number : ℕ) (places : List ℕ) → ArePlaced items lists → map (placed items) lists ≡ seen → slice_get lists number ≡ Some places → length (get_or seen number []) ≡ length places
  many_at items lists seen number places below is got = ap (λ (xs : List X). length xs) (seen_at items lists seen number places is got) ∙ placed_length items places (below_got items lists number places below got)

  -- the item that it has at one of its places
  pub item_got : (items : List X) (lists : List (List ℕ)) (seen : List (List X)) (number k place : ℕ) (places : List ℕ) (item : X) → ArePlaced items lists → map (placed items) lists ≡ seen → slice_get lists number ≡ Some places → slice_get places k ≡ Some place → slice_get items place ≡ Some item
      → slice_get (get_or seen number []) k ≡ Some item
  item_got items lists seen number k place places item below is got at stands =
      ap (λ (xs : List X). slice_get xs k) (seen_at items lists seen number places is got) ∙ placed_get items places k place (below_got items lists number places below got) at ∙ stands

  -- a list has an item more that stands already
  pub again_is : (items : List X) (lists : List (List ℕ)) (seen : List (List X)) (number place : ℕ) (places : List ℕ) (item : X) → map (placed items) lists ≡ seen → slice_get lists number ≡ Some places → slice_get items place ≡ Some item
      → map (placed items) (set lists number (places ++ place ∷ [])) ≡ set seen number (get_or seen number [] ++ item ∷ [])
  again_is items lists seen number place places item is got stands =
      map-set (placed items) lists number (places ++ place ∷ []) ∙ ap (λ (xss : List (List X)). set xss number (placed items (places ++ place ∷ []))) is
      ∙ ap (λ (xs : List X). set seen number xs)
      (placed_append items places (place ∷ []) ∙ ap (λ (xs : List X). xs ++ placed items (place ∷ [])) (sym (seen_at items lists seen number places is got)) ∙ ap (λ (o : Option X). get_or seen number [] ++ (option_to_list o ++ [])) stands)

  -- and is within
  pub again_below : (items : List X) (lists : List (List ℕ)) (number place : ℕ) (places : List ℕ) → ArePlaced items lists → slice_get lists number ≡ Some places → place < length items → ArePlaced items (set lists number (places ++ place ∷ []))
  again_below items lists number place places below got lt =
      let P = λ (place : ℕ). place < length items in
      All-set (All P) lists number (places ++ place ∷ []) (All-append P places (place ∷ []) (below_got items lists number places below got) (All-cons P place [] lt (All-nil P))) below

  -- a list without items has no places
  pub none_placed : (items : List X) (places : List ℕ) → All (λ place. place < length items) places → placed items places ≡ [] → places ≡ []
  none_placed items [] below none = refl
  none_placed items (place ∷ places) below none = absurd (let many = placed_length items (place ∷ places) below in let no = ap (λ (xs : List X). length xs) none in omega (arith, many, no))

  -- empty lists are empty lists of items
  pub empty_seen : (items : List X) (lists : List (List ℕ)) (number : ℕ) → get_or lists number [] ≡ [] → get_or (map (placed items) lists) number [] ≡ []
  empty_seen items lists number none = placed_at items lists number ∙ ap (placed items) none

  -- empty lists are within
  pub empty_below : (items : List X) (lists : List (List ℕ)) → ((number : ℕ) → get_or lists number [] ≡ []) → ArePlaced items lists
  empty_below items [] none = All-nil (All (λ place. place < length items))
  empty_below items (places ∷ lists) none =
      All-cons (All (λ place. place < length items)) places lists (subst (All (λ place. place < length items)) (sym (none 0)) (All-nil (λ place. place < length items))) (empty_below items lists (λ number. none (suc number)))

  -- a list is emptied
  pub cleared_is : (items : List X) (lists : List (List ℕ)) (seen : List (List X)) (number : ℕ) → map (placed items) lists ≡ seen → map (placed items) (set lists number []) ≡ set seen number []
  cleared_is items lists seen number is = map-set (placed items) lists number [] ∙ ap (λ (xss : List (List X)). set xss number []) is

  -- one place more of those that are gone through
  pub placed_step : (items : List X) (places : List ℕ) (i : ℕ) (item : X) → i < length places → slice_get items (get_or places i 0) ≡ Some item → placed items (take (i + 1) places) ≡ placed items (take i places) ++ item ∷ []
  placed_step items places i item lt stands =
      ap (placed items) (take_more places i 0 lt) ∙ placed_append items (take i places) (get_or places i 0 ∷ []) ∙ ap (λ (o : Option X). placed items (take i places) ++ (option_to_list o ++ [])) stands

  -- a list that stays is within
  pub kept_below : (items : List X) (lists : List (List ℕ)) (number : ℕ) (places : List ℕ) → ArePlaced items lists → slice_get lists number ≡ Some places → ArePlaced items (set lists number places)
  kept_below items lists number places below got = All-set (All (λ place. place < length items)) lists number places (below_got items lists number places below got) below

  -- a list ends with the item that comes behind
  pub ends_pushed : (items : List X) (item : X) → EndsWith (items ++ item ∷ []) item
  ends_pushed items item = ap (slice_get (items ++ item ∷ [])) (let many = length-append items (item ∷ []) in omega (arith, many)) ∙ last_at items item

  -- also where it is one of many
  pub ends_set : (lists new : List (List X)) (number : ℕ) (item : X) → number < length lists → new ≡ set lists number (get_or lists number [] ++ item ∷ []) → EndsWith (get_or new number []) item
  ends_set lists new number item lt is =
      let rows = get_or lists number [] ++ item ∷ [] in subst (λ (xs : List X). EndsWith xs item) (sym (ap (λ (xss : List (List X)). get_or xss number []) is ∙ get_or-set_same lists number rows [] lt)) (ends_pushed (get_or lists number []) item)

module _ (tuples : List TupleView) where
  -- places that are in order have tuples in order
  rises : (places : List ℕ) → All (λ place. place < length tuples) places → IsSortedBy (λ one other. is_lt (place_cmp tuples one other)) places → IsSorted tuple_cmp (placed tuples places)
  rises places below up k d low lt =
      let many = placed_length tuples places below in
      let here : k < length places = omega (arith, lt, many) in
      let next : k + 1 < length places = omega (arith, lt, many) in
      let P = λ (place : ℕ). place < length tuples in
      let one = item_at tuples (get_or places k 0) (All-get_or P places k 0 here below) in
      let two = item_at tuples (get_or places (k + 1) 0) (All-get_or P places (k + 1) 0 next below) in
      let at_one = get_or_from_slice_get (placed tuples places) k one.0 d (placed_get tuples places k (get_or places k 0) below (slice_get-get_or places k 0 here) ∙ one.1) in
      let at_two = get_or_from_slice_get (placed tuples places) (k + 1) two.0 d (placed_get tuples places (k + 1) (get_or places (k + 1) 0) below (slice_get-get_or places (k + 1) 0 next) ∙ two.1) in
      ap (λ (x : TupleView). is_lt (tuple_cmp x (get_or (placed tuples places) k d))) at_two ∙ ap (λ (x : TupleView). is_lt (tuple_cmp two.0 x)) at_one ∙ ap (λ (o : Option TupleView). is_lt (option_cmp tuple_cmp o (Some one.0))) (sym two.1)
      ∙ ap (λ (o : Option TupleView). is_lt (option_cmp tuple_cmp (slice_get tuples (get_or places (k + 1) 0)) o)) (sym one.1) ∙ up k 0 low next

  -- the tuples at places that were sorted by them
  pub placed_sorted : (old new : List ℕ) → All (λ place. place < length tuples) old → IsPermutation old new → IsSortedBy (λ one other. is_lt (place_cmp tuples one other)) new → placed tuples new ≡ sorted (placed tuples old)
  placed_sorted old new below permuted up =
      sorted_is tuple_cmp tuple_total tuple_exact (placed tuples old) (placed tuples new) (flat_map_permuted (λ place. option_to_list (slice_get tuples place)) old new permuted)
      (rises new (All-permutation (λ place. place < length tuples) old new permuted below) up)

  -- a list is put in order
  pub ordered_is : (lists : List (List ℕ)) (seen : List (List TupleView)) (number : ℕ) (places new : List ℕ) → map (placed tuples) lists ≡ seen → slice_get lists number ≡ Some places → placed tuples new ≡ sorted (placed tuples places)
      → map (placed tuples) (set lists number new) ≡ set seen number (sorted (get_or seen number []))
  ordered_is lists seen number places new is got in_order =
      map-set (placed tuples) lists number new ∙ ap (λ (xss : List (List TupleView)). set xss number (placed tuples new)) is ∙ ap (λ (xs : List TupleView). set seen number xs) (in_order ∙ ap sorted (sym (seen_at tuples lists seen number places is got)))

  -- the tuples at two places
  two_placed : (places : List ℕ) (p q : ℕ) (x y : TupleView) → length places ≡ 2 → slice_get places 0 ≡ Some p → slice_get places 1 ≡ Some q → slice_get tuples p ≡ Some x → slice_get tuples q ≡ Some y → placed tuples places ≡ x ∷ y ∷ []
  two_placed [] p q x y two first second is_x is_y = absurd (omega arith)
  two_placed (a ∷ []) p q x y two first second is_x is_y = absurd (omega arith)
  two_placed (a ∷ b ∷ []) p q x y two first second is_x is_y =
      let at_x = ap (slice_get tuples) (some_is a p first) ∙ is_x in
      let at_y = ap (slice_get tuples) (some_is b q second) ∙ is_y in
      ap (λ (o : Option TupleView). option_to_list o ++ (option_to_list (slice_get tuples b) ++ [])) at_x ∙ ap (λ (o : Option TupleView). x ∷ (option_to_list o ++ [])) at_y
  two_placed (a ∷ b ∷ c ∷ places) p q x y two first second is_x is_y = absurd (omega arith)

  -- they stay where they are in order
  pub two_stay : (places : List ℕ) (p q : ℕ) (x y : TupleView) → length places ≡ 2 → slice_get places 0 ≡ Some p → slice_get places 1 ≡ Some q → slice_get tuples p ≡ Some x → slice_get tuples q ≡ Some y → is_gt (tuple_cmp x y) ≡ false
      → placed tuples places ≡ sorted (placed tuples places)
  two_stay places p q x y two first second is_x is_y up =
      let now = two_placed places p q x y two first second is_x is_y in now ∙ ap (λ b. cond b (y ∷ x ∷ []) (x ∷ y ∷ [])) (sym up) ∙ ap sorted (sym now)

  -- and else change their places
  pub two_turn : (places : List ℕ) (p q : ℕ) (x y : TupleView) → length places ≡ 2 → slice_get places 0 ≡ Some p → slice_get places 1 ≡ Some q → slice_get tuples p ≡ Some x → slice_get tuples q ≡ Some y → is_gt (tuple_cmp x y) ≡ true
      → placed tuples (set (set places 0 q) 1 p) ≡ sorted (placed tuples places)
  two_turn [] p q x y two first second is_x is_y down = absurd (omega arith)
  two_turn (a ∷ []) p q x y two first second is_x is_y down = absurd (omega arith)
  two_turn (a ∷ b ∷ []) p q x y two first second is_x is_y down =
      two_placed (q ∷ p ∷ []) q p y x refl refl refl is_y is_x ∙ ap (λ t. cond t (y ∷ x ∷ []) (x ∷ y ∷ [])) (sym down) ∙ ap sorted (sym (two_placed (a ∷ b ∷ []) p q x y two first second is_x is_y))
  two_turn (a ∷ b ∷ c ∷ places) p q x y two first second is_x is_y down = absurd (omega arith)

  -- the tuple that was read at one of the places
  pub read_at : (places : List ℕ) (k place : ℕ) (item : TupleView) → All (λ place. place < length tuples) places → slice_get places k ≡ Some place → item ≡ get_or tuples place item → slice_get tuples place ≡ Some item
  read_at places k place item below got read = slice_get_read tuples (length tuples) place item refl (all_at (λ place. place < length tuples) places k place below got) read

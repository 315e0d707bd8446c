-- Orders of work by turns: the numbers of the queries, as one more comes and as one leaves.
use Rattle.std.proofs.Common.{◌≡◌, ◌≢◌, ◌∙◌, ℕ, ◌+◌, ◌<◌, ◌≤◌, List, [], ◌∷◌, ◌++◌, length, map, get_or, drop, take, suc, sym, ap, subst, arith}
use Rattle.std.proofs.Math.Seq.{get_or-append_seam}
use Rattle.std.specs.Prelude.{◌==◌, AllPairs, Contains, Some, option_map, slice_get}
use Rattle.std.specs.List.{All, position_or_len, remove}
use Rattle.std.proofs.lemmas.List.{ext_get_or, get_or-map, get_or_append_left, get_or_default, length-map, length_push, map_push}
use Rattle.std.proofs.lemmas.List.Edits.{length-remove}
use Rattle.std.proofs.lemmas.List.Elements.{All-append, All-drop, All-push, All-take, All-weaker, Contains-get_or}
use Rattle.std.proofs.lemmas.List.FromFn.{get_or-map-range_with_len, length-map-range_with_len}
use Rattle.std.proofs.lemmas.Option.{get_or_from_slice_get, slice_get-get_or, slice_get-map, slice_get_within}
use Rattle.work_order.specs.declared.turns.Turn.{Turn}
use Rattle.work_order.specs.Numbers.{AreNumbers, moved_down}
use Rattle.work_order.specs.Places.{HasPlaces}
use Rattle.work_order.specs.Turns.{AreFlips, AreTurns, Rise, first_turns, flipped, numbers_by, rank_in}
use Rattle.work_order.proofs.NumbersLemmas.{map-remove, number_small, place_in, place_is, stands_at}
use Rattle.work_order.proofs.TurnsLemmas.{flips_left, flips_more, no_turn, one_place, rank_at, rank_left, rank_of, rise_less, rise_more, stood_other}

-- a turn that is read stands there
read_there : (turns : List Turn) (place : ℕ) (turn : Turn) → slice_get turns place ≡ Some turn → Contains turns turn
read_there turns place turn read = (place, slice_get_within turns place turn read, get_or_from_slice_get turns place turn turn read)

-- what is so of all is so of those that are left
All-left : {X : Type 0} (P : X → Type 0) (xs : List X) (k : ℕ) → All P xs → All P (remove xs k)
All-left P xs k all = All-append P (take k xs) (drop (suc k) xs) (All-take P k xs all) (All-drop P (suc k) xs all)

module _ (by_place by_number : List Turn) (next : ℕ) (are : AreTurns by_place by_number next) where
  abbrev number_of : Turn → ℕ
  number_of turn = rank_in by_number turn.other

  abbrev all : List ℕ
  all = numbers_by by_place by_number

  -- a query that stands in the order of work stands in that of numbers
  pub number_there : (turn : Turn) → Contains by_place turn → (number_of turn < length by_number) × ((d : Turn) → get_or by_number (number_of turn) d ≡ flipped turn)
  number_there turn stands = rank_of by_number are.numbers_rise (flipped turn) (are.numbered turn stands)

  -- and so the other way round
  pub place_there : (turn : Turn) → Contains by_number turn → (rank_in by_place turn.other < length by_place) × ((d : Turn) → get_or by_place (rank_in by_place turn.other) d ≡ flipped turn)
  place_there turn stands = rank_of by_place are.places_rise (flipped turn) (are.placed turn stands)

  pub number_found : (place : ℕ) (turn : Turn) → slice_get by_place place ≡ Some turn → number_of turn < length by_number
  number_found place turn read = (number_there turn (read_there by_place place turn read)).0

  pub place_found : (number : ℕ) (turn : Turn) → slice_get by_number number ≡ Some turn → rank_in by_place turn.other < length by_place
  place_found number turn read = (place_there turn (read_there by_number number turn read)).0

  -- there are as many numbers as queries
  pub many : length all ≡ length by_place
  many = length-map by_place number_of

  -- the number at a place
  pub number_read : (place : ℕ) (turn : Turn) → slice_get by_place place ≡ Some turn → slice_get all place ≡ Some (number_of turn)
  number_read place turn read = slice_get-map number_of by_place place ∙ ap (option_map number_of) read

  number_at : (place d : ℕ) → place < length by_place → get_or all place d ≡ number_of (get_or by_place place no_turn)
  number_at place d within = get_or-map number_of by_place place no_turn d within

  at_place : (place : ℕ) → place < length by_place → Contains by_place (get_or by_place place no_turn)
  at_place place within = Contains-get_or by_place place no_turn within

  -- the number at the place of a query in the order of numbers is its place there
  number_back : (number : ℕ) (turn : Turn) → slice_get by_number number ≡ Some turn → get_or all (rank_in by_place turn.other) 0 ≡ number
  number_back number turn read =
      let there = place_there turn (read_there by_number number turn read) in
      number_at (rank_in by_place turn.other) 0 there.0 ∙ ap number_of (there.1 no_turn)
      ∙ ap (λ (t : Turn). rank_in by_number t.own) (sym (get_or_from_slice_get by_number number turn turn read)) ∙ rank_at by_number are.numbers_rise number turn (slice_get_within by_number number turn read)

  -- no two queries have one number
  numbers_apart : AllPairs (λ x y. x ≢ y) all
  numbers_apart i j d before inside same =
      let j_within : j < length by_place = omega (arith, inside, many) in
      let i_within : i < length by_place = omega (arith, before, j_within) in
      let first : Turn = get_or by_place i no_turn in
      let second : Turn = get_or by_place j no_turn in
      let numbers : number_of first ≡ number_of second = sym (number_at i d i_within) ∙ same ∙ number_at j d j_within in
      let flips : flipped first ≡ flipped second =
      sym ((number_there first (at_place i i_within)).1 no_turn) ∙ ap (λ n. get_or by_number n no_turn) numbers ∙ (number_there second (at_place j j_within)).1 no_turn in
      let equal : i ≡ j = one_place by_place are.places_rise i j no_turn i_within j_within (ap (λ (t : Turn). t.other) flips) in
      absurd (omega (arith, before, equal))

  number_within : (place : ℕ) → place < length by_place → get_or all place 0 < length all
  number_within place within =
      let there = number_there (get_or by_place place no_turn) (at_place place within) in
      omega (arith, there.0, number_at place 0 within, many, are.as_many)

  number_stands : (number : ℕ) → number < length all → Contains all number
  number_stands number small =
      let within : number < length by_number = omega (arith, small, many, are.as_many) in
      let turn : Turn = get_or by_number number no_turn in
      let read : slice_get by_number number ≡ Some turn = slice_get-get_or by_number number no_turn within in
      let place = place_found number turn read in
      let inside : rank_in by_place turn.other < length all = omega (arith, place, many) in
      (rank_in by_place turn.other, inside, get_or_default all (rank_in by_place turn.other) number 0 inside ∙ number_back number turn read)

  -- they are the numbers of as many queries
  pub numbers : AreNumbers all
  numbers = record {
    distinct = numbers_apart;
    all = λ number. (
      (λ has. let (k, inside, same) = has in let is : get_or all k 0 ≡ number = get_or_default all k 0 number inside ∙ same in subst (λ n. n < length all) is (number_within k (omega (arith, inside, many)))),
      (λ small. number_stands number small),
    );
  }

  -- the place of a number
  pub place_read : (number : ℕ) (turn : Turn) → slice_get by_number number ≡ Some turn → rank_in by_place turn.other ≡ position_or_len (λ other. number == other) all
  place_read number turn read =
      let place = place_found number turn read in
      sym (place_is all numbers number (rank_in by_place turn.other) (omega (arith, place, many)) (number_back number turn read))

  -- a query leaves both orders
  module _ (number place : ℕ) (small : number < length all) (place_of : place ≡ position_or_len (λ other. number == other) all) where
    within : number < length by_number
    within = omega (arith, small, many, are.as_many)

    abbrev turn : Turn
    turn = get_or by_number number no_turn

    read : slice_get by_number number ≡ Some turn
    read = slice_get-get_or by_number number no_turn within

    place_same : place ≡ rank_in by_place turn.other
    place_same = place_of ∙ sym (place_read number turn read)

    pub place_within : place < length by_place
    place_within = subst (λ n. n < length by_place) (sym place_same) (place_found number turn read)

    flip_here : get_or by_place place no_turn ≡ flipped (get_or by_number number no_turn)
    flip_here = ap (λ n. get_or by_place n no_turn) place_same ∙ (place_there turn (read_there by_number number turn read)).1 no_turn

    flip_back : get_or by_number number no_turn ≡ flipped (get_or by_place place no_turn)
    flip_back = sym (ap flipped flip_here)

    places_fewer : length (remove by_place place) + 1 ≡ length by_place
    places_fewer = length-remove by_place place place_within

    -- the turns of the others stay as they are
    pub turns_left : AreTurns (remove by_place place) (remove by_number number) next
    turns_left = record {
      as_many = omega (arith, places_fewer, length-remove by_number number within, are.as_many);
      places_rise = rise_less by_place are.places_rise place place_within;
      numbers_rise = rise_less by_number are.numbers_rise number within;
      numbered = flips_left by_place by_number are.places_rise are.numbered place number place_within within flip_back;
      placed = flips_left by_number by_place are.numbers_rise are.placed number place within place_within flip_here;
      places_below = All-left (λ turn. turn.own < next) by_place place are.places_below;
      numbers_below = All-left (λ turn. turn.own < next) by_number number are.numbers_below;
    }

    -- and by them the greater numbers are one less
    pub numbers_left : numbers_by (remove by_place place) (remove by_number number) ≡ map (moved_down number) (remove all place)
    numbers_left = ext_get_or 0 (map left_of rest) (map (moved_down number) (remove all place)) long each
      where
        rest : List Turn
        rest = remove by_place place

        left_of : Turn → ℕ
        left_of turn = rank_in (remove by_number number) turn.other

        was : remove all place ≡ map number_of rest
        was = sym (map-remove number_of by_place place place_within)

        long : length (map left_of rest) ≡ length (map (moved_down number) (remove all place))
        long = length-map rest left_of ∙ sym (length-map (remove all place) (moved_down number) ∙ ap length was ∙ length-map rest number_of)

        each : (k : ℕ) → k < length (map left_of rest) → get_or (map left_of rest) k 0 ≡ get_or (map (moved_down number) (remove all place)) k 0
        each k inside =
            let k_within : k < length rest = omega (arith, inside, length-map rest left_of) in
            let one : Turn = get_or rest k no_turn in
            let (m, m_within, other, is) = stood_other by_place by_number are.places_rise are.numbered place number place_within within flip_back one (Contains-get_or rest k no_turn k_within) in
            let own : number_of one ≡ m = ap (λ (t : Turn). rank_in by_number t.own) (sym is) ∙ rank_at by_number are.numbers_rise m (flipped one) m_within in
            get_or-map left_of rest k no_turn 0 k_within ∙ ap (λ (t : Turn). rank_in (remove by_number number) t.own) (sym is) ∙ rank_left by_number are.numbers_rise number m (flipped one) within m_within other
            ∙ ap (moved_down number) (sym own) ∙ sym (ap (λ ns. get_or (map (moved_down number) ns) k 0) was ∙ get_or-map (moved_down number) (map number_of rest) k 0 0 (omega (arith, k_within, length-map rest number_of)) ∙ ap (moved_down number) (get_or-map number_of rest k no_turn 0 k_within))

  -- a query more stands last in both orders
  abbrev last : Turn
  last = record { own = next; other = next }

  pub turns_more : AreTurns (by_place ++ last ∷ []) (by_number ++ last ∷ []) (next + 1)
  turns_more = record {
    as_many = length_push by_place last ∙ ap (λ n. n + 1) are.as_many ∙ sym (length_push by_number last);
    places_rise = rise_more by_place are.places_rise last are.places_below;
    numbers_rise = rise_more by_number are.numbers_rise last are.numbers_below;
    numbered = flips_more by_place by_number last are.numbered;
    placed = flips_more by_number by_place last are.placed;
    places_below = All-push (λ turn. turn.own < next + 1) by_place last (All-weaker (λ turn. turn.own < next) (λ turn. turn.own < next + 1) (λ turn below. omega (arith, below)) by_place are.places_below) (omega arith);
    numbers_below = All-push (λ turn. turn.own < next + 1) by_number last (All-weaker (λ turn. turn.own < next) (λ turn. turn.own < next + 1) (λ turn below. omega (arith, below)) by_number are.numbers_below) (omega arith);
  }

  -- and has the greatest number
  pub numbers_more : numbers_by (by_place ++ last ∷ []) (by_number ++ last ∷ []) ≡ all ++ length all ∷ []
  numbers_more = map_push more_of by_place last ∙ (λ i. same i ++ greatest i ∷ [])
    where
      rise : Rise (by_number ++ last ∷ [])
      rise = rise_more by_number are.numbers_rise last are.numbers_below

      more_of : Turn → ℕ
      more_of turn = rank_in (by_number ++ last ∷ []) turn.other

      inside : (m : ℕ) → m ≤ length by_number → m < length (by_number ++ last ∷ [])
      inside m up = omega (arith, up, length_push by_number last)

      greatest : more_of last ≡ length all
      greatest =
          let here : get_or (by_number ++ last ∷ []) (length by_number) no_turn ≡ last = get_or-append_seam by_number last [] no_turn in
          ap (λ (t : Turn). rank_in (by_number ++ last ∷ []) t.own) (sym here) ∙ rank_at (by_number ++ last ∷ []) rise (length by_number) no_turn (inside (length by_number) (omega arith)) ∙ sym are.as_many ∙ sym many

      same : map more_of by_place ≡ all
      same = ext_get_or 0 (map more_of by_place) all (length-map by_place more_of ∙ sym many) each
        where
          each : (k : ℕ) → k < length (map more_of by_place) → get_or (map more_of by_place) k 0 ≡ get_or all k 0
          each k k_inside =
              let k_within : k < length by_place = omega (arith, k_inside, length-map by_place more_of) in
              let one : Turn = get_or by_place k no_turn in
              let there = number_there one (at_place k k_within) in
              let m : ℕ = number_of one in
              let stays : get_or (by_number ++ last ∷ []) m no_turn ≡ flipped one = get_or_append_left by_number (last ∷ []) no_turn m there.0 ∙ there.1 no_turn in
              get_or-map more_of by_place k no_turn 0 k_within ∙ ap (λ (t : Turn). rank_in (by_number ++ last ∷ []) t.own) (sym stays)
              ∙ rank_at (by_number ++ last ∷ []) rise m no_turn (inside m (omega (arith, there.0))) ∙ sym (number_at k 0 k_within)

-- the first turns: each one's own is its place
module _ (others : List ℕ) (many : ℕ) where
  first_at : (k : ℕ) (d : Turn) → k < many → get_or (first_turns others many) k d ≡ record { own = k; other = get_or others k 0 }
  first_at k d within = get_or-map-range_with_len (λ own. record { own = own; other = get_or others own 0 }) 0 many k k d within (omega arith)

  first_long : length (first_turns others many) ≡ many
  first_long = length-map-range_with_len (λ own. record { own = own; other = get_or others own 0 }) 0 many

  first_own : (k : ℕ) (d : Turn) → k < length (first_turns others many) → (get_or (first_turns others many) k d).own ≡ k
  first_own k d within = ap (λ (t : Turn). t.own) (first_at k d (omega (arith, within, first_long)))

  first_rise : Rise (first_turns others many)
  first_rise i j d before within = omega (arith, first_own i d (omega (arith, before, within)), first_own j d within, before)

  first_below : All (λ turn. turn.own < many) (first_turns others many)
  first_below k d within = omega (arith, first_own k d within, within, first_long)

-- turns by numbers that are each other's places
first_flips : (xs ys : List ℕ) (many : ℕ) → ((k : ℕ) → k < many → (get_or xs k 0 < many) × (get_or ys (get_or xs k 0) 0 ≡ k)) → AreFlips (first_turns xs many) (first_turns ys many)
first_flips xs ys many back turn (k, inside, same) =
    let k_within : k < many = omega (arith, inside, first_long xs many) in
    let m : ℕ = get_or xs k 0 in
    let is : record { own = k; other = m } ≡ turn = sym (first_at xs many k turn k_within) ∙ same in
    let m_within : m < many = (back k k_within).0 in
    (m, omega (arith, m_within, first_long ys many), first_at ys many m (flipped turn) m_within ∙ ap (λ n. record { own = m; other = n }) (back k k_within).1 ∙ ap flipped is)

module _ (numbers places : List ℕ) (are : AreNumbers numbers) (placed : HasPlaces numbers places) where
  by_numbers : (k : ℕ) → k < length numbers → (get_or numbers k 0 < length numbers) × (get_or places (get_or numbers k 0) 0 ≡ k)
  by_numbers k within = (number_small numbers are k within, placed.there k within)

  by_places : (k : ℕ) → k < length numbers → (get_or places k 0 < length numbers) × (get_or numbers (get_or places k 0) 0 ≡ k)
  by_places k within =
      let (inside, is) = stands_at numbers are k within in
      let here : get_or places k 0 ≡ place_in numbers are k = ap (λ n. get_or places n 0) (sym is) ∙ placed.there (place_in numbers are k) inside in
      (subst (λ n. n < length numbers) (sym here) inside, ap (λ n. get_or numbers n 0) here ∙ is)

  -- an order of work of numbers
  pub first_are : AreTurns (first_turns numbers (length numbers)) (first_turns places (length numbers)) (length numbers)
  first_are = record {
    as_many = first_long numbers (length numbers) ∙ sym (first_long places (length numbers));
    places_rise = first_rise numbers (length numbers);
    numbers_rise = first_rise places (length numbers);
    numbered = first_flips numbers places (length numbers) by_numbers;
    placed = first_flips places numbers (length numbers) by_places;
    places_below = first_below numbers (length numbers);
    numbers_below = first_below places (length numbers);
  }

  -- which are these
  pub first_numbers : numbers_by (first_turns numbers (length numbers)) (first_turns places (length numbers)) ≡ numbers
  first_numbers = ext_get_or 0 (map number_of (first_turns numbers (length numbers))) numbers (length-map (first_turns numbers (length numbers)) number_of ∙ first_long numbers (length numbers)) each
    where
      number_of : Turn → ℕ
      number_of turn = rank_in (first_turns places (length numbers)) turn.other

      each : (k : ℕ) → k < length (map number_of (first_turns numbers (length numbers))) → get_or (map number_of (first_turns numbers (length numbers))) k 0 ≡ get_or numbers k 0
      each k inside =
          let within : k < length numbers = omega (arith, inside, length-map (first_turns numbers (length numbers)) number_of, first_long numbers (length numbers)) in
          let m : ℕ = get_or numbers k 0 in
          let m_within : m < length (first_turns places (length numbers)) = omega (arith, (by_numbers k within).0, first_long places (length numbers)) in
          get_or-map number_of (first_turns numbers (length numbers)) k no_turn 0 (omega (arith, within, first_long numbers (length numbers))) ∙ ap number_of (first_at numbers (length numbers) k no_turn within)
          ∙ ap (rank_in (first_turns places (length numbers))) (sym (first_own places (length numbers) m no_turn m_within)) ∙ rank_at (first_turns places (length numbers)) (first_rise places (length numbers)) m no_turn m_within

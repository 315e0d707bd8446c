-- The numbers of queries and their places, and the numbers once one of the queries has left.
use Rattle.std.proofs.Common.{◌≡◌, ◌≢◌, ◌∙◌, ℕ, zero, suc, ◌+◌, ◌-◌, ◌<◌, ◌≤◌, List, [], ◌∷◌, ◌++◌, cond, length, map, get_or, set, take, refl, sym, ap, subst, inl, inr, arith, length-set, get_or-set_same, get_or-set_other}
use Rattle.std.specs.Prelude.{◌==◌, AllPairs, Some, slice_get}
use Rattle.std.specs.List.{position_or_len, remove}
use Rattle.std.proofs.Math.Seq.{get_or-append_seam}
use Rattle.std.proofs.lemmas.Bool.{cases_eq, le-ltb, lt-ltb}
use Rattle.std.proofs.lemmas.List.{ext_get_or, get_or-map, get_or-take, get_or_default, length-map, length-take-le, length_push}
use Rattle.std.proofs.lemmas.List.Edits.{get_or-remove_below, length-remove}
use Rattle.std.proofs.lemmas.List.Elements.{Contains-get_or}
use Rattle.std.proofs.lemmas.List.Sums.{position_or_len_is}
use Rattle.std.proofs.lemmas.Option.{slice_get-get_or}
use Rattle.event_types.proofs.NumberLemmas.{is_other, self_equal}
use Rattle.work_order.specs.Numbers.{AreNumbers, moved_down}
use Rattle.work_order.specs.Places.{HasFirstPlaces}

-- a number up to that one stays
pub moved_low : (gone number : ℕ) → number ≤ gone → moved_down gone number ≡ number
moved_low gone number below = ap (λ b. cond b (number - 1) number) (le-ltb gone number below)

-- a greater one is one less
pub moved_high : (gone number : ℕ) → gone < number → moved_down gone number ≡ number - 1
moved_high gone number above = ap (λ b. cond b (number - 1) number) (lt-ltb gone number above)

-- the images of what is left: by induction on the place of what isn't
pub map-remove : {X Y : Type 0} (f : X → Y) (xs : List X) (k : ℕ) → k < length xs → map f (remove xs k) ≡ remove (map f xs) k
map-remove f [] k within = absurd (omega (arith, within))
map-remove f (x ∷ xs) zero within = refl
map-remove f (x ∷ xs) (suc k) within = ap (λ ys. f x ∷ ys) (map-remove f xs k (omega (arith, within)))

-- where a number more was put last it is the greatest
pub added_last : (order now : List ℕ) → now ≡ order ++ length order ∷ [] → slice_get now (length now - 1) ≡ Some (length now - 1)
added_last order now is =
    let many : length now - 1 ≡ length order = omega (arith, ap length is, length_push order (length order)) in
    let inside : length order < length now = omega (arith, ap length is, length_push order (length order)) in
    ap (slice_get now) many ∙ slice_get-get_or now (length order) 0 inside ∙ ap Some (ap (λ ns. get_or ns (length order) 0) is ∙ get_or-append_seam order (length order) [] 0 ∙ sym many)

-- one place more is put
pub HasFirstPlaces-set : (numbers places : List ℕ) (many number : ℕ) → AllPairs (λ x y. x ≢ y) numbers → many < length numbers → get_or numbers many 0 ≡ number → number < length numbers
    → HasFirstPlaces numbers places many → HasFirstPlaces numbers (set places number many) (many + 1)
HasFirstPlaces-set numbers places many number distinct within is small was = record {
  long = length-set places number many ∙ was.long;
  there = λ place before.
      let long : length places ≡ length numbers = was.long in
      elim (cases_eq place many) [
        | inl same ↦ ap (λ n. get_or (set places number many) n 0) (ap (λ p. get_or numbers p 0) same ∙ is) ∙ get_or-set_same places number many 0 (omega arith) ∙ sym same
        | inr other ↦
            let earlier : place < many = omega arith in
            let apart : get_or numbers place 0 ≢ number = λ same. distinct place many 0 earlier within (same ∙ sym is) in
            get_or-set_other places number (get_or numbers place 0) many 0 apart ∙ was.there place earlier
      ];
}

module _ (order : List ℕ) (are : AreNumbers order) where
  abbrev pub place_in : ℕ → ℕ
  place_in number = position_or_len (λ other. number == other) order

  -- a number's place is where it stands
  pub place_is : (number k : ℕ) → k < length order → get_or order k 0 ≡ number → place_in number ≡ k
  place_is number k within is =
      position_or_len_is (λ other. number == other) order k 0 (omega (arith, within)) (λ j before. is_other number (get_or order j 0) (λ same. are.distinct j k 0 before within (sym same ∙ sym is)))
      (λ inside. ap (λ n. number == n) is ∙ self_equal number)

  -- a place is that of its number
  pub place_back : (k : ℕ) → k < length order → place_in (get_or order k 0) ≡ k
  place_back k within = place_is (get_or order k 0) k within refl

  -- a number stands at its place
  pub stands_at : (number : ℕ) → number < length order → (place_in number < length order) × (get_or order (place_in number) 0 ≡ number)
  stands_at number small =
      let (k, within, same) = (are.all number).1 small in
      let here : get_or order k 0 ≡ number = sym (get_or_default order k number 0 within) ∙ same in
      let is : place_in number ≡ k = place_is number k within here in
      (subst (λ n. n < length order) (sym is) within, ap (λ n. get_or order n 0) is ∙ here)

  -- each number is below how many there are
  pub number_small : (k : ℕ) → k < length order → get_or order k 0 < length order
  number_small k within = (are.all (get_or order k 0)).0 (Contains-get_or order k 0 within)

  -- where the greatest number is the last one the others stay as it leaves
  pub last_left : (last : ℕ) → last + 1 ≡ length order → get_or order last 0 ≡ last → map (moved_down last) (remove order (place_in last)) ≡ take last order
  last_left last many is = ap (λ k. map (moved_down last) (remove order k)) here ∙ ext_get_or 0 (map (moved_down last) (remove order last)) (take last order) long each
    where
      within : last < length order
      within = omega (arith, many)

      here : place_in last ≡ last
      here = place_is last last within is

      left : length (map (moved_down last) (remove order last)) ≡ last
      left = omega (arith, length-map (remove order last) (moved_down last), length-remove order last within, many)

      long : length (map (moved_down last) (remove order last)) ≡ length (take last order)
      long = left ∙ sym (length-take-le last order (omega (arith, within)))

      each : (k : ℕ) → k < length (map (moved_down last) (remove order last)) → get_or (map (moved_down last) (remove order last)) k 0 ≡ get_or (take last order) k 0
      each k inside =
          let before : k < last = omega (arith, inside, left) in
          let same : get_or (remove order last) k 0 ≡ get_or order k 0 = get_or-remove_below order last 0 k before within in
          let small = number_small k (omega (arith, before, within)) in
          let low : get_or order k 0 ≤ last = omega (arith, small, many) in
          get_or-map (moved_down last) (remove order last) k 0 0 (omega (arith, before, length-remove order last within, many))
          ∙ ap (moved_down last) same ∙ moved_low last (get_or order k 0) low ∙ sym (get_or-take last order k 0 before)

-- Items that are found by halves, since later ones have greater keys.
use Rattle.std.proofs.Common.{◌≡◌, ◌≢◌, ◌∙◌, ℕ, zero, suc, ◌+◌, ◌<◌, ◌≤◌, List, [], ◌∷◌, Bool, length, get_or, refl, sym, ap, true, false, inl, inr, arith}
use Rattle.std.specs.Prelude.{◌==◌, AllPairs, None, Some, option_map, position, slice_get}
use Rattle.std.proofs.lemmas.Bool.{cases_lt}
use Rattle.std.proofs.lemmas.Option.{get_or_from_slice_get}
use Rattle.event_types.proofs.NumberLemmas.{is_other, self_equal}
use Rattle.stream_schema.proofs.PlaceLemmas.{position-here, position-past}

-- the place of the first item that passes a test
position_is : {X : Type 0} (p : X → Bool) (xs : List X) (k : ℕ) (d : X) → k < length xs → p (get_or xs k d) ≡ true → ((j : ℕ) → j < k → p (get_or xs j d) ≡ false) → position p xs ≡ Some k
position_is p [] k d within here before = absurd (omega (arith, within))
position_is p (x ∷ xs) zero d within here before = position-here p x xs here
position_is p (x ∷ xs) (suc k) d within here before =
    position-past p x xs (before 0 (omega arith)) ∙ ap (option_map suc) (position_is p xs k d (omega (arith, within)) here (λ j less. before (suc j) (omega (arith, less))))

-- there is none where no item passes it
position_none : {X : Type 0} (p : X → Bool) (xs : List X) (d : X) → ((j : ℕ) → j < length xs → p (get_or xs j d) ≡ false) → position p xs ≡ None
position_none p [] d none = refl
position_none p (x ∷ xs) d none = position-past p x xs (none 0 (omega arith)) ∙ ap (option_map suc) (position_none p xs d (λ j less. none (suc j) (omega (arith, less))))

-- the items before a place have less keys than the wanted one, and those from another on have no less ones
pub record IsBetween {X : Type 0} (key : X → ℕ) (items : List X) (wanted first end : ℕ) : Type 0 where
  pub up : first ≤ end
  pub within : end ≤ length items
  pub less : (place : ℕ) (d : X) → place < first → key (get_or items place d) < wanted
  pub more : (place : ℕ) (d : X) → end ≤ place → place < length items → wanted ≤ key (get_or items place d)

module _ {X : Type 0} (key : X → ℕ) (items : List X) (rises : AllPairs (λ earlier later. key earlier < key later) items) (wanted : ℕ) where
  keys_rise : (i j : ℕ) (d : X) → i ≤ j → j < length items → key (get_or items i d) ≤ key (get_or items j d)
  keys_rise i j d up within = elim (cases_lt i j) [
    | inl less ↦ (let greater = rises i j d less within in omega (arith, greater))
    | inr past ↦ (let same : i ≡ j = omega (arith, up, past) in let equal = ap (λ k. key (get_or items k d)) same in omega (arith, equal))
  ]

  module _ (first end : ℕ) (between : IsBetween key items wanted first end) (middle : ℕ) (item : X) (low : first ≤ middle) (high : middle < end) (there : slice_get items middle ≡ Some item) where
    inside : middle < length items
    inside = omega (arith, high, between.within)

    here : (d : X) → get_or items middle d ≡ item
    here d = get_or_from_slice_get items middle item d there

    -- an item between them has a less key, and so have those before it
    pub below : key item < wanted → IsBetween key items wanted (middle + 1) end
    below lesser = record {
      up = omega (arith, high);
      within = between.within;
      less = λ place d before. (let rise = keys_rise place middle d (omega (arith, before)) inside in omega (arith, rise, ap key (here d), lesser));
      more = between.more;
    }

    -- or no less one, and so have those behind it
    pub above : wanted ≤ key item → IsBetween key items wanted first middle
    above greater = record {
      up = low;
      within = omega (arith, inside);
      less = between.less;
      more = λ place d up behind. (let rise = keys_rise middle place d up behind in omega (arith, rise, ap key (here d), greater));
    }

  module _ (place end : ℕ) (between : IsBetween key items wanted place end) (met : end ≤ place) where
    -- where both places meet the item there is the wanted one, if it has the key
    pub found_there : (item : X) → slice_get items place ≡ Some item → key item ≡ wanted → place < length items → position (λ x. key x == wanted) items ≡ Some place
    found_there item there same within =
        position_is (λ x. key x == wanted) items place item within (ap (λ x. key x == wanted) (get_or_from_slice_get items place item item there) ∙ ap (λ n. n == wanted) same ∙ self_equal wanted)
        (λ j before. is_other (key (get_or items j item)) wanted (λ equal. (let lesser = between.less j item before in absurd (omega (arith, lesser, equal)))))

    -- else none has it
    pub none_there : (item : X) → slice_get items place ≡ Some item → key item ≢ wanted → place < length items → position (λ x. key x == wanted) items ≡ None
    none_there item there other within =
        position_none (λ x. key x == wanted) items item (λ j inside. is_other (key (get_or items j item)) wanted (λ equal. elim (cases_lt j place) [
          | inl before ↦ (let lesser = between.less j item before in absurd (omega (arith, lesser, equal)))
          | inr past ↦ elim (cases_lt place j) [
            | inl behind ↦
                let greater = rises place j item behind inside in
                let least = between.more place item met within in
                absurd (omega (arith, greater, least, equal))
            | inr up ↦
                let same : j ≡ place = omega (arith, past, up) in
                absurd (other (sym (ap key (get_or_from_slice_get items place item item there)) ∙ ap (λ k. key (get_or items k item)) (sym same) ∙ equal))
          ]
        ]))

    -- and none where there is no item
    pub none_behind : length items ≤ place → position (λ x. key x == wanted) items ≡ None
    none_behind past = none_of items refl
      where
        none_of : (all : List X) → all ≡ items → position (λ x. key x == wanted) items ≡ None
        none_of [] is = sym (ap (position (λ x. key x == wanted)) is)
        none_of (item ∷ rest) is =
            position_none (λ x. key x == wanted) items item (λ j inside. is_other (key (get_or items j item)) wanted (λ equal. (let lesser = between.less j item (omega (arith, inside, past)) in absurd (omega (arith, lesser, equal)))))

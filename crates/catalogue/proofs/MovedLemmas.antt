-- The numbers of queries once one of them has left.
use Rattle.std.proofs.Common.{◌≡◌, ◌≢◌, ◌∙◌, ℕ, ◌+◌, ◌-◌, ◌<◌, ◌≤◌, List, length, map, get_or, refl, sym, ap, subst, inl, inr, arith}
use Rattle.std.specs.Prelude.{◌⊎◌, AllPairs, Contains}
use Rattle.std.specs.List.{remove}
use Rattle.std.proofs.lemmas.Bool.{cases_lt}
use Rattle.std.proofs.lemmas.List.{get_or-map, get_or_default, length-map}
use Rattle.std.proofs.lemmas.List.Edits.{get_or-remove_above, get_or-remove_below, length-remove}
use Rattle.std.proofs.lemmas.List.Elements.{Contains-get_or}
use Rattle.std.proofs.lemmas.List.Quantifiers.{all_pairs_remove}
use Rattle.semantics.specs.Programs.{Query}
use Rattle.work_order.specs.Numbers.{AreNumbers, moved_down}
use Rattle.work_order.proofs.NumbersLemmas.{moved_high, moved_low, place_in, stands_at}

-- which of two ways another number goes
side : (gone number : ℕ) → number ≢ gone → ((number < gone) × (moved_down gone number ≡ number)) ⊎ ((gone < number) × (moved_down gone number ≡ number - 1))
side gone number other = elim (cases_lt number gone) [
  | inl below ↦ inl (below, moved_low gone number (omega (arith, below)))
  | inr past ↦ elim (cases_lt gone number) [
    | inl above ↦ inr (above, moved_high gone number above)
    | inr equal ↦ absurd (other (omega (arith, past, equal)))
  ]
]

-- different numbers stay different
moved_apart : (gone x y : ℕ) → x ≢ gone → y ≢ gone → x ≢ y → moved_down gone x ≢ moved_down gone y
moved_apart gone x y x_other y_other other same = elim (side gone x x_other) [
  | inl x_low ↦ elim (side gone y y_other) [
    | inl y_low ↦ other (sym x_low.1 ∙ same ∙ y_low.1)
    | inr y_high ↦ (let equal : x ≡ y - 1 = sym x_low.1 ∙ same ∙ y_high.1 in absurd (omega (arith, equal, x_low.0, y_high.0)))
  ]
  | inr x_high ↦ elim (side gone y y_other) [
    | inl y_low ↦ (let equal : x - 1 ≡ y = sym x_high.1 ∙ same ∙ y_low.1 in absurd (omega (arith, equal, x_high.0, y_low.0)))
    | inr y_high ↦ (let equal : x - 1 ≡ y - 1 = sym x_high.1 ∙ same ∙ y_high.1 in other (omega (arith, equal, x_high.0, y_high.0)))
  ]
]

module _ (order : List ℕ) (are : AreNumbers order) where
  module _ (gone : ℕ) (small : gone < length order) where
    abbrev at : ℕ
    at = place_in order are gone

    abbrev rest : List ℕ
    rest = remove order at

    abbrev pub left : List ℕ
    left = map (moved_down gone) rest

    at_within : at < length order
    at_within = (stands_at order are gone small).0

    pub left_many : length left + 1 ≡ length order
    left_many = ap (λ n. n + 1) (length-map rest (moved_down gone)) ∙ length-remove order at at_within

    rest_many : length rest + 1 ≡ length order
    rest_many = length-remove order at at_within

    -- none of the others is the number
    rest_other : (k : ℕ) → k < length rest → get_or rest k 0 ≢ gone
    rest_other k inside same = elim (cases_lt k at) [
      | inl before ↦ are.distinct k at 0 before at_within (sym (get_or-remove_below order at 0 k before at_within) ∙ same ∙ sym (stands_at order are gone small).1)
      | inr past ↦
          are.distinct at (k + 1) 0 (omega (arith, past)) (omega (arith, inside, rest_many)) ((stands_at order are gone small).1 ∙ sym same ∙ get_or-remove_above order at 0 k past at_within)
    ]

    rest_small : (k : ℕ) → k < length rest → get_or rest k 0 < length order
    rest_small k inside = elim (cases_lt k at) [
      | inl before ↦ subst (λ n. n < length order) (sym (get_or-remove_below order at 0 k before at_within)) ((are.all (get_or order k 0)).0 (Contains-get_or order k 0 (omega (arith, inside, rest_many))))
      | inr past ↦ subst (λ n. n < length order) (sym (get_or-remove_above order at 0 k past at_within)) ((are.all (get_or order (k + 1) 0)).0 (Contains-get_or order (k + 1) 0 (omega (arith, inside, rest_many))))
    ]

    left_at : (k : ℕ) (d : ℕ) → k < length left → get_or left k d ≡ moved_down gone (get_or rest k 0)
    left_at k d inside = get_or-map (moved_down gone) rest k 0 d (omega (arith, inside, length-map rest (moved_down gone)))

    rest_inside : (k : ℕ) → k < length left → k < length rest
    rest_inside k inside = omega (arith, inside, length-map rest (moved_down gone))

    left_apart : AllPairs (λ x y. x ≢ y) left
    left_apart i j d before inside same =
        let i_inside = rest_inside i (omega (arith, before, inside)) in
        let j_inside = rest_inside j inside in
        moved_apart gone (get_or rest i 0) (get_or rest j 0) (rest_other i i_inside) (rest_other j j_inside) (all_pairs_remove (λ x y. x ≢ y) order at at_within are.distinct i j 0 before j_inside)
        (sym (left_at i d (omega (arith, before, inside))) ∙ same ∙ left_at j d inside)

    left_small : (k : ℕ) → k < length left → get_or left k 0 < length left
    left_small k inside =
        let k_inside = rest_inside k inside in
        let is = left_at k 0 inside in
        let low = rest_small k k_inside in
        elim (side gone (get_or rest k 0) (rest_other k k_inside)) [
          | inl below ↦ omega (arith, is, below.0, below.1, small, left_many)
          | inr above ↦ omega (arith, is, above.0, above.1, low, left_many)
        ]

    -- another number has its place among the others
    module _ (number : ℕ) (within : number < length order) (other : number ≢ gone) where
      abbrev was : ℕ
      was = place_in order are number

      was_other : was ≢ at
      was_other same = other (sym (stands_at order are number within).1 ∙ ap (λ n. get_or order n 0) same ∙ (stands_at order are gone small).1)

      -- where it stands then
      pub found : (k : ℕ) × (k < length rest) × (get_or rest k 0 ≡ number) × ((ys : List Query) (d : Query) → length ys ≡ length order → get_or (remove ys at) k d ≡ get_or ys was d)
      found = elim (cases_lt was at) [
        | inl before ↦ (
          was,
          omega (arith, before, at_within, rest_many),
          get_or-remove_below order at 0 was before at_within ∙ (stands_at order are number within).1,
          λ ys d long. get_or-remove_below ys at d was before (omega (arith, long, at_within)),
        )
        | inr past ↦
            let above : at < was = elim (cases_lt at was) [ inl less ↦ less | inr equal ↦ absurd (was_other (omega (arith, past, equal))) ] in
            let back : was - 1 + 1 ≡ was = omega (arith, above) in (
              was - 1,
              omega (arith, (stands_at order are number within).0, above, rest_many),
              get_or-remove_above order at 0 (was - 1) (omega (arith, above)) at_within ∙ ap (λ n. get_or order n 0) back ∙ (stands_at order are number within).1,
              λ ys d long. get_or-remove_above ys at d (was - 1) (omega (arith, above)) (omega (arith, long, at_within)) ∙ ap (λ n. get_or ys n d) back,
            )
      ]

      moved_there : Contains left (moved_down gone number)
      moved_there =
          let (k, inside, is, same) = found in
          let k_inside : k < length left = omega (arith, inside, length-map rest (moved_down gone)) in
          (k, k_inside, left_at k (moved_down gone number) k_inside ∙ ap (moved_down gone) is)

    -- the number before it moved
    pub before_move : (number : ℕ) → number < length left → (old : ℕ) × (old < length order) × (old ≢ gone) × (moved_down gone old ≡ number) × ((old ≡ number) × (number < gone) ⊎ (old ≡ number + 1) × (gone ≤ number))
    before_move number within = elim (cases_lt number gone) [
      | inl below ↦ (number, omega (arith, within, left_many), (λ same. absurd (omega (arith, same, below))), moved_low gone number (omega (arith, below)), inl (refl, below))
      | inr past ↦ (
        number + 1,
        omega (arith, within, left_many),
        (λ same. absurd (omega (arith, same, past))),
        (let less : gone < number + 1 = omega (arith, past) in let down : number + 1 - 1 ≡ number = omega arith in moved_high gone (number + 1) less ∙ down),
        inr (refl, past),
      )
    ]

    -- they are the numbers below how many are left
    pub left_numbers : AreNumbers left
    left_numbers = record {
      distinct = left_apart;
      all = λ number. (
        (λ has. let (k, inside, same) = has in let is : get_or left k 0 ≡ number = sym (get_or_default left k number 0 inside) ∙ same in subst (λ n. n < length left) is (left_small k inside)),
        (λ within. let (old, small_old, other, moved, which) = before_move number within in subst (Contains left) moved (moved_there old small_old other)),
      );
    }

-- Turns that rise: where one of them stands, in an order and in the other one.
use Rattle.std.proofs.Common.{◌≡◌, ◌≢◌, ◌∙◌, ℕ, ◌+◌, ◌-◌, ◌<◌, ◌≤◌, List, [], ◌∷◌, ◌++◌, length, get_or, sym, ap, subst, inl, inr, arith}
use Rattle.std.specs.Prelude.{◌==◌, Contains, Some, slice_get}
use Rattle.std.specs.List.{All, remove}
use Rattle.std.proofs.lemmas.Bool.{cases_lt}
use Rattle.std.proofs.lemmas.List.{get_or_default}
use Rattle.std.proofs.lemmas.List.Edits.{get_or-remove_above, get_or-remove_below, length-remove}
use Rattle.std.proofs.lemmas.List.Elements.{Contains-append_cases, Contains-append_left, Contains-append_right}
use Rattle.std.proofs.lemmas.List.Quantifiers.{all_pairs_push, all_pairs_remove}
use Rattle.std.proofs.lemmas.List.Sums.{passes_at_first, position_or_len_is}
use Rattle.std.proofs.lemmas.Option.{get_or_from_slice_get, slice_get_within}
use Rattle.event_types.proofs.NumberLemmas.{is_other, same_number, self_equal}
use Rattle.work_order.specs.declared.turns.Turn.{Turn}
use Rattle.work_order.specs.Numbers.{moved_down}
use Rattle.work_order.specs.Turns.{AreFlips, Rise, flipped, rank_in}
use Rattle.work_order.proofs.NumbersLemmas.{moved_high, moved_low}

-- a turn that stands nowhere
pub no_turn : Turn
no_turn = record { own = 0; other = 0 }

module _ (turns : List Turn) (rise : Rise turns) where
  -- one turn stands at one place
  pub one_place : (i j : ℕ) (d : Turn) → i < length turns → j < length turns → (get_or turns i d).own ≡ (get_or turns j d).own → i ≡ j
  one_place i j d i_within j_within same = elim (cases_lt i j) [
    | inl less ↦ (let greater = rise i j d less j_within in absurd (omega (arith, greater, same)))
    | inr past ↦ elim (cases_lt j i) [
      | inl less ↦ (let greater = rise j i d less i_within in absurd (omega (arith, greater, same)))
      | inr up ↦ omega (arith, past, up)
    ]
  ]

  -- the turn at a place is found there
  pub rank_at : (k : ℕ) (d : Turn) → k < length turns → rank_in turns (get_or turns k d).own ≡ k
  rank_at k d within =
      position_or_len_is (λ turn. (get_or turns k d).own == turn.own) turns k d (omega (arith, within))
      (λ j before. is_other (get_or turns k d).own (get_or turns j d).own (λ same. (let greater = rise j k d before within in absurd (omega (arith, greater, same))))) (λ inside. self_equal (get_or turns k d).own)

  -- a turn that stands somewhere is found there
  pub rank_of : (turn : Turn) → Contains turns turn → (rank_in turns turn.own < length turns) × ((d : Turn) → get_or turns (rank_in turns turn.own) d ≡ turn)
  rank_of turn (k, within, same) =
      let is : rank_in turns turn.own ≡ k = ap (λ (t : Turn). rank_in turns t.own) (sym same) ∙ rank_at k turn within in
      (subst (λ n. n < length turns) (sym is) within, λ d. ap (λ n. get_or turns n d) is ∙ get_or_default turns k d turn within ∙ same)

  -- later ones are no less
  own_up : (i j : ℕ) (d : Turn) → i ≤ j → j < length turns → (get_or turns i d).own ≤ (get_or turns j d).own
  own_up i j d up within = elim (cases_lt i j) [
    | inl less ↦ (let greater = rise i j d less within in omega (arith, greater))
    | inr past ↦ (let same : i ≡ j = omega (arith, up, past) in let equal = ap (λ k. (get_or turns k d).own) same in omega (arith, equal))
  ]

  module _ (own : ℕ) (there : rank_in turns own < length turns) (middle : ℕ) (turn : Turn) (read : slice_get turns middle ≡ Some turn) where
    within : middle < length turns
    within = slice_get_within turns middle turn read

    own_there : (get_or turns (rank_in turns own) turn).own ≡ own
    own_there = sym (same_number own (get_or turns (rank_in turns own) turn).own (passes_at_first (λ turn. own == turn.own) turns turn there))

    own_here : (get_or turns middle turn).own ≡ turn.own
    own_here = ap (λ (t : Turn). t.own) (get_or_from_slice_get turns middle turn turn read)

    -- a turn stands behind a lesser one
    pub rank_behind : turn.own < own → middle < rank_in turns own
    rank_behind less = elim (cases_lt middle (rank_in turns own)) [
      | inl before ↦ before
      | inr past ↦ (let up = own_up (rank_in turns own) middle turn past within in absurd (omega (arith, up, less, own_there, own_here)))
    ]

    -- no further than one that isn't less
    pub rank_up_to : own ≤ turn.own → rank_in turns own ≤ middle
    rank_up_to up = elim (cases_lt middle (rank_in turns own)) [
      | inl before ↦ (let greater = rise middle (rank_in turns own) turn before there in absurd (omega (arith, greater, up, own_there, own_here)))
      | inr past ↦ past
    ]

    -- and where it is the same
    pub rank_here : turn.own ≡ own → middle ≡ rank_in turns own
    rank_here same = one_place middle (rank_in turns own) turn within there (own_here ∙ same ∙ sym own_there)

  -- one turn more is above all
  pub rise_more : (turn : Turn) → All (λ earlier. earlier.own < turn.own) turns → Rise (turns ++ turn ∷ [])
  rise_more turn above = all_pairs_push (λ earlier later. earlier.own < later.own) turns turn rise above

  -- and one less
  pub rise_less : (k : ℕ) → k < length turns → Rise (remove turns k)
  rise_less k within = all_pairs_remove (λ earlier later. earlier.own < later.own) turns k within rise

-- another turn stays
stays : (turns : List Turn) (gone k : ℕ) (d : Turn) → gone < length turns → k < length turns → k ≢ gone
    → (j : ℕ) × (j < length (remove turns gone)) × (get_or (remove turns gone) j d ≡ get_or turns k d) × (j ≡ moved_down gone k)
stays turns gone k d gone_within within other = elim (cases_lt k gone) [
  | inl before ↦ (k, omega (arith, before, gone_within, length-remove turns gone gone_within), get_or-remove_below turns gone d k before gone_within, sym (moved_low gone k (omega (arith, before))))
  | inr past ↦ elim (cases_lt gone k) [
    | inl behind ↦
        let back : k - 1 + 1 ≡ k = omega (arith, behind) in (
          k - 1,
          omega (arith, behind, within, length-remove turns gone gone_within),
          get_or-remove_above turns gone d (k - 1) (omega (arith, behind)) gone_within ∙ ap (λ n. get_or turns n d) back,
          sym (moved_high gone k behind),
        )
    | inr up ↦ absurd (other (omega (arith, past, up)))
  ]
]

-- one that is left stood at another place
stood : (turns : List Turn) (gone : ℕ) → gone < length turns → (turn : Turn) → Contains (remove turns gone) turn → (k : ℕ) × (k < length turns) × (k ≢ gone) × (get_or turns k turn ≡ turn)
stood turns gone gone_within turn (j, within, same) = elim (cases_lt j gone) [
  | inl before ↦ (j, omega (arith, before, gone_within), (λ equal. absurd (omega (arith, equal, before))), sym (get_or-remove_below turns gone turn j before gone_within) ∙ same)
  | inr past ↦ (j + 1, omega (arith, within, length-remove turns gone gone_within), (λ equal. absurd (omega (arith, equal, past))), sym (get_or-remove_above turns gone turn j past gone_within) ∙ same)
]

-- where another turn is found then
pub rank_left : (turns : List Turn) → Rise turns → (gone k : ℕ) (d : Turn) → gone < length turns → k < length turns → k ≢ gone → rank_in (remove turns gone) (get_or turns k d).own ≡ moved_down gone k
rank_left turns rise gone k d gone_within within other =
    let (j, inside, same, is) = stays turns gone k d gone_within within other in
    ap (λ (t : Turn). rank_in (remove turns gone) t.own) (sym same) ∙ rank_at (remove turns gone) (rise_less turns rise gone gone_within) j d inside ∙ is

module _ (turns others : List Turn) (rise : Rise turns) (flips : AreFlips turns others) (gone other_gone : ℕ) (within : gone < length turns) (other_within : other_gone < length others) (same : get_or others other_gone no_turn ≡ flipped (get_or turns gone no_turn)) where
  -- one that is left in the one order stood in the other, and isn't the one that left it
  pub stood_other : (turn : Turn) → Contains (remove turns gone) turn → (m : ℕ) × (m < length others) × (m ≢ other_gone) × (get_or others m (flipped turn) ≡ flipped turn)
  stood_other turn stands =
      let (k, inside, other, is) = stood turns gone within turn stands in
      let (m, m_inside, m_is) = flips turn (k, inside, is) in (
        m,
        m_inside,
        (λ equal.
            let flip : get_or others other_gone no_turn ≡ flipped turn = get_or_default others other_gone no_turn (flipped turn) other_within ∙ ap (λ n. get_or others n (flipped turn)) (sym equal) ∙ m_is in
            let own : (get_or turns gone no_turn).own ≡ turn.own = ap (λ (t : Turn). t.other) (sym same ∙ flip) in
            let here : (get_or turns k no_turn).own ≡ turn.own = ap (λ (t : Turn). t.own) (get_or_default turns k no_turn turn inside ∙ is) in
            other (one_place turns rise k gone no_turn inside within (here ∙ sym own))),
        m_is,
      )

  -- so the same queries are left in both
  pub flips_left : AreFlips (remove turns gone) (remove others other_gone)
  flips_left turn stands =
      let (m, m_inside, m_other, m_is) = stood_other turn stands in
      let (j, inside, is, moved) = stays others other_gone m (flipped turn) other_within m_inside m_other in
      (j, inside, is ∙ m_is)

-- a query more that stands last in both
pub flips_more : (turns others : List Turn) (turn : Turn) → AreFlips turns others → AreFlips (turns ++ turn ∷ []) (others ++ flipped turn ∷ [])
flips_more turns others turn flips any stands = elim (Contains-append_cases turns (turn ∷ []) any stands) [
  | inl before ↦ Contains-append_left others (flipped turn ∷ []) (flipped any) (flips any before)
  | inr last ↦ Contains-append_right others (flipped turn ∷ []) (flipped any) (only last)
]
  where
    only : Contains (turn ∷ []) any → Contains (flipped turn ∷ []) (flipped any)
    only (k, inside, is) = let first : k ≡ 0 = omega (arith, inside) in (0, omega arith, ap flipped (ap (λ n. get_or (turn ∷ []) n any) (sym first) ∙ is))

-- The table of where ends stand, as one leaves and the last one takes its place.
use Rattle.std.proofs.Common.{◌≡◌, ◌⊎◌, ◌∙◌, sym, ap, refl, inl, inr, subst, ℕ, ◌-◌, ◌<◌, ◌≤◌, ◌==◌, Bool, true, false, cond, nat_eq, length, List, arith}
use Rattle.std.specs.Prelude.{IfSome, IsSome, Option, Some, None}
use Rattle.std.specs.HashMap.{HashMap, get}
use Rattle.std.specs.List.{swap_remove}
use Rattle.std.specs.Option.{option_map}
use Rattle.std.proofs.lemmas.Bool.{cases_lt}
use Rattle.std.proofs.lemmas.Option.{slice_get_within}
use Rattle.automaton.specs.declared.network.End.{End}
use Rattle.automaton.specs.Changes.{RemovesEnd}
use Rattle.automaton.specs.States.{Net, ends_at, ends_in, state_at, tells}
use Rattle.automaton.proofs.NumberLemmas.{are_same_or_not}
use Rattle.event_types.proofs.NumberLemmas.{is_other, is_same, other_number, same_number}
use Rattle.prefix_merge.specs.declared.holders.EndSpot.{EndSpot}
use Rattle.prefix_merge.specs.Holders.{AreHolders, StandsAt, TellsOf, TellsOfSome}
use Rattle.prefix_merge.specs.Merging.{number_at}
use Rattle.prefix_merge.proofs.NumberedLemmas.{ends_put, number_in, told_inside}
use Rattle.prefix_merge.proofs.SpotLemmas.{are_one_spot, none_some, not_told, other_place, some_is, told_is}
use Rattle.prefix_merge.proofs.SwapLemmas.{swapped_here, swapped_other, swapped_past}

-- an end leaves its state, and the last one there takes its place
module _ (gone : EndSpot) (old new : Net) (removes : RemovesEnd gone.state gone.place old new) where
  abbrev were : List End
  were = ends_at old gone.state

  fewer_ends : ends_at new gone.state ≡ swap_remove were gone.place removes.gone
  fewer_ends = ap ends_in removes.here ∙ ends_put (swap_remove were gone.place removes.gone) (state_at old gone.state) gone.place removes.gone removes.there

  left_here : (place : ℕ) → number_at new gone.state place ≡ number_in (swap_remove were gone.place removes.gone) place
  left_here place = ap (λ ends. number_in ends place) fewer_ends

  moved_here : gone.place < length were - 1 → number_at new gone.state gone.place ≡ number_at old gone.state (length were - 1)
  moved_here below = left_here gone.place ∙ ap (option_map (λ (end : End). end.number)) (swapped_here were gone.place removes.gone removes.there below)

  stays_here : (place : ℕ) → place < length were - 1 → (place ≡ gone.place → ⊥) → number_at new gone.state place ≡ number_at old gone.state place
  stays_here place below other = left_here place ∙ ap (option_map (λ (end : End). end.number)) (swapped_other were gone.place removes.gone removes.there place below other)

  none_past : (place : ℕ) → length were - 1 ≤ place → number_at new gone.state place ≡ None
  none_past place past = left_here place ∙ ap (option_map (λ (end : End). end.number)) (swapped_past were gone.place removes.gone removes.there place past)

  -- the end that has the place stood last
  stood_last : (number : ℕ) → StandsAt new number gone → (gone.place < length were - 1) × (number_at old gone.state (length were - 1) ≡ Some number)
  stood_last number there = by_order (cases_lt gone.place (length were - 1))
    where
      by_order : (gone.place < length were - 1) ⊎ (length were - 1 ≤ gone.place) → (gone.place < length were - 1) × (number_at old gone.state (length were - 1) ≡ Some number)
      by_order (inl below) = (below, sym (moved_here below) ∙ there)
      by_order (inr past) = absurd (none_some number (sym (none_past gone.place past) ∙ there))

  module _ (number : ℕ) (spot : EndSpot) (other : spot ≡ gone → ⊥) where
    -- each other one stood where it stands
    stood_there : StandsAt new number spot → (StandsAt old number spot) × (spot.state ≡ gone.state → spot.place < length were - 1)
    stood_there there = by_state (are_same_or_not spot.state gone.state)
      where
        by_order : spot.state ≡ gone.state → (spot.place < length were - 1) ⊎ (length were - 1 ≤ spot.place) → (StandsAt old number spot) × (spot.state ≡ gone.state → spot.place < length were - 1)
        by_order same (inl below) = (
          ap (λ s. number_at old s spot.place) same ∙ sym (stays_here spot.place below (other_place spot gone other same)) ∙ ap (λ s. number_at new s spot.place) (sym same) ∙ there,
          λ again. below,
        )
        by_order same (inr past) = absurd (none_some number (sym (none_past spot.place past) ∙ ap (λ s. number_at new s spot.place) (sym same) ∙ there))

        by_state : (spot.state ≡ gone.state) ⊎ (spot.state ≡ gone.state → ⊥) → (StandsAt old number spot) × (spot.state ≡ gone.state → spot.place < length were - 1)
        by_state (inl same) = by_order same (cases_lt spot.place (length were - 1))
        by_state (inr ne) = (ap (λ slot. number_in (ends_in slot) spot.place) (sym (removes.others spot.state ne)) ∙ there, λ same. absurd (ne same))

    -- and stands where it stood, unless it has moved
    stands_there : (StandsAt new number gone → ⊥) → StandsAt old number spot → StandsAt new number spot
    stands_there still there = by_state (are_same_or_not spot.state gone.state)
      where
        by_order : spot.state ≡ gone.state → (spot.place < length were - 1) ⊎ (length were - 1 ≤ spot.place) → StandsAt new number spot
        by_order same (inl below) = ap (λ s. number_at new s spot.place) same ∙ stays_here spot.place below (other_place spot gone other same) ∙ ap (λ s. number_at old s spot.place) (sym same) ∙ there
        by_order same (inr past) =
            let there_too : number_at old gone.state spot.place ≡ Some number = ap (λ s. number_at old s spot.place) (sym same) ∙ there in
            let inside = told_inside number were spot.place there_too in
            let its = slice_get_within were gone.place removes.gone removes.there in
            let apart = other_place spot gone other same in
            let last : length were - 1 ≡ spot.place = omega (arith, inside, past) in
            absurd (still (moved_here (omega (arith, inside, past, its, apart)) ∙ ap (number_at old gone.state) last ∙ there_too))

        by_state : (spot.state ≡ gone.state) ⊎ (spot.state ≡ gone.state → ⊥) → StandsAt new number spot
        by_state (inl same) = by_order same (cases_lt spot.place (length were - 1))
        by_state (inr ne) = ap (λ slot. number_in (ends_in slot) spot.place) (removes.others spot.state ne) ∙ there

  module _ {S : Type 0} (table forgot : HashMap ℕ EndSpot S) (end : ℕ) (are : AreHolders table old) (had : StandsAt old end gone) (forgotten : TellsOf end None table forgot) where
    abbrev last_spot : EndSpot
    last_spot = record { state = gone.state; place = length were - 1 }

    -- the spot of the end that has moved is noted
    pub moved_told : (moved : Option ℕ) → moved ≡ number_at new gone.state gone.place → IfSome moved (λ number. IsSome (get nat_eq forgot number))
    moved_told None is = tt
    moved_told (Some number) is = subst IsSome (sym (forgotten number ∙ ap (λ b. cond b None (get nat_eq table number)) (is_other end number apart) ∙ found)) refl
      where
        last : (gone.place < length were - 1) × (number_at old gone.state (length were - 1) ≡ Some number)
        last = stood_last number (sym is)

        found : get nat_eq table number ≡ Some last_spot
        found = (are number last_spot).1 last.1

        apart : end ≡ number → ⊥
        apart same =
            let one = some_is last_spot gone (sym found ∙ ap (get nat_eq table) (sym same) ∙ (are end gone).1 had) in
            let place : length were - 1 ≡ gone.place = ap (λ (spot : EndSpot). spot.place) one in
            let below = last.0 in absurd (omega (arith, place, below))

    module _ (less : HashMap ℕ EndSpot S) (moved : Option ℕ) (is_moved : moved ≡ number_at new gone.state gone.place) (follows : TellsOfSome moved gone forgot less) where
      told : (number : ℕ) → get nat_eq less number ≡ cond (tells number (number_at new gone.state gone.place)) (Some gone) (cond (end == number) None (get nat_eq table number))
      told number = follows number ∙ (λ i. cond (tells number (is_moved i)) (Some gone) (forgotten number i))

      told_moved : (number : ℕ) → tells number (number_at new gone.state gone.place) ≡ true → get nat_eq less number ≡ Some gone
      told_moved number is = told number ∙ ap (λ b. cond b (Some gone) (cond (end == number) None (get nat_eq table number))) is

      told_gone : (number : ℕ) → tells number (number_at new gone.state gone.place) ≡ false → (end == number) ≡ true → get nat_eq less number ≡ None
      told_gone number still is = told number ∙ (λ i. cond (still i) (Some gone) (cond (is i) None (get nat_eq table number)))

      told_other : (number : ℕ) → tells number (number_at new gone.state gone.place) ≡ false → (end == number) ≡ false → get nat_eq less number ≡ get nat_eq table number
      told_other number still differs = told number ∙ (λ i. cond (still i) (Some gone) (cond (differs i) None (get nat_eq table number)))

      -- what the table tells stands there
      tells_truly : (number : ℕ) (spot : EndSpot) → get nat_eq less number ≡ Some spot → StandsAt new number spot
      tells_truly number spot found = go (tells number (number_at new gone.state gone.place)) refl (end == number) refl (are_one_spot spot gone)
        where
          go : (a : Bool) → tells number (number_at new gone.state gone.place) ≡ a → (b : Bool) → (end == number) ≡ b → (spot ≡ gone) ⊎ (spot ≡ gone → ⊥) → StandsAt new number spot
          go true is b its one = subst (StandsAt new number) (some_is gone spot (sym (told_moved number is) ∙ found)) (told_is number (number_at new gone.state gone.place) is)
          go false still true its one = absurd (none_some spot (sym (told_gone number still its) ∙ found))
          go false still false its (inl same) =
              let stood = subst (StandsAt old number) same ((are number spot).0 (sym (told_other number still its) ∙ found)) in
              absurd (other_number end number its (some_is end number (sym had ∙ stood)))
          go false still false its (inr other) = stands_there number spot other (not_told number (number_at new gone.state gone.place) still) ((are number spot).0 (sym (told_other number still its) ∙ found))

      -- and the table tells of each end
      tells_all : (number : ℕ) (spot : EndSpot) → StandsAt new number spot → get nat_eq less number ≡ Some spot
      tells_all number spot there = by_spot (are_one_spot spot gone)
        where
          by_tests : (spot ≡ gone → ⊥) → StandsAt old number spot → (spot.state ≡ gone.state → spot.place < length were - 1) → (a : Bool) → tells number (number_at new gone.state gone.place) ≡ a → (b : Bool) → (end == number) ≡ b
              → get nat_eq less number ≡ Some spot
          by_tests other stood before true is b its =
              let last = stood_last number (told_is number (number_at new gone.state gone.place) is) in
              let same = some_is last_spot spot (sym ((are number last_spot).1 last.1) ∙ (are number spot).1 stood) in
              let place : length were - 1 ≡ spot.place = ap (λ (s : EndSpot). s.place) same in
              let below = before (sym (ap (λ (s : EndSpot). s.state) same)) in absurd (omega (arith, place, below))
          by_tests other stood before false still true its =
              absurd (other (some_is spot gone (sym ((are number spot).1 stood) ∙ ap (get nat_eq table) (sym (same_number end number its)) ∙ (are end gone).1 had)))
          by_tests other stood before false still false its = told_other number still its ∙ (are number spot).1 stood

          by_spot : (spot ≡ gone) ⊎ (spot ≡ gone → ⊥) → get nat_eq less number ≡ Some spot
          by_spot (inl same) =
              let here = subst (StandsAt new number) same there in
              told_moved number (ap (tells number) here ∙ is_same number number refl) ∙ ap (λ s. Some s) (sym same)
          by_spot (inr other) =
              let stood = stood_there number spot other there in
              by_tests other stood.0 stood.1 (tells number (number_at new gone.state gone.place)) refl (end == number) refl

      -- so the table tells where the others stand
      pub holders_less : AreHolders less new
      holders_less number spot = (tells_truly number spot, tells_all number spot)

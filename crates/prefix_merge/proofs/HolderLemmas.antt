-- The table of where ends stand.
use Rattle.std.proofs.Common.{◌≡◌, ◌⊎◌, ◌∙◌, sym, ap, refl, inl, inr, subst, ℕ, ◌-◌, ◌<◌, ◌≤◌, true, false, cond, nat_eq, length, take, [], ◌∷◌, ◌++◌, arith}
use Rattle.std.specs.Prelude.{◌↔◌, Option, Some, None}
use Rattle.std.specs.HashMap.{HashMap, get}
use Rattle.automaton.specs.declared.line.Hop.{Hop}
use Rattle.automaton.specs.declared.network.End.{End}
use Rattle.automaton.specs.Changes.{AddsEnd, AddsHop, AddsRoot, RemovesState}
use Rattle.automaton.specs.States.{Net, before_at, ends_at, ends_in, is_used, state_at, tells}
use Rattle.automaton.proofs.NumberLemmas.{are_same_or_not}
use Rattle.automaton.proofs.SlotLemmas.{edge_ends, end_ends}
use Rattle.event_types.proofs.NumberLemmas.{is_other, is_same}
use Rattle.prefix_merge.specs.declared.holders.EndSpot.{EndSpot}
use Rattle.prefix_merge.specs.Holders.{AreHolders, StandsAt, TellsOf}
use Rattle.prefix_merge.specs.Merging.{HasEnd, number_at}
use Rattle.prefix_merge.proofs.BucketLemmas.{short_states}
use Rattle.prefix_merge.proofs.EdgeLemmas.{lost_ends}
use Rattle.prefix_merge.proofs.EndingLemmas.{ends_none}
use Rattle.prefix_merge.proofs.NumberedLemmas.{none_behind, number_in, pushed_else, pushed_here, there_has, with_number}
use Rattle.prefix_merge.proofs.SpotLemmas.{are_one_spot, none_some, other_place, some_is}

-- each state has the same ends
abbrev pub HaveSameEnds : Net → Net → Type 0
HaveSameEnds old new = (state : ℕ) → ends_at new state ≡ ends_at old state

-- then the table tells where they stand
pub holders_same : {S : Type 0} (table : HashMap ℕ EndSpot S) (old new : Net) → HaveSameEnds old new → AreHolders table old → AreHolders table new
holders_same table old new same are number spot = (
  λ found. ap (λ ends. number_in ends spot.place) (same spot.state) ∙ (are number spot).0 found,
  λ there. (are number spot).1 (ap (λ ends. number_in ends spot.place) (sym (same spot.state)) ∙ there),
)

-- and no other number has an end
pub end_same : (old new : Net) → HaveSameEnds old new → (end : ℕ) → (HasEnd old end → ⊥) → HasEnd new end → ⊥
end_same old new same end none has = none (has.0, subst (λ ends. 1 ≤ with_number end ends) (same has.0) has.1)

-- a state that comes has no ends
module _ (number : ℕ) (old new : Net) (free : is_used old number ≡ false) (bare : ends_at new number ≡ []) where
  came_ends : (state : ℕ) → state ≡ number → ends_at new state ≡ ends_at old state
  came_ends state same = ap (ends_at new) same ∙ bare ∙ sym (ends_none old number free) ∙ ap (ends_at old) (sym same)

-- a root state comes
pub root_ends : (number stream : ℕ) (old new : Net) → is_used old number ≡ false → AddsRoot number stream old new → HaveSameEnds old new
root_ends number stream old new free adds state = by_number (are_same_or_not state number)
  where
    by_number : (state ≡ number) ⊎ (state ≡ number → ⊥) → ends_at new state ≡ ends_at old state
    by_number (inl same) = came_ends number old new free (ap ends_in adds.here) state same
    by_number (inr other) = ap ends_in (adds.others state other)

-- the state of a hop comes
pub hop_ends : (number before : ℕ) (hop : Hop) (old new : Net) → is_used old number ≡ false → AddsHop number before hop old new → HaveSameEnds old new
hop_ends number before hop old new free adds state = by_number (are_same_or_not state number)
  where
    by_before : (state ≡ number → ⊥) → (state ≡ before) ⊎ (state ≡ before → ⊥) → ends_at new state ≡ ends_at old state
    by_before other (inl same) = ap (ends_at new) same ∙ ap ends_in adds.edge ∙ edge_ends number (state_at old before) ∙ ap (ends_at old) (sym same)
    by_before other (inr apart) = ap ends_in (adds.others state other apart)

    by_number : (state ≡ number) ⊎ (state ≡ number → ⊥) → ends_at new state ≡ ends_at old state
    by_number (inl same) = came_ends number old new free (ap ends_in adds.here) state same
    by_number (inr other) = by_before other (are_same_or_not state before)

-- a state without ends leaves
pub left_ends : (number : ℕ) (old new : Net) → ends_at old number ≡ [] → RemovesState number old new → HaveSameEnds old new
left_ends number old new endless removes state = by_number (are_same_or_not state number)
  where
    by_before : (state ≡ number → ⊥) → (o : Option ℕ) → before_at old number ≡ o → ends_at new state ≡ ends_at old state
    by_before other None told = ap ends_in (removes.others state other (ap (tells state) told))
    by_before other (Some before) told = go (are_same_or_not before state)
      where
        go : (before ≡ state) ⊎ (before ≡ state → ⊥) → ends_at new state ≡ ends_at old state
        go (inl same) = ap (ends_at new) (sym same) ∙ lost_ends number (state_at old before) (state_at new before) (removes.edge before told) ∙ ap (ends_at old) same
        go (inr apart) = ap ends_in (removes.others state other (ap (tells state) told ∙ is_other before state apart))

    by_number : (state ≡ number) ⊎ (state ≡ number → ⊥) → ends_at new state ≡ ends_at old state
    by_number (inl same) = ap (ends_at new) same ∙ ap ends_in removes.here ∙ sym endless ∙ ap (ends_at old) (sym same)
    by_number (inr other) = by_before other (before_at old number) refl

-- the last place goes, which no state has
pub short_ends : (old : Net) → 0 < length old → is_used old (length old - 1) ≡ false → HaveSameEnds old (take (length old - 1) old)
short_ends old some free state = ap ends_in (short_states old some free state)

-- an end of a new number comes to a state
module _ (state : ℕ) (end : End) (old new : Net) (used : is_used old state ≡ true) (adds : AddsEnd state end old new) where
  abbrev its_spot : EndSpot
  its_spot = record { state = state; place = length (ends_at old state) }

  more_ends : ends_at new state ≡ ends_at old state ++ end ∷ []
  more_ends = ap ends_in adds.here ∙ end_ends end (state_at old state) used

  stands_here : StandsAt new end.number its_spot
  stands_here = ap (λ ends. number_in ends (length (ends_at old state))) more_ends ∙ pushed_here (ends_at old state) end

  stands_else : (spot : EndSpot) → (spot ≡ its_spot → ⊥) → number_at new spot.state spot.place ≡ number_at old spot.state spot.place
  stands_else spot other = by_state (are_same_or_not spot.state state)
    where
      by_state : (spot.state ≡ state) ⊎ (spot.state ≡ state → ⊥) → number_at new spot.state spot.place ≡ number_at old spot.state spot.place
      by_state (inl same) =
          ap (λ s. number_at new s spot.place) same ∙ ap (λ ends. number_in ends spot.place) more_ends ∙ pushed_else (ends_at old state) end spot.place (other_place spot its_spot other same)
          ∙ ap (λ s. number_at old s spot.place) (sym same)
      by_state (inr ne) = ap (λ slot. number_in (ends_in slot) spot.place) (adds.others spot.state ne)

  pub holders_more : {S : Type 0} (table more : HashMap ℕ EndSpot S) → AreHolders table old → (HasEnd old end.number → ⊥) → TellsOf end.number (Some (record { state = state; place = length (ends_at old state) })) table more → AreHolders more new
  holders_more table more are fresh tells' number spot = by_number (are_same_or_not end.number number)
    where
      -- the number of the end
      here : end.number ≡ number → (get nat_eq more number ≡ Some spot) ↔ StandsAt new number spot
      here same = (
        λ found. subst (StandsAt new number) (some_is its_spot spot (sym told ∙ found)) (stands_here ∙ ap (λ n. Some n) same),
        λ there. told ∙ ap (λ s. Some s) (sym (by_spot (are_one_spot spot its_spot) there)),
      )
        where
          told : get nat_eq more number ≡ Some its_spot
          told = tells' number ∙ ap (λ b. cond b (Some its_spot) (get nat_eq table number)) (is_same end.number number same)

          by_spot : (spot ≡ its_spot) ⊎ (spot ≡ its_spot → ⊥) → StandsAt new number spot → spot ≡ its_spot
          by_spot (inl is) there = is
          by_spot (inr other) there = absurd (fresh (there_has old end.number spot.state spot.place (sym (stands_else spot other) ∙ there ∙ ap (λ n. Some n) (sym same))))

      -- another number
      elsewhere : (end.number ≡ number → ⊥) → (get nat_eq more number ≡ Some spot) ↔ StandsAt new number spot
      elsewhere ne = (λ found. stood (are_one_spot spot its_spot) ((are number spot).0 (sym told ∙ found)), λ there. told ∙ (are number spot).1 (stands (are_one_spot spot its_spot) there))
        where
          told : get nat_eq more number ≡ get nat_eq table number
          told = tells' number ∙ ap (λ b. cond b (Some its_spot) (get nat_eq table number)) (is_other end.number number ne)

          stood : (spot ≡ its_spot) ⊎ (spot ≡ its_spot → ⊥) → StandsAt old number spot → StandsAt new number spot
          stood (inl is) there = absurd (none_some number (sym (none_behind (ends_at old state) (length (ends_at old state)) (omega arith)) ∙ subst (StandsAt old number) is there))
          stood (inr other) there = stands_else spot other ∙ there

          stands : (spot ≡ its_spot) ⊎ (spot ≡ its_spot → ⊥) → StandsAt new number spot → StandsAt old number spot
          stands (inl is) there = absurd (ne (some_is end.number number (sym stands_here ∙ subst (StandsAt new number) is there)))
          stands (inr other) there = sym (stands_else spot other) ∙ there

      by_number : (end.number ≡ number) ⊎ (end.number ≡ number → ⊥) → (get nat_eq more number ≡ Some spot) ↔ StandsAt new number spot
      by_number (inl same) = here same
      by_number (inr ne) = elsewhere ne

-- it was noted where an end stands that didn't come, and forgotten again
pub holders_back : {S : Type 0} (table more less : HashMap ℕ EndSpot S) (end : ℕ) (noted : EndSpot) (net : Net) → AreHolders table net → (HasEnd net end → ⊥) → TellsOf end (Some noted) table more → TellsOf end None more less → AreHolders less net
holders_back table more less end noted net are fresh tells' forgotten number spot = by_number (are_same_or_not end number)
  where
    by_number : (end ≡ number) ⊎ (end ≡ number → ⊥) → (get nat_eq less number ≡ Some spot) ↔ StandsAt net number spot
    by_number (inl same) = (λ found. absurd (none_some spot (sym told ∙ found)), λ there. absurd (fresh (there_has net end spot.state spot.place (there ∙ ap (λ n. Some n) (sym same)))))
      where
        told : get nat_eq less number ≡ None
        told = forgotten number ∙ ap (λ b. cond b None (get nat_eq more number)) (is_same end number same)
    by_number (inr ne) = (λ found. (are number spot).0 (sym told ∙ found), λ there. told ∙ (are number spot).1 there)
      where
        told : get nat_eq less number ≡ get nat_eq table number
        told =
            forgotten number ∙ ap (λ b. cond b None (get nat_eq more number)) (is_other end number ne)
            ∙ tells' number ∙ ap (λ b. cond b (Some noted) (get nat_eq table number)) (is_other end number ne)

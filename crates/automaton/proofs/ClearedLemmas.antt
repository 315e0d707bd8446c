-- Networks that a state leaves, and what forward edges say of the states to which they lead.
use Rattle.std.proofs.Common.{◌≡◌, ◌⊎◌, ◌∙◌, sym, ap, refl, subst, inl, inr, ℕ, ◌+◌, ◌<◌, ◌≤◌, ◌==◌, Bool, true, false, get_or, length, List, [], arith}
use Rattle.std.specs.Prelude.{Option, Some, None, is_some, count_by, position, slice_get}
use Rattle.std.specs.List.{swap_remove}
use Rattle.std.specs.Option.{option_and_then}
use Rattle.std.proofs.lemmas.List.Quantifiers.{position-Some}
use Rattle.automaton.specs.declared.line.Hop.{Hop}
use Rattle.automaton.specs.declared.network.Entrance.{Entrance}
use Rattle.automaton.specs.declared.network.Entrance.TheVariants as entrance
use Rattle.automaton.specs.declared.network.State.{State}
use Rattle.automaton.specs.Changes.{LosesEdge, RemovesState, with_edges}
use Rattle.automaton.specs.Networks.{IsAt, IsNetwork}
use Rattle.automaton.specs.Prefixes.{Prefix, Root, After}
use Rattle.automaton.specs.States.{Net, before_at, before_by, before_in, edges_at, edges_in, entrance_at, entrance_in, is_used, root_by, state_at, tells}
use Rattle.automaton.proofs.ChangeLemmas.{edges_entry, entry_there, something_there}
use Rattle.automaton.proofs.CountLemmas.{bit, count-has, count-taken, none_counted}
use Rattle.event_types.proofs.NumberLemmas.{is_other, is_same, same_number}
use Rattle.automaton.proofs.NumberLemmas.{are_same_or_not}

-- what is counted stands somewhere
pub find_counted : {X : Type 0} (p : X → Bool) (xs : List X) (d : X) → 1 ≤ count_by p xs → (k : ℕ) × (k < length xs) × (p (get_or xs k d) ≡ true)
find_counted p xs d le = go (position p xs) refl
  where
    go : (o : Option ℕ) → position p xs ≡ o → (k : ℕ) × (k < length xs) × (p (get_or xs k d) ≡ true)
    go None is = let none = none_counted p xs is in absurd (omega (arith, le, none))
    go (Some k) is = let at_k = position-Some p xs k d is in (k, at_k.0, at_k.1)

told_one : (number : ℕ) (o : Option ℕ) → 1 ≤ bit (tells number o) → o ≡ Some number
told_one number None le = absurd (omega arith)
told_one number (Some other) le = go (other == number) refl le
  where
    go : (b : Bool) → (other == number) ≡ b → 1 ≤ bit b → Some other ≡ Some number
    go true is le = ap (λ n. Some n) (same_number other number is)
    go false is le = absurd (omega arith)

-- a number that is there is told, and counts one
pub told_so : (number : ℕ) (o : Option ℕ) → o ≡ Some number → bit (tells number o) ≡ 1
told_so number o is = ap (λ o. bit (tells number o)) is ∙ ap bit (is_same number number refl)

-- another one isn't told
pub told_not : (number : ℕ) (o : Option ℕ) → (o ≡ Some number → ⊥) → tells number o ≡ false
told_not number None ne = refl
told_not number (Some other) ne = is_other other number (λ e. ne (ap (λ n. Some n) e))

-- an entry that has a state before it is that of a waiting state
pub waiting_before : (o : Option Entrance) (before : ℕ) → option_and_then before_by o ≡ Some before → (hop : Hop) × (o ≡ Some (entrance.Waiting before hop))
waiting_before None before e = cc
waiting_before (Some (entrance.Root stream)) before e = cc
waiting_before (Some (entrance.Waiting from hop)) before e = let same : from ≡ before = cc in (hop, ap (λ n. Some (entrance.Waiting n hop)) same)

module _ (net : Net) (is : IsNetwork net) where
  -- an edge leads to a state that is entered from there
  pub edge_leads : (number k : ℕ) (d : ℕ) → k < length (edges_at net number) → before_at net (get_or (edges_at net number) k d) ≡ Some number
  edge_leads number k d lt =
      let next = get_or (edges_at net number) k d in
      let counted = count-has (λ edge. edge == next) (edges_at net number) k d lt (is_same next next refl) in
      told_one number (before_at net next) (subst (λ n. 1 ≤ n) (is.edges number next) counted)

  -- a state that is entered from another is there
  pub entered_used : (number before : ℕ) → before_at net number ≡ Some before → is_used net number ≡ true
  entered_used number before from = let w = waiting_before (entrance_at net number) before from in something_there net number (entrance.Waiting before w.0) w.1

  -- and an edge leads to it
  pub edge_to : (number before : ℕ) → before_at net number ≡ Some before → (k : ℕ) × (k < length (edges_at net before)) × (get_or (edges_at net before) k 0 ≡ number)
  edge_to number before from =
      let counted : 1 ≤ count_by (λ edge. edge == number) (edges_at net before) = let e = is.edges before number ∙ told_so before (before_at net number) from in omega (arith, e) in
      let k = find_counted (λ edge. edge == number) (edges_at net before) 0 counted in (k.0, k.1, same_number _ number k.2)

  -- the state before it is there too
  pub before_used : (number before : ℕ) → before_at net number ≡ Some before → is_used net before ≡ true
  before_used number before from = go (state_at net before) (edge_to number before from)
    where
      go : (slot : Option State) → (k : ℕ) × (k < length (edges_in slot)) × (get_or (edges_in slot) k 0 ≡ number) → is_some slot ≡ true
      go None k = absurd (omega (arith, k.1))
      go (Some state) k = refl

  -- from a state without edges none is entered
  pub none_entered : (number next : ℕ) → edges_at net number ≡ [] → before_at net next ≡ Some number → ⊥
  none_entered number next none from = let k = edge_to next number from in let empty = ap length none in absurd (omega (arith, k.1))

-- a state that lost an edge
module _ (next : ℕ) (old new : Option State) (loses : LosesEdge next old new) where
  -- it has the same entry
  pub lost_entry : entrance_in new ≡ entrance_in old
  lost_entry = ap entrance_in loses.rest ∙ edges_entry (swap_remove (edges_in old) loses.place next) old

  -- the last of its edges stands where the lost one stood
  pub lost_edges : edges_in new ≡ swap_remove (edges_in old) loses.place next
  lost_edges = ap edges_in loses.rest ∙ go old loses.there
    where
      go : (slot : Option State) → slice_get (edges_in slot) loses.place ≡ Some next → edges_in (with_edges (swap_remove (edges_in old) loses.place next) slot) ≡ swap_remove (edges_in old) loses.place next
      go None there = absurd (let none : None ≡ Some next = there in cc)
      go (Some state) there = refl

  -- each edge is counted as before, but for the lost one
  pub lost_counts : (number : ℕ) → count_by (λ edge. edge == number) (edges_in new) + bit (next == number) ≡ count_by (λ edge. edge == number) (edges_in old)
  lost_counts number = ap (λ edges. count_by (λ edge. edge == number) edges + bit (next == number)) lost_edges ∙ count-taken (λ edge. edge == number) (edges_in old) loses.place next loses.there

-- a state leaves
module _ (number : ℕ) (old new : Net) (removes : RemovesState number old new) (last : edges_at old number ≡ []) (is : IsNetwork old) where
  -- what a lost edge doesn't change is the same at each other place
  pub left_reads : {X : Type 0} (f : Option State → X) → ((before after : Option State) → LosesEdge number before after → f after ≡ f before) → (other : ℕ) → (other ≡ number → ⊥) → f (state_at new other) ≡ f (state_at old other)
  left_reads f kept other ne = by_before (before_at old number) refl
    where
      by_before : (o : Option ℕ) → before_at old number ≡ o → f (state_at new other) ≡ f (state_at old other)
      by_before None from = ap f (removes.others other ne (ap (tells other) from))
      by_before (Some before) from = by_number (are_same_or_not other before)
        where
          by_number : (other ≡ before) ⊎ (other ≡ before → ⊥) → f (state_at new other) ≡ f (state_at old other)
          by_number (inl same) = ap (λ n. f (state_at new n)) same ∙ kept (state_at old before) (state_at new before) (removes.edge before from) ∙ ap (λ n. f (state_at old n)) (sym same)
          by_number (inr nb) = ap f (removes.others other ne (ap (tells other) from ∙ is_other before other (λ e. nb (sym e))))

  -- each other state has the same entry
  pub left_entry : (other : ℕ) → (other ≡ number → ⊥) → entrance_at new other ≡ entrance_at old other
  left_entry = left_reads entrance_in (lost_entry number)

  -- each other state has the same prefix
  pub left_at : (other : ℕ) (prefix : Prefix) → (other ≡ number → ⊥) → IsAt old other prefix → IsAt new other prefix
  left_at other (Root stream) ne here = ap (option_and_then root_by) (left_entry other ne) ∙ here
  left_at other (After prefix hop) ne here =
      let from : before_at old other ≡ Some here.0 = ap (option_and_then before_by) here.1 in
      (here.0, left_entry other ne ∙ here.1, left_at here.0 prefix (λ same. none_entered old is number other last (from ∙ ap (λ n. Some n) same)) here.2)

  left_counts : (from next : ℕ) → count_by (λ edge. edge == next) (edges_at new from) ≡ bit (tells from (before_at new next))
  left_counts from next = by_numbers (are_same_or_not from number) (are_same_or_not next number)
    where
      gone : before_at new number ≡ None
      gone = ap before_in removes.here

      told : (next ≡ number → ⊥) → before_at new next ≡ before_at old next
      told ne = ap (option_and_then before_by) (left_entry next ne)

      cut : (next ≡ number → ⊥) → (before after : Option State) → LosesEdge number before after → count_by (λ edge. edge == next) (edges_in after) ≡ count_by (λ edge. edge == next) (edges_in before)
      cut nn before after loses =
          let counted = lost_counts number before after loses next in
          let zero' : bit (number == next) ≡ 0 = ap bit (is_other number next (λ e. nn (sym e))) in
          omega (arith, counted)

      none_left : (before after : Option State) → LosesEdge number before after → count_by (λ edge. edge == number) (edges_in before) ≡ 1 → count_by (λ edge. edge == number) (edges_in after) ≡ 0
      none_left before after loses one =
          let counted = lost_counts number before after loses number in
          let one' : bit (number == number) ≡ 1 = ap bit (is_same number number refl) in
          omega (arith, counted, one)

      to_gone : (from ≡ number → ⊥) → (o : Option ℕ) → before_at old number ≡ o → count_by (λ edge. edge == number) (edges_at new from) ≡ 0
      to_gone nf None before = ap (λ slot. count_by (λ edge. edge == number) (edges_in slot)) (removes.others from nf (ap (tells from) before)) ∙ is.edges from number ∙ ap (λ o. bit (tells from o)) before
      to_gone nf (Some other) before = elim (are_same_or_not from other) [
        | inl same ↦
            ap (λ n. count_by (λ edge. edge == number) (edges_at new n)) same
            ∙ none_left (state_at old other) (state_at new other) (removes.edge other before) (is.edges other number ∙ told_so other (before_at old number) before)
        | inr apart ↦
            (let other_told : tells from (before_at old number) ≡ false = ap (tells from) before ∙ is_other other from (λ e. apart (sym e)) in
            ap (λ slot. count_by (λ edge. edge == number) (edges_in slot)) (removes.others from nf other_told) ∙ is.edges from number ∙ ap bit other_told)
      ]

      by_numbers : (from ≡ number) ⊎ (from ≡ number → ⊥) → (next ≡ number) ⊎ (next ≡ number → ⊥) → count_by (λ edge. edge == next) (edges_at new from) ≡ bit (tells from (before_at new next))
      by_numbers (inl same) n =
          ap (λ m. count_by (λ edge. edge == next) (edges_at new m)) same ∙ ap (λ slot. count_by (λ edge. edge == next) (edges_in slot)) removes.here
          ∙ sym (ap bit (told_not from (before_at new next) (not_from n)))
        where
          not_from : (next ≡ number) ⊎ (next ≡ number → ⊥) → before_at new next ≡ Some from → ⊥
          not_from (inl last_one) e = let none : before_at new next ≡ None = ap (before_at new) last_one ∙ gone in cc
          not_from (inr ne) e = none_entered old is number next last (sym (told ne) ∙ e ∙ ap (λ m. Some m) same)
      by_numbers (inr nf) (inl same) =
          ap (λ n. count_by (λ edge. edge == n) (edges_at new from)) same ∙ to_gone nf (before_at old number) refl ∙ sym (ap (λ n. bit (tells from (before_at new n))) same ∙ ap (λ o. bit (tells from o)) gone)
      by_numbers (inr nf) (inr nn) =
          left_reads (λ slot. count_by (λ edge. edge == next) (edges_in slot)) (cut nn) from nf ∙ is.edges from next ∙ ap (λ o. bit (tells from o)) (sym (told nn))

  -- a network without a state is a network
  pub removes_state_network : IsNetwork new
  removes_state_network = record {
    places = λ n used.
        (let ne : n ≡ number → ⊥ = λ same. let none : is_used new n ≡ false = ap (is_used new) same ∙ ap is_some removes.here in absurd (let no : true ≡ false = sym used ∙ none in cc) in
        let was : is_used old n ≡ true = sym (entry_there (state_at old n)) ∙ ap is_some (sym (left_entry n ne)) ∙ entry_there (state_at new n) ∙ used in
        let place = is.places n was in
        (place.0, left_at n place.0 ne place.1));
    edges = left_counts;
  }

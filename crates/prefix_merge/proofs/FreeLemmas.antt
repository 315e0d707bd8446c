-- The numbers that no state has, as states come and leave.
use Rattle.std.proofs.Common.{◌≡◌, ◌⊎◌, ◌∙◌, sym, ap, inl, inr, ℕ, ◌<◌, ◌≤◌, Bool, true, false, not, IsTrue, length, set, List, arith}
use Rattle.std.specs.Prelude.{Some, is_some}
use Rattle.std.specs.List.{slice_get}
use Rattle.std.proofs.lemmas.Bool.{cases_lt, not-false, not-true, true≢false}
use Rattle.std.proofs.lemmas.List.{get_or_past, get_or-set_other, get_or-set_same}
use Rattle.std.proofs.lemmas.Option.{get_or_from_slice_get}
use Rattle.automaton.specs.declared.line.Hop.{Hop}
use Rattle.automaton.specs.declared.network.End.{End}
use Rattle.automaton.specs.Changes.{AddsEnd, AddsHop, AddsRoot, RemovesState}
use Rattle.automaton.specs.States.{Net, entrance_at, entrance_in, is_used, state_at}
use Rattle.automaton.proofs.NumberLemmas.{are_same_or_not}
use Rattle.automaton.proofs.SlotLemmas.{end_entry, entry_there}
use Rattle.prefix_merge.specs.Merging.{IsLowestFree}
use Rattle.prefix_merge.specs.Places.{AreFree, is_free}
use Rattle.prefix_merge.proofs.BucketLemmas.{came_entry, left_entry}

-- a state that is entered as before is there as before
used_as : (old new : Net) (number : ℕ) → entrance_at new number ≡ entrance_at old number → is_used new number ≡ is_used old number
used_as old new number same = sym (entry_there (state_at new number)) ∙ ap is_some same ∙ entry_there (state_at old number)

module _ (free : List Bool) (net : Net) (are : AreFree free net) where
  -- a number that isn't free is that of a state
  taken_used : (number : ℕ) → slice_get free number ≡ Some false → IsTrue (is_used net number)
  taken_used number is = not-false (is_used net number) (sym (are number) ∙ get_or_from_slice_get free number false true is)

  free_unused : (number : ℕ) → is_free free number ≡ true → is_used net number ≡ false
  free_unused number is = not-true (is_used net number) (sym (are number) ∙ is)

  -- the lowest free number is the lowest that no state has
  pub lowest_is : (number : ℕ) → slice_get free number ≡ Some true → ((below : ℕ) → below < number → slice_get free below ≡ Some false) → IsLowestFree net number
  lowest_is number is lowest = record {
    free = free_unused number (get_or_from_slice_get free number true true is);
    lowest = λ below less. taken_used below (lowest below less);
  }

  -- where none is free, it is the next one
  pub next_is : ((number : ℕ) → number < length free → slice_get free number ≡ Some false) → IsLowestFree net (length free)
  next_is none = record {
    free = free_unused (length free) (get_or_past free (length free) true (omega arith));
    lowest = λ below less. taken_used below (none below less);
  }

  -- a state's number is listed
  pub used_listed : (number : ℕ) → IsTrue (is_used net number) → number < length free
  used_listed number used =
      elim (cases_lt number (length free)) [
        | inl within ↦ within
        | inr past ↦ absurd (true≢false (sym (get_or_past free number true past) ∙ are number ∙ ap not used))
      ]

  -- the lowest free number is listed or the next one
  pub lowest_listed : (number : ℕ) → IsLowestFree net number → number ≤ length free
  lowest_listed number is =
      elim (cases_lt (length free) number) [
        | inl past ↦ let within = used_listed (length free) (is.lowest (length free) past) in omega (arith, within)
        | inr within ↦ within
      ]

  -- states that stay
  pub free_kept : (new : Net) → ((n : ℕ) → is_used new n ≡ is_used net n) → AreFree free new
  free_kept new same n = are n ∙ ap not (sym (same n))

  -- a state that comes or leaves
  one_changed : (new : Net) (number : ℕ) (b : Bool) → number < length free → not (is_used new number) ≡ b → ((n : ℕ) → (n ≡ number → ⊥) → is_used new n ≡ is_used net n) → AreFree (set free number b) new
  one_changed new number b within is others n = by_number (are_same_or_not n number)
    where
      by_number : (n ≡ number) ⊎ (n ≡ number → ⊥) → is_free (set free number b) n ≡ not (is_used new n)
      by_number (inl same) = ap (is_free (set free number b)) same ∙ get_or-set_same free number b true within ∙ sym is ∙ ap (λ m. not (is_used new m)) (sym same)
      by_number (inr other) = get_or-set_other free number n b true other ∙ are n ∙ ap not (sym (others n other))

  pub root_taken : (number stream : ℕ) (new : Net) → number < length free → AddsRoot number stream net new → AreFree (set free number false) new
  root_taken number stream new within adds = one_changed new number false within (ap (λ slot. not (is_some slot)) adds.here) (λ n other. ap is_some (adds.others n other))

  pub hop_taken : (number before : ℕ) (hop : Hop) (new : Net) → number < length free → AddsHop number before hop net new → AreFree (set free number false) new
  hop_taken number before hop new within adds = one_changed new number false within (ap (λ slot. not (is_some slot)) adds.here) (λ n other. used_as net new n (came_entry number before hop net new adds n other))

  pub state_freed : (number : ℕ) (new : Net) → number < length free → RemovesState number net new → AreFree (set free number true) new
  state_freed number new within removes = one_changed new number true within (ap (λ slot. not (is_some slot)) removes.here) (λ n other. used_as net new n (left_entry number net new removes n other))

  pub end_stays : (state : ℕ) (end : End) (new : Net) → AddsEnd state end net new → AreFree free new
  end_stays state end new adds = free_kept new (λ n. by_number n (are_same_or_not n state))
    where
      by_number : (n : ℕ) → (n ≡ state) ⊎ (n ≡ state → ⊥) → is_used new n ≡ is_used net n
      by_number n (inl same) = ap (is_used new) same ∙ used_as net new state (ap entrance_in adds.here ∙ end_entry end (state_at net state)) ∙ ap (is_used net) (sym same)
      by_number n (inr other) = ap is_some (adds.others n other)

-- the same numbers are free
pub free_listed : (free more : List Bool) (net : Net) → AreFree free net → ((n : ℕ) → is_free more n ≡ is_free free n) → AreFree more net
free_listed free more net are same n = same n ∙ are n

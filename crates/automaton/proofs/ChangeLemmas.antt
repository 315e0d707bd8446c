-- Networks that change by a state, an edge or an end stay networks.
use Rattle.std.proofs.Common.{◌≡◌, ◌⊎◌, ◌∙◌, sym, ap, refl, subst, inl, inr, ℕ, ◌+◌, ◌==◌, Bool, true, false, IsTrue, List, [], ◌∷◌, ◌++◌, arith}
use Rattle.std.specs.Prelude.{Option, Some, None, is_some, count_by}
use Rattle.std.specs.List.{swap_remove}
use Rattle.std.specs.Option.{option_and_then}
use Rattle.automaton.specs.declared.line.Hop.{Hop}
use Rattle.automaton.specs.declared.network.End.{End}
use Rattle.automaton.specs.declared.network.Entrance.{Entrance}
use Rattle.automaton.specs.declared.network.State.{State}
use Rattle.automaton.specs.Changes.{AddsEnd, AddsHop, AddsRoot, RemovesEnd, with_edges, with_ends}
use Rattle.automaton.specs.Networks.{IsAt, IsNetwork}
use Rattle.automaton.specs.Prefixes.{Prefix, Root, After}
use Rattle.automaton.specs.States.{Net, before_at, before_by, before_in, edges_at, edges_in, ends_at, entrance_at, entrance_in, is_used, root_by, state_at, tells}
use Rattle.automaton.proofs.CountLemmas.{bit, count-push}
use Rattle.event_types.proofs.NumberLemmas.{is_other, is_same}
use Rattle.automaton.proofs.NumberLemmas.{are_same_or_not}
use Rattle.automaton.proofs.SlotLemmas.{KeepsEntries, at_kept, edge_edges, edge_entry, end_edges, end_entry}

-- a state is used where it is entered somehow
pub entry_there : (slot : Option State) → is_some (entrance_in slot) ≡ is_some slot
entry_there None = refl
entry_there (Some state) = refl

-- no state is there
pub nothing_there : (slot : Option State) → is_some slot ≡ false → slot ≡ None
nothing_there None free = refl
nothing_there (Some state) free = cc

-- a state is there
pub something_there : (net : Net) (number : ℕ) (e : Entrance) → entrance_at net number ≡ Some e → is_used net number ≡ true
something_there net number e is = sym (entry_there (state_at net number)) ∙ ap is_some is

-- where all states are entered as before, and the same edges lead from each
pub network_alike : (old new : Net) → ((number : ℕ) → entrance_at new number ≡ entrance_at old number) → ((number : ℕ) → edges_at new number ≡ edges_at old number) → IsNetwork old → IsNetwork new
network_alike old new entries edges is = record {
  places = λ number used.
      (let was : is_used old number ≡ true = sym (entry_there (state_at old number)) ∙ ap is_some (sym (entries number)) ∙ entry_there (state_at new number) ∙ used in
      let place = is.places number was in
      (place.0, at_kept old new (λ n e there. entries n ∙ there) number place.0 place.1));
  edges = λ number next. ap (count_by (λ edge. edge == next)) (edges number) ∙ is.edges number next ∙ ap (λ o. bit (tells number (option_and_then before_by o))) (sym (entries next));
}

-- what is read of each state, where the one that changes reads as before
pub reads_alike : {X : Type 0} (f : Option State → X) (old new : Net) (number : ℕ) → f (state_at new number) ≡ f (state_at old number)
    → ((other : ℕ) → (other ≡ number → ⊥) → state_at new other ≡ state_at old other) → (other : ℕ) → f (state_at new other) ≡ f (state_at old other)
reads_alike f old new number here others other = by_number (are_same_or_not other number)
  where
    by_number : (other ≡ number) ⊎ (other ≡ number → ⊥) → f (state_at new other) ≡ f (state_at old other)
    by_number (inl same) = ap (λ n. f (state_at new n)) same ∙ here ∙ ap (λ n. f (state_at old n)) (sym same)
    by_number (inr ne) = ap f (others other ne)

-- an end comes or leaves
pub adds_end_network : (state : ℕ) (end : End) (old new : Net) → AddsEnd state end old new → IsNetwork old → IsNetwork new
adds_end_network state end old new adds = network_alike old new
    (reads_alike entrance_in old new state (ap entrance_in adds.here ∙ end_entry end (state_at old state)) adds.others)
    (reads_alike edges_in old new state (ap edges_in adds.here ∙ end_edges end (state_at old state)) adds.others)

-- a state with other ends has the same entry
pub ends_entry : (ends : List End) (slot : Option State) → entrance_in (with_ends ends slot) ≡ entrance_in slot
ends_entry ends None = refl
ends_entry ends (Some state) = refl

ends_edges : (ends : List End) (slot : Option State) → edges_in (with_ends ends slot) ≡ edges_in slot
ends_edges ends None = refl
ends_edges ends (Some state) = refl

-- a state with other edges has the same entry
pub edges_entry : (edges : List ℕ) (slot : Option State) → entrance_in (with_edges edges slot) ≡ entrance_in slot
edges_entry edges None = refl
edges_entry edges (Some state) = refl

-- a network without an end is a network
pub removes_end_network : (state place : ℕ) (old new : Net) → RemovesEnd state place old new → IsNetwork old → IsNetwork new
removes_end_network state place old new removes =
    let left = swap_remove (ends_at old state) place removes.gone in
    network_alike old new
    (reads_alike entrance_in old new state (ap entrance_in removes.here ∙ ends_entry left (state_at old state)) removes.others)
    (reads_alike edges_in old new state (ap edges_in removes.here ∙ ends_edges left (state_at old state)) removes.others)

-- a number that no state had
module _ (old new : Net) (number : ℕ) (free : is_used old number ≡ false) where
  -- the free place reads as one with no state
  pub free_reads : {X : Type 0} (f : Option State → X) → f (state_at old number) ≡ f None
  free_reads f = ap f (nothing_there (state_at old number) free)

  -- where the entries of the other places are the same, all entries are kept
  pub free_kept : ((other : ℕ) → (other ≡ number → ⊥) → entrance_at new other ≡ entrance_at old other) → KeepsEntries old new
  free_kept entries other e is = entries other (λ same. let gone : entrance_at old number ≡ None = free_reads entrance_in in let there : entrance_at old number ≡ Some e = ap (entrance_at old) (sym same) ∙ is in cc) ∙ is

  -- each state has a prefix still, where the new one has
  pub free_places : ((other : ℕ) → (other ≡ number → ⊥) → entrance_at new other ≡ entrance_at old other) → (prefix : Prefix) → IsAt new number prefix → IsNetwork old → (n : ℕ) → IsTrue (is_used new n) → (p : Prefix) × IsAt new n p
  free_places entries prefix here is n used = by_number (are_same_or_not n number)
    where
      by_number : (n ≡ number) ⊎ (n ≡ number → ⊥) → (p : Prefix) × IsAt new n p
      by_number (inl same) = (prefix, subst (λ m. IsAt new m prefix) (sym same) here)
      by_number (inr ne) =
          let was : is_used old n ≡ true = sym (entry_there (state_at old n)) ∙ ap is_some (sym (entries n ne)) ∙ entry_there (state_at new n) ∙ used in
          let place = is.places n was in
          (place.0, at_kept old new (free_kept entries) n place.0 place.1)

-- a root state comes
pub adds_root_network : (number stream : ℕ) (old new : Net) → is_used old number ≡ false → AddsRoot number stream old new → IsNetwork old → IsNetwork new
adds_root_network number stream old new free adds is =
    let edges = reads_alike edges_in old new number (ap edges_in adds.here ∙ sym (free_reads old new number free edges_in)) adds.others in
    let befores = reads_alike before_in old new number (ap before_in adds.here ∙ sym (free_reads old new number free before_in)) adds.others in
    record {
      places = free_places old new number free (λ other ne. ap entrance_in (adds.others other ne)) (Root stream) (ap (λ slot. option_and_then root_by (entrance_in slot)) adds.here) is;
      edges = λ from next. ap (count_by (λ edge. edge == next)) (edges from) ∙ is.edges from next ∙ ap (λ o. bit (tells from o)) (sym (befores next));
    }

-- a waiting state comes
module _ (number before : ℕ) (hop : Hop) (old new : Net) (free : is_used old number ≡ false) (used : is_used old before ≡ true) (adds : AddsHop number before hop old new) (is : IsNetwork old) where
  -- the state before isn't the new one
  pub hop_apart : before ≡ number → ⊥
  hop_apart same = let none : is_used old before ≡ false = ap (is_used old) same ∙ free in absurd (let no : true ≡ false = sym used ∙ none in cc)

  -- each other state has the same entry
  pub hop_entry : (other : ℕ) → (other ≡ number → ⊥) → entrance_at new other ≡ entrance_at old other
  hop_entry other ne = by_number (are_same_or_not other before)
    where
      by_number : (other ≡ before) ⊎ (other ≡ before → ⊥) → entrance_at new other ≡ entrance_at old other
      by_number (inl same) = ap (entrance_at new) same ∙ ap entrance_in adds.edge ∙ edge_entry number (state_at old before) ∙ ap (entrance_at old) (sym same)
      by_number (inr nb) = ap entrance_in (adds.others other ne nb)

  -- each state but the one before has the same edges
  pub hop_edges : (other : ℕ) → (other ≡ before → ⊥) → edges_at new other ≡ edges_at old other
  hop_edges other nb = by_number (are_same_or_not other number)
    where
      by_number : (other ≡ number) ⊎ (other ≡ number → ⊥) → edges_at new other ≡ edges_at old other
      by_number (inl same) = ap (edges_at new) same ∙ ap edges_in adds.here ∙ sym (free_reads old new number free edges_in) ∙ ap (edges_at old) (sym same)
      by_number (inr ne) = ap edges_in (adds.others other ne nb)

  -- the state before has the edge to the new one too
  pub edges_before : edges_at new before ≡ edges_at old before ++ number ∷ []
  edges_before = ap edges_in adds.edge ∙ edge_edges number (state_at old before) used

  told_here : before_at new number ≡ Some before
  told_here = ap before_in adds.here

  told_other : (next : ℕ) → (next ≡ number → ⊥) → before_at new next ≡ before_at old next
  told_other next ne = ap (option_and_then before_by) (hop_entry next ne)

  hop_counts : (from next : ℕ) → count_by (λ edge. edge == next) (edges_at new from) ≡ bit (tells from (before_at new next))
  hop_counts from next = by_numbers (are_same_or_not from before) (are_same_or_not next number)
    where
      is_next : ℕ → Bool
      is_next edge = edge == next

      more : from ≡ before → count_by is_next (edges_at new from) ≡ count_by is_next (edges_at old from) + bit (number == next)
      more same =
          ap (λ n. count_by is_next (edges_at new n)) same ∙ ap (count_by is_next) edges_before ∙ count-push is_next (edges_at old before) number
          ∙ ap (λ n. count_by is_next (edges_at old n) + bit (number == next)) (sym same)

      none : next ≡ number → bit (tells from (before_at old next)) ≡ 0
      none same = ap (λ n. bit (tells from (before_at old n))) same ∙ ap (λ o. bit (tells from o)) (free_reads old new number free before_in)

      told : next ≡ number → bit (tells from (before_at new next)) ≡ bit (before == from)
      told same = ap (λ n. bit (tells from (before_at new n))) same ∙ ap (λ o. bit (tells from o)) told_here

      by_numbers : (from ≡ before) ⊎ (from ≡ before → ⊥) → (next ≡ number) ⊎ (next ≡ number → ⊥) → count_by is_next (edges_at new from) ≡ bit (tells from (before_at new next))
      by_numbers (inl same) (inl last) =
          let one : bit (number == next) ≡ 1 = ap bit (is_same number next (sym last)) in
          let one' : bit (before == from) ≡ 1 = ap bit (is_same before from (sym same)) in
          omega (arith, more same, is.edges from next, none last, told last)
      by_numbers (inl same) (inr ne) =
          let zero' : bit (number == next) ≡ 0 = ap bit (is_other number next (λ e. ne (sym e))) in
          let kept : bit (tells from (before_at new next)) ≡ bit (tells from (before_at old next)) = ap (λ o. bit (tells from o)) (told_other next ne) in
          omega (arith, more same, is.edges from next)
      by_numbers (inr nt) (inl last) =
          let zero' : bit (before == from) ≡ 0 = ap bit (is_other before from (λ e. nt (sym e))) in
          let kept : count_by is_next (edges_at new from) ≡ count_by is_next (edges_at old from) = ap (count_by is_next) (hop_edges from nt) in
          omega (arith, is.edges from next, none last, told last)
      by_numbers (inr nt) (inr ne) = ap (count_by is_next) (hop_edges from nt) ∙ is.edges from next ∙ ap (λ o. bit (tells from o)) (sym (told_other next ne))

  -- a network with one more hop is a network
  pub adds_hop_network : IsNetwork new
  adds_hop_network =
      let place = is.places before used in
      record {
        places = free_places old new number free hop_entry (After place.0 hop) (before, ap entrance_in adds.here, at_kept old new (free_kept old new number free hop_entry) before place.0 place.1) is;
        edges = hop_counts;
      }

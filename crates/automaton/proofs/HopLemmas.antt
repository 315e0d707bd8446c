-- A line that comes one hop further.
use Rattle.std.proofs.Common.{◌≡◌, ◌⊎◌, ◌∙◌, sym, ap, subst, inl, inr, ℕ, suc, ◌+◌, ◌<◌, ◌==◌, Bool, true, cond, length, set, add-one, append_assoc, List, [], ◌∷◌, ◌++◌, arith}
use Rattle.std.specs.Prelude.{Option, Some, None, Contains, is_some, count_by}
use Rattle.std.specs.List.Sorted.{IsPermutation}
use Rattle.std.specs.Option.{option_and_then}
use Rattle.std.proofs.lemmas.List.{length-append}
use Rattle.std.proofs.lemmas.List.Elements.{Contains-append_left, Contains-push}
use Rattle.automaton.specs.declared.line.Hop.{Hop}
use Rattle.automaton.specs.declared.line.Line.{Line}
use Rattle.automaton.specs.declared.network.Entrance.TheVariants as entrance
use Rattle.automaton.specs.declared.network.State.{State}
use Rattle.automaton.specs.Growing.{IsGrown, hopped, with_edge}
use Rattle.automaton.specs.Networks.{IsAt}
use Rattle.automaton.specs.Plain.{numbered}
use Rattle.automaton.specs.Prefixes.{Prefix, After, beginnings, hops_of, prefixes}
use Rattle.automaton.specs.States.{Net, before_at, before_by, before_in, edges_at, edges_in, ends_at, ends_in, entrance_at, entrance_in, is_used, root_by, root_in, state_at, tells}
use Rattle.automaton.proofs.CountLemmas.{bit, count-push, count-set}
use Rattle.event_types.proofs.NumberLemmas.{is_other, is_same}
use Rattle.automaton.proofs.NumberLemmas.{are_same_or_not}
use Rattle.automaton.proofs.PlaceLemmas.{nothing_before, nothing_edged, endings_kept, entries_kept, none_behind, place_here, places_kept, prefixes_kept, with_place}
use Rattle.automaton.proofs.SlotLemmas.{at_kept, edge_edges, edge_ends, edge_entry, edge_is_some, hopped_here, hopped_length, hopped_other, hopped_reads, hopped_tip, used_below}

module _ (net : Net) (tip : ℕ) (hop : Hop) (used : is_used net tip ≡ true) where
  inside : tip < length net
  inside = used_below net tip used

  abbrev new_state : Option State
  new_state = Some (record { entrance = entrance.Waiting tip hop; edges = []; ends = [] })

  hop_entries : (number : ℕ) → (number ≡ length net → ⊥) → entrance_at (hopped tip hop net) number ≡ entrance_at net number
  hop_entries = hopped_reads entrance_in net tip hop inside (edge_entry (length net) (state_at net tip))

  hop_befores : (number : ℕ) → (number ≡ length net → ⊥) → before_at (hopped tip hop net) number ≡ before_at net number
  hop_befores number ne = ap (option_and_then before_by) (hop_entries number ne)

  hop_before_here : before_at (hopped tip hop net) (length net) ≡ Some tip
  hop_before_here = ap before_in (hopped_here net tip hop inside)

  hop_ends : (number : ℕ) → ends_at (hopped tip hop net) number ≡ ends_at net number
  hop_ends number = by_number (are_same_or_not number (length net))
    where
      by_number : (number ≡ length net) ⊎ (number ≡ length net → ⊥) → ends_at (hopped tip hop net) number ≡ ends_at net number
      by_number (inl same) = ap (ends_at (hopped tip hop net)) same ∙ ap ends_in (hopped_here net tip hop inside) ∙ sym (ap ends_in (none_behind net)) ∙ ap (ends_at net) (sym same)
      by_number (inr ne) = hopped_reads ends_in net tip hop inside (edge_ends (length net) (state_at net tip)) number ne

  hop_edges_tip : edges_at (hopped tip hop net) tip ≡ edges_at net tip ++ length net ∷ []
  hop_edges_tip = ap edges_in (hopped_tip net tip hop inside) ∙ edge_edges (length net) (state_at net tip) used

  hop_edges_other : (number : ℕ) → (number ≡ tip → ⊥) → edges_at (hopped tip hop net) number ≡ edges_at net number
  hop_edges_other number nt = by_number (are_same_or_not number (length net))
    where
      by_number : (number ≡ length net) ⊎ (number ≡ length net → ⊥) → edges_at (hopped tip hop net) number ≡ edges_at net number
      by_number (inl same) = ap (edges_at (hopped tip hop net)) same ∙ ap edges_in (hopped_here net tip hop inside) ∙ sym (nothing_edged net) ∙ ap (edges_at net) (sym same)
      by_number (inr ne) = ap edges_in (hopped_other net tip hop inside number ne nt)

  -- what a count of states is, where the edge doesn't change it
  hop_count : (p : Option State → Bool) → p (with_edge (length net) (state_at net tip)) ≡ p (state_at net tip) → count_by p (hopped tip hop net) ≡ count_by p net + cond (p new_state) 1 0
  hop_count p same =
      count-push p (set net tip (with_edge (length net) (state_at net tip))) new_state
      ∙ ap (λ n. n + cond (p new_state) 1 0) (count-set p net tip (with_edge (length net) (state_at net tip)) None inside same)

  -- edges lead from each state as they should
  hop_leads : ((number next : ℕ) → count_by (λ edge. edge == next) (edges_at net number) ≡ cond (tells number (before_at net next)) 1 0)
      → (number next : ℕ) → count_by (λ edge. edge == next) (edges_at (hopped tip hop net) number) ≡ cond (tells number (before_at (hopped tip hop net) next)) 1 0
  hop_leads old number next = by_numbers (are_same_or_not number tip) (are_same_or_not next (length net))
    where
      is_next : ℕ → Bool
      is_next edge = edge == next

      more : number ≡ tip → count_by is_next (edges_at (hopped tip hop net) number) ≡ count_by is_next (edges_at net number) + bit (length net == next)
      more same =
          ap (λ n. count_by is_next (edges_at (hopped tip hop net) n)) same ∙ ap (count_by is_next) hop_edges_tip ∙ count-push is_next (edges_at net tip) (length net)
          ∙ ap (λ n. count_by is_next (edges_at net n) + bit (length net == next)) (sym same)

      none : next ≡ length net → bit (tells number (before_at net next)) ≡ 0
      none same = ap (λ n. bit (tells number (before_at net n))) same ∙ ap (λ o. bit (tells number o)) (nothing_before net)

      told : next ≡ length net → bit (tells number (before_at (hopped tip hop net) next)) ≡ bit (tip == number)
      told same = ap (λ n. bit (tells number (before_at (hopped tip hop net) n))) same ∙ ap (λ o. bit (tells number o)) hop_before_here

      by_numbers : (number ≡ tip) ⊎ (number ≡ tip → ⊥) → (next ≡ length net) ⊎ (next ≡ length net → ⊥)
          → count_by is_next (edges_at (hopped tip hop net) number) ≡ bit (tells number (before_at (hopped tip hop net) next))
      by_numbers (inl same) (inl last) =
          let one : bit (length net == next) ≡ 1 = ap bit (is_same (length net) next (sym last)) in
          let one' : bit (tip == number) ≡ 1 = ap bit (is_same tip number (sym same)) in
          omega (arith, more same, old number next, none last, told last)
      by_numbers (inl same) (inr ne) =
          let zero' : bit (length net == next) ≡ 0 = ap bit (is_other (length net) next (λ e. ne (sym e))) in
          let kept : bit (tells number (before_at (hopped tip hop net) next)) ≡ bit (tells number (before_at net next)) = ap (λ o. bit (tells number o)) (hop_befores next ne) in
          omega (arith, more same, old number next)
      by_numbers (inr nt) (inl last) =
          let zero' : bit (tip == number) ≡ 0 = ap bit (is_other tip number (λ e. nt (sym e))) in
          let kept : count_by is_next (edges_at (hopped tip hop net) number) ≡ count_by is_next (edges_at net number) = ap (count_by is_next) (hop_edges_other number nt) in
          omega (arith, old number next, none last, told last)
      by_numbers (inr nt) (inr ne) = ap (count_by is_next) (hop_edges_other number nt) ∙ old number next ∙ ap (λ o. bit (tells number o)) (sym (hop_befores next ne))

  -- each waiting state but the new one leads on
  hop_apart : ((number before : ℕ) → before_at net number ≡ Some before → length (edges_at net number) + length (ends_at net number) ≡ cond (number == tip) 0 1)
      → (number before : ℕ) → before_at (hopped tip hop net) number ≡ Some before
      → length (edges_at (hopped tip hop net) number) + length (ends_at (hopped tip hop net) number) ≡ cond (number == length net) 0 1
  hop_apart old number before is = by_numbers (are_same_or_not number (length net)) (are_same_or_not number tip)
    where
      ends : length (ends_at (hopped tip hop net) number) ≡ length (ends_at net number)
      ends = ap length (hop_ends number)

      by_numbers : (number ≡ length net) ⊎ (number ≡ length net → ⊥) → (number ≡ tip) ⊎ (number ≡ tip → ⊥)
          → length (edges_at (hopped tip hop net) number) + length (ends_at (hopped tip hop net) number) ≡ cond (number == length net) 0 1
      by_numbers (inl same) t =
          let none : edges_at (hopped tip hop net) number ≡ [] = ap (edges_at (hopped tip hop net)) same ∙ ap edges_in (hopped_here net tip hop inside) in
          let none' : ends_at (hopped tip hop net) number ≡ [] = ap (ends_at (hopped tip hop net)) same ∙ ap ends_in (hopped_here net tip hop inside) in
          let want : cond {A = ℕ} (number == length net) 0 1 ≡ 0 = ap (λ (b : Bool). cond {A = ℕ} b 0 1) (is_same number (length net) same) in
          omega (arith, ap length none, ap length none')
      by_numbers (inr ne) (inl same) =
          let was = old number before (sym (hop_befores number ne) ∙ is) in
          let old_zero : cond {A = ℕ} (number == tip) 0 1 ≡ 0 = ap (λ (b : Bool). cond {A = ℕ} b 0 1) (is_same number tip same) in
          let want : cond {A = ℕ} (number == length net) 0 1 ≡ 1 = ap (λ (b : Bool). cond {A = ℕ} b 0 1) (is_other number (length net) ne) in
          let longer : length (edges_at (hopped tip hop net) number) ≡ length (edges_at net number) + 1 =
          ap (λ n. length (edges_at (hopped tip hop net) n)) same ∙ ap length hop_edges_tip ∙ length-append (edges_at net tip) (length net ∷ []) ∙ ap (λ n. length (edges_at net n) + 1) (sym same) in
          omega (arith, ends)
      by_numbers (inr ne) (inr nt) =
          let was = old number before (sym (hop_befores number ne) ∙ is) in
          let old_one : cond {A = ℕ} (number == tip) 0 1 ≡ 1 = ap (λ (b : Bool). cond {A = ℕ} b 0 1) (is_other number tip nt) in
          let want : cond {A = ℕ} (number == length net) 0 1 ≡ 1 = ap (λ (b : Bool). cond {A = ℕ} b 0 1) (is_other number (length net) ne) in
          let same : length (edges_at (hopped tip hop net) number) ≡ length (edges_at net number) = ap length (hop_edges_other number nt) in
          omega (arith, ends)

-- the line comes one hop further
pub grown_hop : (lines : List Line) (tip : ℕ) (prefix : Prefix) (hop : Hop) (net : Net) → IsGrown lines tip prefix net → IsGrown lines (length net) (After prefix hop) (hopped tip hop net)
grown_hop lines tip prefix hop net g =
    let used = g.used in
    let lt = used_below net tip used in
    let longer : length (hopped tip hop net) ≡ suc (length net) = hopped_length net tip hop lt ∙ add-one (length net) in
    let entries = hop_entries net tip hop used in
    let here : IsAt (hopped tip hop net) (length net) (After prefix hop) =
    (tip, ap entrance_in (hopped_here net tip hop lt), at_kept net (hopped tip hop net) (entries_kept net (hopped tip hop net) longer entries) tip prefix (subst (IsAt net tip) g.here (g.are_places tip used))) in
    let places = with_place (length net) (After prefix hop) g.places in
    let are = places_kept net (hopped tip hop net) longer entries g.places g.are_places (After prefix hop) here in
    let waits = hop_count net tip hop used (λ slot. is_some (before_in slot)) (ap (λ o. is_some (option_and_then before_by o)) (edge_entry (length net) (state_at net tip))) in
    record {
      network = record { places = λ number u. (places number, are number u); edges = hop_leads net tip hop used g.network.edges };
      places = places;
      are_places = are;
      here = place_here (length net) (After prefix hop) g.places;
      used = ap is_some (hopped_here net tip hop lt);
      same = subst (λ es. IsPermutation es (numbered 0 lines)) (sym (endings_kept net (hopped tip hop net) longer entries g.places g.are_places (After prefix hop) here (hop_ends net tip hop used))) g.same;
      prefixes_only =
          prefixes_kept net (hopped tip hop net) longer entries g.places g.are_places (After prefix hop) here (prefixes lines ++ beginnings (After prefix hop)) (λ number u. longer_prefixes (g.places number) (g.prefixes_only number u))
          (subst (λ among. Contains among (After prefix hop)) (append_assoc (prefixes lines) (beginnings prefix) (After prefix hop ∷ [])) (Contains-push (prefixes lines ++ beginnings prefix) (After prefix hop)));
      roots = λ stream.
          (let roots = hop_count net tip hop used (λ slot. tells stream (root_in slot)) (ap (λ o. tells stream (option_and_then root_by o)) (edge_entry (length net) (state_at net tip))) in roots ∙ omega arith ∙ g.roots stream);
      waiting = waits ∙ omega (arith, g.waiting, length-append (hops_of prefix) (hop ∷ []));
      apart = hop_apart net tip hop used g.apart;
      full = hop_count net tip hop used is_some (edge_is_some (length net) (state_at net tip)) ∙ omega (arith, g.full, longer);
    }
  where
    longer_prefixes : (other : Prefix) → Contains (prefixes lines ++ beginnings prefix) other → Contains (prefixes lines ++ beginnings (After prefix hop)) other
    longer_prefixes other has =
        subst (λ among. Contains among other) (append_assoc (prefixes lines) (beginnings prefix) (After prefix hop ∷ [])) (Contains-append_left (prefixes lines ++ beginnings prefix) (After prefix hop ∷ []) other has)

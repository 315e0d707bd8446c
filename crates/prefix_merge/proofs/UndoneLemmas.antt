-- A state that comes and is taken away again leaves the network as it was.
use Rattle.std.proofs.Common.{◌≡◌, ◌⊎◌, ◌∙◌, sym, ap, subst, inl, inr, ℕ, ◌+◌, ◌<◌, ◌≤◌, ◌==◌, max, true, false, length, take, arith}
use Rattle.std.specs.Prelude.{Option, Some, None, count_by}
use Rattle.std.proofs.lemmas.List.{ext_get_or, get_or-take, length-take}
use Rattle.automaton.specs.declared.line.Hop.{Hop}
use Rattle.automaton.specs.declared.network.State.{State}
use Rattle.automaton.specs.Changes.{AddsHop, AddsRoot, LosesEdge, RemovesState, with_edge}
use Rattle.automaton.specs.Networks.{IsNetwork}
use Rattle.automaton.specs.States.{Net, before_at, before_in, edges_at, edges_in, is_used, state_at, tells}
use Rattle.automaton.proofs.ChangeLemmas.{free_reads, nothing_there}
use Rattle.automaton.proofs.CountLemmas.{bit}
use Rattle.event_types.proofs.NumberLemmas.{is_other}
use Rattle.automaton.proofs.NumberLemmas.{are_same_or_not}
use Rattle.prefix_merge.proofs.EdgeLemmas.{last_undone}

-- an edge that came is taken away
edge_undone : (number : ℕ) (slot left : Option State) → count_by (λ edge. edge == number) (edges_in slot) ≡ 0 → LosesEdge number (with_edge number slot) left → left ≡ slot
edge_undone number None left none loses = loses.rest
edge_undone number (Some state) left none loses = loses.rest ∙ (λ i. Some (record { entrance = state.entrance; edges = last_undone state.edges loses.place number none loses.there i; ends = state.ends }))

module _ (number places : ℕ) (old new left undone : Net) (free : is_used old number ≡ false) (next : number ≤ length old) (counted : places ≡ length old) (longer : length new ≡ max (length old) (number + 1))
    (removes : RemovesState number new left) (is : undone ≡ take places left) where
  -- where each number has its old state
  pub undone_all : ((other : ℕ) → (other ≡ number → ⊥) → state_at left other ≡ state_at old other) → undone ≡ old
  undone_all others = is ∙ ext_get_or None (take places left) old same_length each
    where
      same_length : length (take places left) ≡ length old
      same_length = let shorter = length-take places left in let kept = removes.places in omega (arith, shorter, kept, longer, counted)

      each : (k : ℕ) → k < length (take places left) → state_at (take places left) k ≡ state_at old k
      each k lt = get_or-take places left k None (omega (arith, lt, same_length, counted)) ∙ by_number (are_same_or_not k number)
        where
          by_number : (k ≡ number) ⊎ (k ≡ number → ⊥) → state_at left k ≡ state_at old k
          by_number (inl same) = ap (state_at left) same ∙ removes.here ∙ sym (nothing_there (state_at old number) free) ∙ ap (state_at old) (sym same)
          by_number (inr ne) = others k ne

-- a root state
pub root_undone : (number places stream : ℕ) (old new left undone : Net) → is_used old number ≡ false → number ≤ length old → places ≡ length old → AddsRoot number stream old new → RemovesState number new left → undone ≡ take places left → undone ≡ old
root_undone number places stream old new left undone free next counted adds removes is =
    undone_all number places old new left undone free next counted adds.places removes is
    (λ other ne. removes.others other ne (ap (λ slot. tells other (before_in slot)) adds.here) ∙ adds.others other ne)

-- a waiting state
pub hop_undone : (number places before : ℕ) (hop : Hop) (old new left undone : Net) → IsNetwork old → is_used old before ≡ true → is_used old number ≡ false → number ≤ length old → places ≡ length old → AddsHop number before hop old new
    → RemovesState number new left → undone ≡ take places left → undone ≡ old
hop_undone number places before hop old new left undone network used free next counted adds removes is =
    undone_all number places old new left undone free next counted adds.places removes is others
  where
    from : before_at new number ≡ Some before
    from = ap before_in adds.here

    none : count_by (λ edge. edge == number) (edges_at old before) ≡ 0
    none = network.edges before number ∙ ap (λ o. bit (tells before o)) (free_reads old new number free before_in)

    others : (other : ℕ) → (other ≡ number → ⊥) → state_at left other ≡ state_at old other
    others other ne = by_number (are_same_or_not other before)
      where
        by_number : (other ≡ before) ⊎ (other ≡ before → ⊥) → state_at left other ≡ state_at old other
        by_number (inl same) =
            ap (state_at left) same ∙ edge_undone number (state_at old before) (state_at left before) none (subst (λ slot. LosesEdge number slot (state_at left before)) adds.edge (removes.edge before from)) ∙ ap (state_at old) (sym same)
        by_number (inr nb) = removes.others other ne (ap (tells other) from ∙ is_other before other (λ e. nb (sym e))) ∙ adds.others other ne nb

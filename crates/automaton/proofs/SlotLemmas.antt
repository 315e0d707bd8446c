-- What stands at the numbers of a network that grows.
use Rattle.std.proofs.Common.{◌≡◌, ◌⊎◌, ◌∙◌, sym, ap, refl, subst, inl, inr, ℕ, ◌+◌, ◌<◌, ◌≤◌, length, set, true, [], ◌∷◌, ◌++◌, arith}
use Rattle.std.specs.Prelude.{Option, Some, None, is_some}
use Rattle.std.specs.Option.{option_and_then}
use Rattle.std.proofs.Math.ListN.{get_or-append}
use Rattle.std.proofs.Math.Seq.{get_or-append_seam}
use Rattle.std.proofs.lemmas.Bool.{cases_lt}
use Rattle.std.proofs.lemmas.List.{length-append, length-set, get_or_past, get_or-set_same, get_or-set_other}
use Rattle.automaton.specs.declared.line.Hop.{Hop}
use Rattle.automaton.specs.declared.network.End.{End}
use Rattle.automaton.specs.declared.network.Entrance.{Entrance}
use Rattle.automaton.specs.declared.network.Entrance.TheVariants as entrance
use Rattle.automaton.specs.declared.network.State.{State}
use Rattle.automaton.specs.Growing.{ended, hopped, with_edge, with_end}
use Rattle.automaton.specs.Networks.{IsAt}
use Rattle.automaton.specs.Prefixes.{Prefix, Root, After}
use Rattle.automaton.specs.States.{Net, edges_in, ends_in, entrance_at, entrance_in, is_used, root_at, root_by, state_at}
use Rattle.automaton.proofs.NumberLemmas.{are_same_or_not}

-- a number that is used is below the length
pub used_below : (net : Net) (number : ℕ) → is_used net number ≡ true → number < length net
used_below net number used = by_order (cases_lt number (length net))
  where
    by_order : (number < length net) ⊎ (length net ≤ number) → number < length net
    by_order (inl lt) = lt
    by_order (inr le) = let none : is_some (state_at net number) ≡ is_some {T = State} None = ap is_some (get_or_past net number None le) in cc

-- a state behind all others
module _ (net : Net) (slot : Option State) where
  -- the slot that was put stands at the end
  pub pushed_here : state_at (net ++ slot ∷ []) (length net) ≡ slot
  pushed_here = get_or-append_seam net slot [] None

  -- each other place is as it was
  pub pushed_other : (number : ℕ) → (number ≡ length net → ⊥) → state_at (net ++ slot ∷ []) number ≡ state_at net number
  pushed_other number ne = by_order (cases_lt number (length net))
    where
      by_order : (number < length net) ⊎ (length net ≤ number) → state_at (net ++ slot ∷ []) number ≡ state_at net number
      by_order (inl lt) = get_or-append net (slot ∷ []) None number lt
      by_order (inr le) =
          let more : number ≡ length net → ⊥ = ne in
          let past : length (net ++ slot ∷ []) ≤ number = omega (arith, length-append net (slot ∷ [])) in
          get_or_past (net ++ slot ∷ []) number None past ∙ sym (get_or_past net number None le)

-- a slot that is changed
module _ (net : Net) (tip : ℕ) (slot : Option State) where
  -- the changed place has the new slot
  pub changed_here : tip < length net → state_at (set net tip slot) tip ≡ slot
  changed_here lt = get_or-set_same net tip slot None lt

  -- each other place is as it was
  pub changed_other : (number : ℕ) → (number ≡ tip → ⊥) → state_at (set net tip slot) number ≡ state_at net number
  changed_other number ne = get_or-set_other net tip number slot None ne

-- a hop
module _ (net : Net) (tip : ℕ) (hop : Hop) (inside : tip < length net) where
  -- the new state stands at the end, behind the tip
  pub hopped_here : state_at (hopped tip hop net) (length net) ≡ Some (record { entrance = entrance.Waiting tip hop; edges = []; ends = [] })
  hopped_here =
      let changed = set net tip (with_edge (length net) (state_at net tip)) in
      let new : Option State = Some (record { entrance = entrance.Waiting tip hop; edges = []; ends = [] }) in
      ap (λ (n : ℕ). state_at (changed ++ new ∷ []) n) (sym (length-set net tip (with_edge (length net) (state_at net tip)))) ∙ pushed_here changed new

  module _ (number : ℕ) (ne : number ≡ length net → ⊥) where
    hopped_changed : state_at (hopped tip hop net) number ≡ state_at (set net tip (with_edge (length net) (state_at net tip))) number
    hopped_changed =
        let same = length-set net tip (with_edge (length net) (state_at net tip)) in
        pushed_other (set net tip (with_edge (length net) (state_at net tip))) (Some (record { entrance = entrance.Waiting tip hop; edges = []; ends = [] })) number (λ e. ne (e ∙ same))

    -- each other place but the tip is as it was
    pub hopped_other : (number ≡ tip → ⊥) → state_at (hopped tip hop net) number ≡ state_at net number
    hopped_other nt = hopped_changed ∙ changed_other net tip (with_edge (length net) (state_at net tip)) number nt

  -- the tip has one edge more
  pub hopped_tip : state_at (hopped tip hop net) tip ≡ with_edge (length net) (state_at net tip)
  hopped_tip = hopped_changed tip (λ e. absurd (omega (arith, inside, e))) ∙ changed_here net tip (with_edge (length net) (state_at net tip)) inside

  -- there is one place more
  pub hopped_length : length (hopped tip hop net) ≡ length net + 1
  hopped_length =
      length-append (set net tip (with_edge (length net) (state_at net tip))) (Some (record { entrance = entrance.Waiting tip hop; edges = []; ends = [] }) ∷ [])
      ∙ ap (λ n. n + 1) (length-set net tip (with_edge (length net) (state_at net tip)))

-- what an edge and an end leave as it was
pub edge_entry : (next : ℕ) (slot : Option State) → entrance_in (with_edge next slot) ≡ entrance_in slot
edge_entry next None = refl
edge_entry next (Some state) = refl

-- an edge changes no ends
pub edge_ends : (next : ℕ) (slot : Option State) → ends_in (with_edge next slot) ≡ ends_in slot
edge_ends next None = refl
edge_ends next (Some state) = refl

-- it is the last of the edges
pub edge_edges : (next : ℕ) (slot : Option State) → is_some slot ≡ true → edges_in (with_edge next slot) ≡ edges_in slot ++ next ∷ []
edge_edges next None used = cc
edge_edges next (Some state) used = refl

-- an end changes no entry
pub end_entry : (end : End) (slot : Option State) → entrance_in (with_end end slot) ≡ entrance_in slot
end_entry end None = refl
end_entry end (Some state) = refl

-- and no edges
pub end_edges : (end : End) (slot : Option State) → edges_in (with_end end slot) ≡ edges_in slot
end_edges end None = refl
end_edges end (Some state) = refl

-- it is the last of the ends
pub end_ends : (end : End) (slot : Option State) → is_some slot ≡ true → ends_in (with_end end slot) ≡ ends_in slot ++ end ∷ []
end_ends end None used = cc
end_ends end (Some state) used = refl

-- an edge makes and takes no state
pub edge_is_some : (next : ℕ) (slot : Option State) → is_some (with_edge next slot) ≡ is_some slot
edge_is_some next None = refl
edge_is_some next (Some state) = refl

-- nor does an end
pub end_is_some : (end : End) (slot : Option State) → is_some (with_end end slot) ≡ is_some slot
end_is_some end None = refl
end_is_some end (Some state) = refl

-- what is read of a slot, where the edge or the end that comes doesn't change it
module _ {X : Type 0} (f : Option State → X) (net : Net) (tip : ℕ) where
  -- what an edge doesn't change is the same at each place but the new one
  pub hopped_reads : (hop : Hop) → tip < length net → f (with_edge (length net) (state_at net tip)) ≡ f (state_at net tip) → (number : ℕ) → (number ≡ length net → ⊥) → f (state_at (hopped tip hop net) number) ≡ f (state_at net number)
  hopped_reads hop inside kept number ne = elim (are_same_or_not number tip) [ inl same ↦ at_tip same | inr nt ↦ ap f (hopped_other net tip hop inside number ne nt) ]
    where
      at_tip : number ≡ tip → f (state_at (hopped tip hop net) number) ≡ f (state_at net number)
      at_tip same = ap (λ n. f (state_at (hopped tip hop net) n)) same ∙ ap f (hopped_tip net tip hop inside) ∙ kept ∙ ap (λ n. f (state_at net n)) (sym same)

  -- what an end doesn't change is the same at each place
  pub ended_reads : (end : End) → tip < length net → f (with_end end (state_at net tip)) ≡ f (state_at net tip) → (number : ℕ) → f (state_at (ended tip end net) number) ≡ f (state_at net number)
  ended_reads end inside kept number = elim (are_same_or_not number tip) [ inl same ↦ at_tip same | inr nt ↦ ap f (changed_other net tip (with_end end (state_at net tip)) number nt) ]
    where
      at_tip : number ≡ tip → f (state_at (ended tip end net) number) ≡ f (state_at net number)
      at_tip same = ap (λ n. f (state_at (ended tip end net) n)) same ∙ ap f (changed_here net tip (with_end end (state_at net tip)) inside) ∙ kept ∙ ap (λ n. f (state_at net n)) (sym same)

-- prefixes
-- what was entered somehow is entered so still
abbrev pub KeepsEntries : Net → Net → Type 0
KeepsEntries net grown = (number : ℕ) (e : Entrance) → entrance_at net number ≡ Some e → entrance_at grown number ≡ Some e

-- an entry that has a root stream is that of a root
pub root_entry : (o : Option Entrance) (stream : ℕ) → option_and_then root_by o ≡ Some stream → o ≡ Some (entrance.Root stream)
root_entry None stream e = cc
root_entry (Some (entrance.Root root)) stream e = let same : root ≡ stream = cc in ap (λ s. Some (entrance.Root s)) same
root_entry (Some (entrance.Waiting before hop)) stream e = cc

-- where entries are kept, each state has the same prefix
pub at_kept : (net grown : Net) → KeepsEntries net grown → (number : ℕ) (prefix : Prefix) → IsAt net number prefix → IsAt grown number prefix
at_kept net grown keeps number (Root stream) here = ap (option_and_then root_by) (keeps number (entrance.Root stream) (root_entry (entrance_at net number) stream here))
at_kept net grown keeps number (After prefix hop) here = (here.0, keeps number (entrance.Waiting here.0 hop) here.1, at_kept net grown keeps here.0 prefix here.2)

-- a state is there where it is entered somehow
pub entry_there : (slot : Option State) → is_some (entrance_in slot) ≡ is_some slot
entry_there None = refl
entry_there (Some state) = refl

-- and so where it stands for a prefix
pub at_used : (net : Net) (number : ℕ) (prefix : Prefix) → IsAt net number prefix → is_used net number ≡ true
at_used net number (Root stream) here = sym (entry_there (state_at net number)) ∙ ap is_some (root_entry (entrance_at net number) stream here)
at_used net number (After prefix hop) here = sym (entry_there (state_at net number)) ∙ ap is_some here.1

-- a root state stands for its stream alone
pub root_place : (net : Net) (number stream : ℕ) (prefix : Prefix) → root_at net number ≡ Some stream → IsAt net number prefix → prefix ≡ Root stream
root_place net number stream (Root root) is here = let same : root ≡ stream = cc in ap Root same
root_place net number stream (After prefix hop) is here =
    let none : root_at net number ≡ None = ap (option_and_then root_by) here.1 in absurd (let no : None ≡ Some stream = cc in cc)

-- a state stands for one prefix
pub at_one : (net : Net) (number : ℕ) (prefix other : Prefix) → IsAt net number prefix → IsAt net number other → prefix ≡ other
at_one net number (Root stream) other here there = sym (root_place net number stream other here there)
at_one net number (After prefix hop) (Root stream) here there = root_place net number stream (After prefix hop) there here
at_one net number (After prefix hop) (After other step) here there =
    let before : here.0 ≡ there.0 = cc in
    let same : hop ≡ step = cc in
    λ i. After (at_one net here.0 prefix other here.2 (subst (λ n. IsAt net n other) (sym before) there.2) i) (same i)

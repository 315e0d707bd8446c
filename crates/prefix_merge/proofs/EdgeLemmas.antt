-- Forward edges that come behind others or leave, and the last one takes their place.
use Rattle.std.proofs.Common.{◌≡◌, ◌⊎◌, ◌∙◌, sym, ap, refl, inl, inr, ℕ, ◌+◌, ◌<◌, ◌≤◌, ◌==◌, Bool, true, false, cond, IsTrue, length, get_or, take, List, [], ◌∷◌, ◌++◌, append-nil, arith}
use Rattle.std.specs.Prelude.{All, Option, Some, None, count_by, slice_get}
use Rattle.std.specs.List.{filter, swap_remove}
use Rattle.std.proofs.Math.ListN.{get_or-append}
use Rattle.std.proofs.Math.Seq.{take-append_seam}
use Rattle.std.proofs.lemmas.Bool.{cases_lt}
use Rattle.std.proofs.lemmas.List.{get_or-take, length-append, length-take, take_all, take_more}
use Rattle.std.proofs.lemmas.List.Elements.{All-from_get_or, All-get_or, All-head, All-tail, filter-append}
use Rattle.std.proofs.lemmas.Option.{get_or_from_slice_get, slice_get-get_or, slice_get_within}
use Rattle.automaton.specs.declared.network.State.{State}
use Rattle.automaton.specs.Changes.{LosesEdge, with_edges}
use Rattle.automaton.specs.States.{edges_in, ends_in}
use Rattle.automaton.proofs.CountLemmas.{count-has}
use Rattle.event_types.proofs.NumberLemmas.{is_same}
use Rattle.prefix_merge.proofs.SwapLemmas.{swapped_last}

-- a state that lost an edge has the same ends
pub lost_ends : (next : ℕ) (old new : Option State) → LosesEdge next old new → ends_in new ≡ ends_in old
lost_ends next old new loses = ap ends_in loses.rest ∙ go old
  where
    go : (slot : Option State) → ends_in (with_edges (swap_remove (edges_in old) loses.place next) slot) ≡ ends_in slot
    go None = refl
    go (Some state) = refl

-- the edge that came last leaves, and the others are left
pub last_undone : (edges : List ℕ) (place next : ℕ) → count_by (λ edge. edge == next) edges ≡ 0 → slice_get (edges ++ next ∷ []) place ≡ Some next → swap_remove (edges ++ next ∷ []) place next ≡ edges
last_undone edges place next none there =
    swapped_last (edges ++ next ∷ []) place next there (let longer = length-append edges (next ∷ []) in let at = at_end in omega (arith, longer, at)) ∙ ap (λ n. take n (edges ++ next ∷ [])) at_end ∙ take-append_seam edges (next ∷ [])
  where
    by_order : (place < length edges) ⊎ (length edges ≤ place) → place ≡ length edges
    by_order (inl lt) =
        let at : get_or edges place next ≡ next = sym (get_or-append edges (next ∷ []) next place lt) ∙ get_or_from_slice_get (edges ++ next ∷ []) place next next there in
        let some = count-has (λ edge. edge == next) edges place next lt (is_same (get_or edges place next) next at) in
        absurd (omega (arith, none, some))
    by_order (inr le) =
        let inside = slice_get_within (edges ++ next ∷ []) place next there in
        let longer = length-append edges (next ∷ []) in
        omega (arith, le, inside, longer)

    at_end : place ≡ length edges
    at_end = by_order (cases_lt place (length edges))

module _ (is_old : ℕ → Bool) where
  -- where all are old, all are kept
  pub all_stay : (edges : List ℕ) → All (λ edge. IsTrue (is_old edge)) edges → filter is_old edges ≡ edges
  all_stay [] all = refl
  all_stay (edge ∷ edges) all =
      λ i. cond (All-head (λ other. IsTrue (is_old other)) edge edges all i) (edge ∷ all_stay edges (All-tail (λ other. IsTrue (is_old other)) edge edges all) i) (filter is_old edges)

  -- one that isn't old stands behind the old ones
  pub new_behind : (edges : List ℕ) (edge : ℕ) → All (λ other. IsTrue (is_old other)) edges → (place next : ℕ) → slice_get (edges ++ edge ∷ []) place ≡ Some next → is_old next ≡ false → place + 1 ≡ length (edges ++ edge ∷ [])
  new_behind edges edge all place next there new = by_order (cases_lt place (length edges))
    where
      by_order : (place < length edges) ⊎ (length edges ≤ place) → place + 1 ≡ length (edges ++ edge ∷ [])
      by_order (inl lt) =
          let at : get_or edges place next ≡ next = sym (get_or-append edges (edge ∷ []) next place lt) ∙ get_or_from_slice_get (edges ++ edge ∷ []) place next next there in
          absurd (let no : true ≡ false = sym (All-get_or (λ other. IsTrue (is_old other)) edges place next lt all) ∙ ap is_old at ∙ new in cc)
      by_order (inr le) =
          let inside = slice_get_within (edges ++ edge ∷ []) place next there in
          let longer = length-append edges (edge ∷ []) in
          omega (arith, le, inside, longer)

  -- where none but the last isn't old, the old ones are those before it
  pub old_before : (edges : List ℕ) (place next : ℕ) → slice_get edges place ≡ Some next → is_old next ≡ false → ((k other : ℕ) → slice_get edges k ≡ Some other → is_old other ≡ false → k + 1 ≡ length edges) → filter is_old edges ≡ take place edges
  old_before edges place next there new last =
      ap (filter is_old) whole ∙ filter-append is_old (take place edges) (next ∷ []) ∙ (λ i. all_stay (take place edges) all i ++ cond (new i) (next ∷ []) []) ∙ append-nil (take place edges)
    where
      end : place + 1 ≡ length edges
      end = last place next there new

      whole : edges ≡ take place edges ++ next ∷ []
      whole =
          sym (take_all (place + 1) edges (let is = end in omega (arith, is))) ∙ take_more edges place next (slice_get_within edges place next there)
          ∙ ap (λ edge. take place edges ++ edge ∷ []) (get_or_from_slice_get edges place next next there)

      all : All (λ other. IsTrue (is_old other)) (take place edges)
      all = All-from_get_or (λ other. IsTrue (is_old other)) (take place edges) next (λ k lt. each k (let short = length-take place edges in omega (arith, lt, short)))
        where
          each : (k : ℕ) → k < place → is_old (get_or (take place edges) k next) ≡ true
          each k below = ap is_old (get_or-take place edges k next below) ∙ go (is_old (get_or edges k next)) refl
            where
              go : (b : Bool) → is_old (get_or edges k next) ≡ b → b ≡ true
              go true is = refl
              go false is = absurd (let inside = end in let at = last k (get_or edges k next) (slice_get-get_or edges k next (omega (arith, below, inside))) is in omega (arith, at, below, inside))

-- Two queries, of which the second is worked on first.
use Rattle.std.proofs.Common.{◌≡◌, refl, subst, sym, lit<, ℕ, List, [], ◌∷◌}
use Rattle.std.specs.Prelude.{slice_get}
use Rattle.std.specs.List.{filter_map}
use Rattle.std.specs.List.Sorted.{IsPermutation}
use Rattle.std.proofs.lemmas.List.Sorted.{IsPermutation-swap}
use Rattle.semantics.specs.Programs.{Query}

-- both are taken
pub turned : (first second : Query) (order : List ℕ) → order ≡ 1 ∷ 0 ∷ [] → IsPermutation (first ∷ second ∷ []) (filter_map (slice_get (first ∷ second ∷ [])) order)
turned first second order e =
    let there = first ∷ second ∷ [] in
    subst (λ (o : List ℕ). IsPermutation there (filter_map (slice_get there) o)) (sym e) (IsPermutation-swap there (second ∷ first ∷ []) 0 1 (lit< tt) (lit< tt) refl)

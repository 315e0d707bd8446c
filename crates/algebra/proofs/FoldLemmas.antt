-- One more event of a run.
use Rattle.std.proofs.Common.{◌≡◌, ℕ, zero, suc, ◌<◌, ◌-◌, List, ◌∷◌, arith, ap, subst}
use Rattle.std.specs.Prelude.{Some}
use Rattle.std.specs.List.{All, flat_map}
use Rattle.event_types.specs.Tuple.{TupleView}
use Rattle.semantics.specs.Scalars.{Sc, Pr}
use Rattle.semantics.specs.Runs.{goers, rebound, runs_within}
use Rattle.scalar_expr.specs.Fits.{Fits}
use Rattle.algebra.specs.Suits.{FitsPairs, SuitsRuns}

-- the new binding, and the runs from it of at most n events
abbrev pub branch : ℕ → List Pr → List Pr → List Sc → List TupleView → TupleView → TupleView → List TupleView
branch n p q m rs b r = rebound m b r ∷ runs_within n p q m rs (rebound m b r)

-- what a caller sees to at the new binding
abbrev pub SuitsBranch : ℕ → List Pr → List Pr → List Sc → List TupleView → TupleView → TupleView → Type 0
SuitsBranch n p q m rs b r = All (λ s. Fits s r (Some b)) m × SuitsRuns n p q m rs (rebound m b r)

-- the runs of some events are the branches of the goers
pub runs_within-some : (n : ℕ) (p q : List Pr) (m : List Sc) (rs : List TupleView) (b : TupleView) → 0 < n → runs_within n p q m rs b ≡ flat_map (branch (n - 1) p q m rs b) (goers p q rs b)
runs_within-some zero p q m rs b lt = absurd (omega arith)
runs_within-some (suc n) p q m rs b lt = let e : n ≡ suc n - 1 = omega arith in ap (λ k. flat_map (branch k p q m rs b) (goers p q rs b)) e

-- what suits runs of some events suits each branch
pub suits_branches : (n : ℕ) (p q : List Pr) (m : List Sc) (rs : List TupleView) (b : TupleView) → 0 < n → SuitsRuns n p q m rs b → FitsPairs p rs b × FitsPairs q rs b × All (SuitsBranch (n - 1) p q m rs b) (goers p q rs b)
suits_branches zero p q m rs b lt h = absurd (omega arith)
suits_branches (suc n) p q m rs b lt h = let e : n ≡ suc n - 1 = omega arith in (h.0, h.1, subst (λ (k : ℕ). All (SuitsBranch k p q m rs b) (goers p q rs b)) e h.2)

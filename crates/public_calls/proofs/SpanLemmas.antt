-- Conditions and scalars that read DUR alone fit every tuple.
use Rattle.std.proofs.Common.{ℕ, zero, suc, ◌<◌, length, List, [], ◌∷◌, arith}
use Rattle.std.specs.Prelude.{Some}
use Rattle.std.specs.List.{All}
use Rattle.std.proofs.lemmas.List.Elements.{All-nil, All-cons}
use Rattle.event_types.specs.Tuple.{TupleView}
use Rattle.event_types.specs.declared.comparison.Cmp.{Cmp}
use Rattle.event_types.specs.declared.value.Value.{Value}
use Rattle.semantics.specs.Denotation.{Streams, denote}
use Rattle.semantics.specs.Expressions.{Fold, Next, Read}
use Rattle.semantics.specs.Scalars.{Dur, Lit, Test}
use Rattle.semantics.specs.Runs.{goers, rebound}
use Rattle.scalar_expr.specs.Fits.{Fits, PredFits}
use Rattle.algebra.specs.Suits.{FitsPairs, Suits, SuitsRuns}
use Rattle.semantics.proofs.ListLemmas.{every}

-- TRUE fits
any_fits : (rs : List TupleView) (b : TupleView) → FitsPairs [] rs b
any_fits rs b = every (λ (r : TupleView). All (λ p. PredFits p r (Some b)) []) (λ r. All-nil (λ p. PredFits p r (Some b))) rs

-- a limit of the span fits
pub limit_fits : (c : Cmp) (v : Value) (rs : List TupleView) (b : TupleView) → FitsPairs (Test Dur c (Lit v) ∷ []) rs b
limit_fits c v rs b =
    every (λ (r : TupleView). All (λ p. PredFits p r (Some b)) (Test Dur c (Lit v) ∷ [])) (λ r. All-cons (λ p. PredFits p r (Some b)) (Test Dur c (Lit v)) [] (tt, tt) (All-nil (λ p. PredFits p r (Some b)))) rs

-- so do runs with a limit of the span, whose values are the span
span_runs : (n : ℕ) (c : Cmp) (v : Value) (rs : List TupleView) (b : TupleView) → SuitsRuns n [] (Test Dur c (Lit v) ∷ []) (Dur ∷ []) rs b
span_runs zero c v rs b = tt
span_runs (suc n) c v rs b = (
  any_fits rs b,
  limit_fits c v rs b,
  every (λ (r : TupleView). All (λ s. Fits s r (Some b)) (Dur ∷ []) × SuitsRuns n [] (Test Dur c (Lit v) ∷ []) (Dur ∷ []) rs (rebound (Dur ∷ []) b r))
      (λ r. (All-cons (λ s. Fits s r (Some b)) Dur [] tt (All-nil (λ s. Fits s r (Some b))), span_runs n c v rs (rebound (Dur ∷ []) b r)))
      (goers [] (Test Dur c (Lit v) ∷ []) rs b),
)

-- so does the whole of such an iteration over a sequence
pub span_suits : (n : ℕ) (c : Cmp) (v : Value) (streams : Streams) → 1 < n → Suits (Fold [] (Test Dur c (Lit v) ∷ []) (record { width = 2; parts = Dur ∷ [] }) (Next [] (Read 0) (Read 1)) (Read 1)) n streams
span_suits n c v streams lt = (
  (omega arith, lt, every (λ (b : TupleView). FitsPairs [] (streams 1) b) (any_fits (streams 1)) (streams 0)),
  lt,
  every (λ (b : TupleView). SuitsRuns (length (streams 1)) [] (Test Dur c (Lit v) ∷ []) (Dur ∷ []) (streams 1) b) (span_runs (length (streams 1)) c v (streams 1))
      (denote (Next [] (Read 0) (Read 1)) streams),
)

-- Steps with one more condition.
use Rattle.std.proofs.Common.{◌≡◌, ◌∙◌, sym, ap, refl, subst, ℕ, suc, ◌-◌, ◌<◌, length, set, List, [], ◌∷◌, ◌++◌, arith}
use Rattle.std.specs.Prelude.{Some, slice_get}
use Rattle.semantics.specs.Scalars.{Pr}
use Rattle.scalar_expr.specs.Canonical.{distinct_parts}
use Rattle.automaton.specs.declared.step.Stage.{Stage}
use Rattle.automaton.specs.declared.step.Stage.TheVariants.{Keep, Make}
use Rattle.splitter.specs.Stages.{kept}

-- the last stage of a longer step is that behind its first
one_less : (n : ℕ) → suc n - 1 ≡ n
one_less n = omega arith

last_behind : (first stage : Stage) (step : List Stage) → slice_get (first ∷ stage ∷ step) (length (first ∷ stage ∷ step) - 1) ≡ slice_get (stage ∷ step) (length (stage ∷ step) - 1)
last_behind first stage step =
    ap (slice_get (first ∷ stage ∷ step)) (one_less (length (stage ∷ step))) ∙ ap (slice_get (stage ∷ step)) (sym (one_less (length step)))

set_behind : (first stage : Stage) (step : List Stage) (new : Stage) → first ∷ set (stage ∷ step) (length (stage ∷ step) - 1) new ≡ set (first ∷ stage ∷ step) (length (first ∷ stage ∷ step) - 1) new
set_behind first stage step new =
    ap (λ n. first ∷ set (stage ∷ step) n new) (one_less (length step)) ∙ ap (λ n. set (first ∷ stage ∷ step) n new) (sym (one_less (length (stage ∷ step))))

-- a step that ends in a Keep
pub kept-last : (step : List Stage) (other condition : List Pr) → slice_get step (length step - 1) ≡ Some (Keep other)
    → (0 < length step) × (kept step condition ≡ set step (length step - 1) (Keep (distinct_parts (other ++ condition))))
kept-last [] other condition is = cc
kept-last (stage ∷ []) other condition is =
    let same : stage ≡ Keep other = cc in
    (omega arith, subst (λ (s : Stage). kept (s ∷ []) condition ≡ Keep (distinct_parts (other ++ condition)) ∷ []) (sym same) refl)
kept-last (Keep p ∷ stage ∷ step) other condition is =
    let more = kept-last (stage ∷ step) other condition (sym (last_behind (Keep p) stage step) ∙ is) in
    (omega arith, ap (λ (s : List Stage). Keep p ∷ s) more.1 ∙ set_behind (Keep p) stage step (Keep (distinct_parts (other ++ condition))))
kept-last (Make m ∷ stage ∷ step) other condition is =
    let more = kept-last (stage ∷ step) other condition (sym (last_behind (Make m) stage step) ∙ is) in
    (omega arith, ap (λ (s : List Stage). Make m ∷ s) more.1 ∙ set_behind (Make m) stage step (Keep (distinct_parts (other ++ condition))))

-- a step that ends in no Keep
pub kept-none : (step : List Stage) (condition : List Pr) → ((other : List Pr) → slice_get step (length step - 1) ≡ Some (Keep other) → ⊥) → kept step condition ≡ step ++ Keep condition ∷ []
kept-none [] condition none = refl
kept-none (Keep p ∷ []) condition none = absurd (none p refl)
kept-none (Make m ∷ []) condition none = refl
kept-none (Keep p ∷ stage ∷ step) condition none = ap (λ (s : List Stage). Keep p ∷ s) (kept-none (stage ∷ step) condition (λ other is. none other (last_behind (Keep p) stage step ∙ is)))
kept-none (Make m ∷ stage ∷ step) condition none = ap (λ (s : List Stage). Make m ∷ s) (kept-none (stage ∷ step) condition (λ other is. none other (last_behind (Make m) stage step ∙ is)))

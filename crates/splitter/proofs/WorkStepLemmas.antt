-- Steps with one more stage that are typed.
use Rattle.std.proofs.Common.{◌≡◌, ◌∙◌, sym, ap, refl, subst, ◌+◌, ◌==◌, Bool, true, false, cond, length, List, [], ◌∷◌, ◌++◌, append_assoc, arith}
use Rattle.std.specs.Prelude.{Some, None, slice_get}
use Rattle.std.specs.List.{All}
use Rattle.std.specs.Ordering.{eq_by_cmp, is_gt}
use Rattle.std.specs.declared.cmp.Ordering.{Ordering}
use Rattle.std.proofs.lemmas.List.{length-append}
use Rattle.std.proofs.lemmas.List.Elements.{All-cons, All-head, All-tail, All-append}
use Rattle.std.proofs.lemmas.List.Filters.{All-dedup}
use Rattle.event_types.specs.declared.kind.Kind.{Kind}
use Rattle.event_types.specs.Order.{put, sort_by}
use Rattle.semantics.specs.Scalars.{Pr, Projection, Sc, Lit, Event, Binding, Dur, Two}
use Rattle.semantics.specs.Typing.{AreOfKinds, AreTyped, IsTyped}
use Rattle.scalar_expr.specs.Canonical.{distinct_parts}
use Rattle.scalar_expr.specs.TermOrder.{pr_cmp}
use Rattle.event_types.proofs.NumberLemmas.{same_number}
use Rattle.automaton.specs.declared.step.Stage.{Stage}
use Rattle.automaton.specs.declared.step.Stage.TheVariants.{Keep, Make}
use Rattle.automaton.specs.LineKinds.{StageGives, StepGives}
use Rattle.splitter.specs.Stages.{are_events, is_identity, kept, staged}
use Rattle.splitter.proofs.LineLemmas.{get_next}
use Rattle.std.proofs.lemmas.Bool.{and_parts}

-- a Keep
-- what holds of all holds of all in order
module _ {X : Type 0} (cmp : X → X → Ordering) (P : X → Type 0) where
  put_all : (x : X) (xs : List X) → P x → All P xs → All P (put cmp x xs)
  put_all x [] here all = All-cons P x [] here all
  put_all x (y ∷ ys) here all =
      elim (is_gt (cmp x y)) as (λ b. All P (cond b (y ∷ put cmp x ys) (x ∷ y ∷ ys))) [
        | true ↦ All-cons P y (put cmp x ys) (All-head P y ys all) (put_all x ys here (All-tail P y ys all))
        | false ↦ All-cons P x (y ∷ ys) here all
      ]

  sorted_all : (xs : List X) → All P xs → All P (sort_by cmp xs)
  sorted_all [] all = all
  sorted_all (x ∷ xs) all = put_all x (sort_by cmp xs) (All-head P x xs all) (sorted_all xs (All-tail P x xs all))

distinct_typed : (parts : List Pr) (kinds : List Kind) → AreTyped parts kinds None → AreTyped (distinct_parts parts) kinds None
distinct_typed parts kinds typed =
    let P = λ (p : Pr). IsTyped p kinds None in All-dedup (eq_by_cmp pr_cmp) P (sort_by pr_cmp parts) (sorted_all pr_cmp P parts typed)

over_first : (condition : List Pr) (kinds mid : List Kind) → kinds ≡ mid → AreTyped condition mid None → AreTyped condition kinds None
over_first condition kinds mid same typed = subst (λ (k : List Kind). AreTyped condition k None) (sym same) typed

keep_gives : (step : List Stage) (condition : List Pr) (kinds mid : List Kind) → StepGives step kinds mid → AreTyped condition mid None → StepGives (kept step condition) kinds mid
keep_gives [] condition kinds mid h typed = (kinds, (over_first condition kinds mid h typed, refl), h)
keep_gives (Keep other ∷ []) condition kinds mid h typed = (
  h.0,
  (distinct_typed (other ++ condition) kinds (All-append (λ (p : Pr). IsTyped p kinds None) other condition h.1.0 (over_first condition kinds mid (h.1.1 ∙ h.2) typed)), h.1.1),
  h.2,
)
keep_gives (Make m ∷ []) condition kinds mid h typed = (h.0, h.1, keep_gives [] condition h.0 mid h.2 typed)
keep_gives (Keep p ∷ stage ∷ step) condition kinds mid h typed = (h.0, h.1, keep_gives (stage ∷ step) condition h.0 mid h.2 typed)
keep_gives (Make m ∷ stage ∷ step) condition kinds mid h typed = (h.0, h.1, keep_gives (stage ∷ step) condition h.0 mid h.2 typed)

-- a condition at the end of a step keeps the step's kinds
pub keep_staged : (condition : List Pr) (step : List Stage) (kinds mid : List Kind) → StepGives step kinds mid → AreTyped condition mid None → StepGives (staged step (Keep condition)) kinds mid
keep_staged [] step kinds mid h typed = h
keep_staged (p ∷ condition) step kinds mid h typed = keep_gives step (p ∷ condition) kinds mid h typed

-- a Make
stage_behind : (stage : Stage) (step : List Stage) (kinds mid out : List Kind) → StepGives step kinds mid → StageGives stage mid out → StepGives (step ++ stage ∷ []) kinds out
stage_behind stage [] kinds mid out h gives = (out, subst (λ (k : List Kind). StageGives stage k out) (sym h) gives, refl)
stage_behind stage (first ∷ step) kinds mid out h gives = (h.0, h.1, stage_behind stage step h.0 mid out h.2 gives)

-- attributes in turn have the kinds in turn
events_have : (parts : List Sc) (before after out : List Kind) → are_events (length before) parts ≡ true → length parts ≡ length after → AreOfKinds parts (before ++ after) None out → out ≡ after
events_have [] before [] [] in_turn same h = refl
events_have [] before [] (k ∷ out) in_turn same h = absurd h
events_have [] before (a ∷ after) out in_turn same h = absurd (omega (arith, same))
events_have (s ∷ parts) before [] out in_turn same h = absurd (omega (arith, same))
events_have (s ∷ parts) before (a ∷ after) [] in_turn same h = absurd h
events_have (Event place ∷ parts) before (a ∷ after) (k ∷ out) in_turn same h =
    let two = and_parts (place == length before) (are_events (length before + 1) parts) in_turn in
    let here : slice_get (before ++ a ∷ after) place ≡ Some a = ap (slice_get (before ++ a ∷ after)) (same_number place (length before) two.0) ∙ get_next before a after in
    let first : k ≡ a = let has = h.0 in cc in
    let longer : length before + 1 ≡ length (before ++ a ∷ []) = sym (length-append before (a ∷ [])) in
    let rest =
    events_have parts (before ++ a ∷ []) after out (subst (λ n. are_events n parts ≡ true) longer two.1) (omega (arith, same))
    (subst (λ (ks : List Kind). AreOfKinds parts ks None out) (sym (append_assoc before (a ∷ []) after)) h.1) in
    λ i. first i ∷ rest i
events_have (Lit w ∷ parts) before (a ∷ after) (k ∷ out) in_turn same h = absurd (let none : false ≡ true = in_turn in cc)
events_have (Binding place ∷ parts) before (a ∷ after) (k ∷ out) in_turn same h = absurd (let none : false ≡ true = in_turn in cc)
events_have (Dur ∷ parts) before (a ∷ after) (k ∷ out) in_turn same h = absurd (let none : false ≡ true = in_turn in cc)
events_have (Two op x y ∷ parts) before (a ∷ after) (k ∷ out) in_turn same h = absurd (let none : false ≡ true = in_turn in cc)

identity_has : (m : Projection) (mid out : List Kind) → is_identity m ≡ true → length mid ≡ m.width → AreOfKinds m.parts mid None out → mid ≡ out
identity_has m mid out is wide h =
    let two = and_parts (length m.parts == m.width) (are_events 0 m.parts) is in
    sym (events_have m.parts [] mid out two.1 (same_number (length m.parts) m.width two.0 ∙ sym wide) h)

-- a projection at the end of a step gives its own kinds
pub make_staged : (m : Projection) (step : List Stage) (kinds mid out : List Kind) → StepGives step kinds mid → length mid ≡ m.width → AreOfKinds m.parts mid None out → StepGives (staged step (Make m)) kinds out
make_staged m step kinds mid out h wide gives = go (is_identity m) refl
  where
    go : (b : Bool) → is_identity m ≡ b → StepGives (cond b step (step ++ Make m ∷ [])) kinds out
    go true is = subst (StepGives step kinds) (identity_has m mid out is wide gives) h
    go false is = stage_behind (Make m) step kinds mid out h gives

-- What passes a step with one more stage.
use Rattle.std.proofs.Common.{◌≡◌, ◌∙◌, sym, ap, refl, subst, ℕ, ◌+◌, ◌==◌, ◌&&◌, Bool, true, false, cond, length, get_or, List, [], ◌∷◌, ◌++◌, map, append_assoc, arith}
use Rattle.std.specs.Prelude.{Option, Some, None}
use Rattle.std.specs.Option.{option_and_then}
use Rattle.std.proofs.Math.Seq.{get_or-append_seam}
use Rattle.std.proofs.lemmas.List.{length-append}
use Rattle.std.proofs.lemmas.List.Folds.{list_all-append}
use Rattle.event_types.specs.declared.value.Value.{Value}
use Rattle.event_types.specs.declared.value.Value.TheVariants as value
use Rattle.event_types.specs.Tuple.{TupleView}
use Rattle.semantics.specs.Denotation.{selected}
use Rattle.semantics.specs.Scalars.{Pr, Projection, Sc, Lit, Event, Binding, Dur, Two}
use Rattle.semantics.specs.Truth.{all_true, truth}
use Rattle.semantics.specs.Values.{val}
use Rattle.scalar_expr.proofs.CanonicalLaws.{parts_keep_truth}
use Rattle.scalar_expr.specs.Canonical.{distinct_parts}
use Rattle.event_types.proofs.NumberLemmas.{same_number}
use Rattle.automaton.specs.declared.step.Stage.{Stage}
use Rattle.automaton.specs.declared.step.Stage.TheVariants.{Keep, Make}
use Rattle.automaton.specs.Steps.{pass, passed}
use Rattle.splitter.specs.Stages.{are_events, is_identity, kept, staged}
use Rattle.std.proofs.lemmas.Bool.{and_parts}

-- one stage behind a step
then_all : (o : Option TupleView) → option_and_then (λ u. Some u) o ≡ o
then_all None = refl
then_all (Some u) = refl

pass_one : (step : List Stage) (stage : Stage) (next : TupleView → Option TupleView) (o : Option TupleView) → ((u : TupleView) → pass (step ++ stage ∷ []) u ≡ option_and_then next (pass step u))
    → option_and_then (pass (step ++ stage ∷ [])) o ≡ option_and_then next (option_and_then (pass step) o)
pass_one step stage next None more = refl
pass_one step stage next (Some u) more = more u

-- one more stage takes what the step lets pass
pub pass_more : (stage : Stage) (step : List Stage) (t : TupleView) → pass (step ++ stage ∷ []) t ≡ option_and_then (passed stage) (pass step t)
pass_more stage [] t = then_all (passed stage t)
pass_more stage (first ∷ step) t = pass_one step stage (passed stage) (passed first t) (pass_more stage step)

-- a Keep
keep_both : (a b : Bool) (t : TupleView) → cond (a && b) (Some t) None ≡ option_and_then (λ u. cond b (Some t) None) (cond a (Some t) None)
keep_both true b t = refl
keep_both false b t = refl

-- two Keeps are one of both conditions
both_pass : (p q : List Pr) (t : TupleView) → passed (Keep (distinct_parts (p ++ q))) t ≡ option_and_then (passed (Keep q)) (passed (Keep p) t)
both_pass p q t =
    ap (λ b. cond b (Some t) None) (parts_keep_truth (p ++ q) t None ∙ list_all-append (λ r. truth r t None) p q) ∙ go (all_true p t None)
  where
    go : (a : Bool) → cond (a && all_true q t None) (Some t) None ≡ option_and_then (passed (Keep q)) (cond a (Some t) None)
    go true = refl
    go false = refl

kept_one : (step : List Stage) (condition : List Pr) (o : Option TupleView) → ((u : TupleView) → pass (kept step condition) u ≡ option_and_then (passed (Keep condition)) (pass step u))
    → option_and_then (pass (kept step condition)) o ≡ option_and_then (passed (Keep condition)) (option_and_then (pass step) o)
kept_one step condition None more = refl
kept_one step condition (Some u) more = more u

-- a condition that is kept at the end of a step tests what the step lets pass
pub pass_kept : (step : List Stage) (condition : List Pr) (t : TupleView) → pass (kept step condition) t ≡ option_and_then (passed (Keep condition)) (pass step t)
pass_kept [] condition t = then_all (passed (Keep condition) t)
pass_kept (Keep p ∷ []) condition t =
    then_all (passed (Keep (distinct_parts (p ++ condition))) t) ∙ both_pass p condition t ∙ ap (option_and_then (passed (Keep condition))) (sym (then_all (passed (Keep p) t)))
pass_kept (Make m ∷ []) condition t = kept_one [] condition (passed (Make m) t) (pass_kept [] condition)
pass_kept (Keep p ∷ stage ∷ step) condition t = kept_one (stage ∷ step) condition (passed (Keep p) t) (pass_kept (stage ∷ step) condition)
pass_kept (Make m ∷ stage ∷ step) condition t = kept_one (stage ∷ step) condition (passed (Make m) t) (pass_kept (stage ∷ step) condition)

-- attributes in turn give the values in turn
events_give : (parts : List Sc) (before after : List Value) (from at : ℕ) → are_events (length before) parts ≡ true → length parts ≡ length after
    → map (λ s. val s (record { vals = before ++ after; from = from; at = at }) None) parts ≡ after
events_give [] before [] from at in_turn same = refl
events_give [] before (v ∷ after) from at in_turn same = absurd (omega (arith, same))
events_give (s ∷ parts) before [] from at in_turn same = absurd (omega (arith, same))
events_give (Event place ∷ parts) before (v ∷ after) from at in_turn same =
    let both = and_parts (place == length before) (are_events (length before + 1) parts) in_turn in
    let here : get_or (before ++ v ∷ after) place value.Over ≡ v = ap (λ n. get_or (before ++ v ∷ after) n value.Over) (same_number place (length before) both.0) ∙ get_or-append_seam before v after value.Over in
    let longer : length before + 1 ≡ length (before ++ v ∷ []) = sym (length-append before (v ∷ [])) in
    let rest = events_give parts (before ++ v ∷ []) after from at (subst (λ n. are_events n parts ≡ true) longer both.1) (omega (arith, same)) in
    λ i. here i ∷ (ap (λ vs. map (λ s. val s (record { vals = vs; from = from; at = at }) None) parts) (sym (append_assoc before (v ∷ []) after)) ∙ rest) i
events_give (Lit w ∷ parts) before (v ∷ after) from at in_turn same = absurd (let none : false ≡ true = in_turn in cc)
events_give (Binding place ∷ parts) before (v ∷ after) from at in_turn same = absurd (let none : false ≡ true = in_turn in cc)
events_give (Dur ∷ parts) before (v ∷ after) from at in_turn same = absurd (let none : false ≡ true = in_turn in cc)
events_give (Two op x y ∷ parts) before (v ∷ after) from at in_turn same = absurd (let none : false ≡ true = in_turn in cc)

identity_gives : (m : Projection) (t : TupleView) → is_identity m ≡ true → length t.vals ≡ m.width → selected m.parts t ≡ t
identity_gives m t is wide =
    let both = and_parts (length m.parts == m.width) (are_events 0 m.parts) is in
    let vals = events_give m.parts [] t.vals t.from t.at both.1 (same_number (length m.parts) m.width both.0 ∙ sym wide) in
    λ i. record { vals = vals i; from = t.from; at = t.at }

-- any stage
-- what the stage asks of the tuples that come to it: a Make that they have its width
abbrev pub IsWide : Stage → TupleView → Type 0
IsWide (Keep condition) t = Unit {0}
IsWide (Make m) t = length t.vals ≡ m.width

-- of a tuple that may not come
abbrev pub AreWide : Stage → Option TupleView → Type 0
AreWide stage None = Unit {0}
AreWide stage (Some t) = IsWide stage t

dropped : (m : Projection) (o : Option TupleView) → is_identity m ≡ true → AreWide (Make m) o → o ≡ option_and_then (passed (Make m)) o
dropped m None is wide = refl
dropped m (Some t) is wide = ap (λ u. Some u) (sym (identity_gives m t is wide))

made : (m : Projection) (step : List Stage) (t : TupleView) (b : Bool) → is_identity m ≡ b → AreWide (Make m) (pass step t)
    → pass (cond b step (step ++ Make m ∷ [])) t ≡ option_and_then (passed (Make m)) (pass step t)
made m step t true is wide = dropped m (pass step t) is wide
made m step t false is wide = pass_more (Make m) step t

-- the stage acts behind the step
pub pass_staged : (stage : Stage) (step : List Stage) (t : TupleView) → AreWide stage (pass step t) → pass (staged step stage) t ≡ option_and_then (passed stage) (pass step t)
pass_staged (Keep []) step t wide = sym (then_all (pass step t))
pass_staged (Keep (p ∷ condition)) step t wide = pass_kept step (p ∷ condition) t
pass_staged (Make m) step t wide = made m step t (is_identity m) refl wide

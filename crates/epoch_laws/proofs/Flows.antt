-- One epoch along prefixes and lines.
use Rattle.std.proofs.Common.{◌≡◌, ◌∙◌, sym, ap, refl, subst, ℕ, ◌≤◌, Bool, true, false, cond, nat_lt, List, [], ◌∷◌}
use Rattle.std.specs.Prelude.{Option, Some, None}
use Rattle.std.specs.Option.{option_and_then}
use Rattle.std.specs.List.{All, filter, filter_map, cons_option}
use Rattle.std.proofs.lemmas.List.Elements.{All-nil, All-cons, All-head, All-tail}
use Rattle.event_types.specs.Tuple.{TupleView}
use Rattle.semantics.specs.Denotation.{Streams}
use Rattle.semantics.specs.Truth.{all_true}
use Rattle.automaton.specs.Flow.{entering, flow}
use Rattle.automaton.specs.Prefixes.{Prefix, Root, After}
use Rattle.automaton.specs.Steps.{pass, passed}
use Rattle.automaton.specs.Waits.{chosen}
use Rattle.automaton.specs.declared.line.Hop.{Hop}
use Rattle.automaton.specs.declared.step.Stage.{Stage}
use Rattle.automaton.specs.declared.step.Stage.TheVariants.{Keep, Make}
use Rattle.epoch_laws.specs.Times.{ArePast, before, IsPast, streams_before}
use Rattle.epoch_laws.proofs.Folds.{sound_past}
use Rattle.epoch_laws.proofs.Waits.{chosen_before, chosen_past}

-- a step keeps the times
abbrev pub Timed : TupleView → Option TupleView → Type 0
Timed t None = Unit {0}
Timed t (Some u) = (u.at ≡ t.at) × (u.from ≡ t.from)

passed_timed : (s : Stage) (t : TupleView) → Timed t (passed s t)
passed_timed (Keep c) t = go (all_true c t None)
  where
    go : (b : Bool) → Timed t (cond b (Some t) None)
    go true = (refl, refl)
    go false = tt
passed_timed (Make m) t = (refl, refl)

pub pass_timed : (step : List Stage) (t : TupleView) → Timed t (pass step t)
pass_timed [] t = (refl, refl)
pass_timed (s ∷ step) t = go (pass_timed step) (passed s t) (passed_timed s t)
  where
    go : ((u : TupleView) → Timed u (pass step u)) → (o : Option TupleView) → Timed t o → Timed t (option_and_then (pass step) o)
    go more None h = tt
    go more (Some u) h = onward (pass step u) (more u)
      where
        onward : (o : Option TupleView) → Timed u o → Timed t o
        onward None g = tt
        onward (Some v) g = (g.0 ∙ h.0, g.1 ∙ h.1)

-- so a cut by time may come before it or after it
pub pass_cut : (test : ℕ → Bool) (step : List Stage) (ts : List TupleView) → filter (λ t. test t.at) (filter_map (pass step) ts) ≡ filter_map (pass step) (filter (λ t. test t.at) ts)
pass_cut test step [] = refl
pass_cut test step (t ∷ ts) = go (pass_cut test step ts) (pass step t) refl (pass_timed step t)
  where
    go : filter (λ t. test t.at) (filter_map (pass step) ts) ≡ filter_map (pass step) (filter (λ t. test t.at) ts) → (o : Option TupleView) → pass step t ≡ o → Timed t o
        → filter (λ t. test t.at) (cons_option o (filter_map (pass step) ts)) ≡ filter_map (pass step) (cond (test t.at) (t ∷ filter (λ t. test t.at) ts) (filter (λ t. test t.at) ts))
    go rest o e h = branch (test t.at) refl o e h
      where
        branch : (b : Bool) → test t.at ≡ b → (o : Option TupleView) → pass step t ≡ o → Timed t o
            → filter (λ t. test t.at) (cons_option o (filter_map (pass step) ts)) ≡ filter_map (pass step) (cond b (t ∷ filter (λ t. test t.at) ts) (filter (λ t. test t.at) ts))
        branch true is None e h = rest ∙ ap (λ o. cons_option o (filter_map (pass step) (filter (λ t. test t.at) ts))) (sym e)
        branch true is (Some u) e h =
            ap (λ b. cond b (u ∷ filter (λ t. test t.at) (filter_map (pass step) ts)) (filter (λ t. test t.at) (filter_map (pass step) ts))) (ap test h.0 ∙ is)
            ∙ ap (λ us. u ∷ us) rest ∙ ap (λ o. cons_option o (filter_map (pass step) (filter (λ t. test t.at) ts))) (sym e)
        branch false is None e h = rest
        branch false is (Some u) e h =
            ap (λ b. cond b (u ∷ filter (λ t. test t.at) (filter_map (pass step) ts)) (filter (λ t. test t.at) (filter_map (pass step) ts))) (ap test h.0 ∙ is) ∙ rest

-- what passes a step has its times
pub pass_past : (time : ℕ) (step : List Stage) (ts : List TupleView) → All (IsPast time) ts → All (IsPast time) (filter_map (pass step) ts)
pass_past time step [] all = All-nil (IsPast time)
pass_past time step (t ∷ ts) all = go (pass_past time step ts (All-tail (IsPast time) t ts all)) (pass step t) (pass_timed step t) (All-head (IsPast time) t ts all)
  where
    go : All (IsPast time) (filter_map (pass step) ts) → (o : Option TupleView) → Timed t o → IsPast time t → All (IsPast time) (cons_option o (filter_map (pass step) ts))
    go rest None h k = rest
    go rest (Some u) h k = All-cons (IsPast time) u (filter_map (pass step) ts) (subst (λ from. from ≤ u.at) (sym h.1) (subst (λ at. t.from ≤ at) (sym h.0) k.0), subst (λ at. at ≤ time) (sym h.0) k.1) rest

module _ (time : ℕ) (env : Streams) (past : ArePast time env) where
  -- what comes to a state is past
  pub flow_past : (p : Prefix) → All (IsPast time) (flow env p)
  flow_past (Root s) = past s
  flow_past (After p h) = chosen_past time h.wait.choose (env h.wait.stream) (past h.wait.stream) h.wait.fold (entering h (flow env p)) (pass_past time h.step (flow env p) (flow_past p))

  entering_past : (p : Prefix) (h : Hop) → All (IsPast time) (entering h (flow env p))
  entering_past p h = pass_past time h.step (flow env p) (flow_past p)

  -- what flows is cut as the streams are
  pub flow_before : (p : Prefix) → before time (flow env p) ≡ flow (streams_before time env) p
  flow_before (Root s) = refl
  flow_before (After p h) =
      chosen_before time h.wait.choose (env h.wait.stream) (sound_past time (env h.wait.stream) (past h.wait.stream)) h.wait.fold (entering h (flow env p))
      ∙ ap (chosen h.wait.choose h.wait.fold (before time (env h.wait.stream))) (pass_cut (λ at. nat_lt at time) h.step (flow env p) ∙ ap (entering h) (flow_before p))

  entering_before : (p : Prefix) (h : Hop) → before time (entering h (flow env p)) ≡ entering h (flow (streams_before time env) p)
  entering_before p h = pass_cut (λ at. nat_lt at time) h.step (flow env p) ∙ ap (entering h) (flow_before p)

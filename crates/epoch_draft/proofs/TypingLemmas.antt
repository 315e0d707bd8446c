-- What comes to a state has the kinds for which its conditions and scalars are typed.
use Rattle.std.proofs.Common.{◌≡◌, refl, subst, Bool, true, false, cond, List, [], ◌∷◌}
use Rattle.std.specs.Prelude.{Option, Some, None}
use Rattle.std.specs.Option.{option_and_then, option_map}
use Rattle.std.specs.List.{All, cons_option, filter, filter_map}
use Rattle.std.proofs.lemmas.List.Elements.{All-nil, All-cons, All-head, All-tail, All-filter, All-map, All-weaker}
use Rattle.event_types.specs.declared.kind.Kind.{Kind}
use Rattle.event_types.specs.Tuple.{TupleView}
use Rattle.instances.specs.declared.instance.Instance.{Instance}
use Rattle.semantics.specs.Denotation.{joined, selected}
use Rattle.semantics.specs.Kinds.{HasKinds}
use Rattle.semantics.proofs.KindLemmas.{kinds_append}
use Rattle.semantics.specs.Nexts.{is_eligible}
use Rattle.semantics.specs.Runs.{rebound}
use Rattle.semantics.specs.Scalars.{Pr}
use Rattle.semantics.specs.Truth.{all_true}
use Rattle.semantics.proofs.ListLemmas.{All-flat_map}
use Rattle.scalar_expr.proofs.FitLemmas.{typed_fits, typed_image, typed_tests}
use Rattle.automaton.specs.LineKinds.{StepGives, TurnGives, WaitGives}
use Rattle.automaton.specs.Steps.{pass}
use Rattle.automaton.specs.declared.step.Stage.{Stage}
use Rattle.automaton.specs.declared.step.Stage.TheVariants.{Keep, Make}
use Rattle.automaton.specs.declared.wait.Turn.{Turn}
use Rattle.automaton.specs.declared.wait.Wait.{Wait}
use Rattle.epoch_laws.specs.Epochs.{taken, taken_from, took}
use Rattle.epoch_laws.specs.Instances.{began, pass_instance}
use Rattle.epoch_draft.specs.Suits.{StepSuits, TurnSuits, WaitSuits}
use Rattle.epoch_draft.proofs.Lists.{some_is}

turn_suits : (fold : Option Turn) (bs es out : List Kind) (b t : TupleView) → TurnGives fold bs es out → HasKinds es t → HasKinds bs b → TurnSuits fold b t
turn_suits None bs es out b t h ht hb = tt
turn_suits (Some turn) bs es out b t h ht hb = (typed_tests turn.on es (Some bs) t (Some b) h.0 ht hb, typed_fits turn.set.parts es (Some bs) bs t (Some b) h.1 ht hb)

-- a typed wait suits a binding and a tuple of its kinds
pub wait_suits : (w : Wait) (bs es out : List Kind) (b t : TupleView) → WaitGives w bs es out → HasKinds es t → HasKinds bs b → WaitSuits w b t
wait_suits w bs es out b t h ht hb = (typed_tests w.choose es (Some bs) t (Some b) h.0 ht hb, turn_suits w.fold bs es out b t h.1 ht hb)

-- a tuple that passes a typed step is as the step gives it
pub record Passes (step : List Stage) (out : List Kind) (t : TupleView) : Type 0 where
  pub suits : StepSuits step t
  pub gives : (p : TupleView) → pass step t ≡ Some p → HasKinds out p

-- each tuple of its kinds passes a typed step so
pub step_passes : (step : List Stage) (ks out : List Kind) (t : TupleView) → StepGives step ks out → HasKinds ks t → Passes step out t
step_passes [] ks out t h ht = record { suits = tt; gives = λ p e. subst (HasKinds out) (some_is t p e) (subst (λ js. HasKinds js t) h ht) }
step_passes (Keep c ∷ step) ks out t h ht =
    let more = step_passes step h.0 out t h.2 (subst (λ js. HasKinds js t) h.1.1 ht) in
    record { suits = (typed_tests c ks None t None h.1.0 ht tt, more.suits); gives = λ p e. go (all_true c t None) more p e }
  where
    go : (b : Bool) → Passes step out t → (p : TupleView) → option_and_then (pass step) (cond b (Some t) None) ≡ Some p → HasKinds out p
    go true more p e = more.gives p e
    go false more p e = cc
step_passes (Make m ∷ step) ks out t h ht =
    let more = step_passes step h.0 out (selected m.parts t) h.2 (typed_image m.parts ks None h.0 t None h.1 ht tt) in
    record { suits = (typed_fits m.parts ks None h.0 t None h.1 ht tt, more.suits); gives = more.gives }

-- what passes has the kinds that the step gives
pub passed_kinds : (step : List Stage) (ks out : List Kind) (ts : List TupleView) → StepGives step ks out → All (HasKinds ks) ts → All (HasKinds out) (filter_map (pass step) ts)
passed_kinds step ks out [] h all = All-nil (HasKinds out)
passed_kinds step ks out (t ∷ ts) h all =
    go (pass step t) (step_passes step ks out t h (All-head (HasKinds ks) t ts all)).gives (passed_kinds step ks out ts h (All-tail (HasKinds ks) t ts all))
  where
    go : (o : Option TupleView) → ((p : TupleView) → o ≡ Some p → HasKinds out p) → All (HasKinds out) (filter_map (pass step) ts) → All (HasKinds out) (cons_option o (filter_map (pass step) ts))
    go None gives rest = rest
    go (Some p) gives rest = All-cons (HasKinds out) p (filter_map (pass step) ts) (gives p refl) rest

-- and so have the instances that enter a wait by it
pub entered_kinds : (step : List Stage) (ks out : List Kind) (instances : List Instance) → StepGives step ks out → All (λ (n : Instance). HasKinds ks n.tuple) instances → All (λ (n : Instance). HasKinds out n.tuple) (filter_map (pass_instance step) instances)
entered_kinds step ks out [] h all = All-nil (λ (n : Instance). HasKinds out n.tuple)
entered_kinds step ks out (i ∷ is) h all =
    go (pass step i.tuple) (step_passes step ks out i.tuple h (All-head (λ (n : Instance). HasKinds ks n.tuple) i is all)).gives (entered_kinds step ks out is h (All-tail (λ (n : Instance). HasKinds ks n.tuple) i is all))
  where
    go : (o : Option TupleView) → ((p : TupleView) → o ≡ Some p → HasKinds out p) → All (λ (n : Instance). HasKinds out n.tuple) (filter_map (pass_instance step) is)
        → All (λ (n : Instance). HasKinds out n.tuple) (cons_option (option_map (began i.first) o) (filter_map (pass_instance step) is))
    go None gives rest = rest
    go (Some p) gives rest = All-cons (λ (n : Instance). HasKinds out n.tuple) (began i.first p) (filter_map (pass_instance step) is) (gives p refl) rest

taken_kinds : (choose : List Pr) (fold : Option Turn) (bs es out : List Kind) (ts : List TupleView) (b : TupleView) → TurnGives fold bs es out → All (HasKinds es) ts → HasKinds bs b → All (HasKinds out) (taken choose fold ts b)
taken_kinds choose None bs es out ts b h all hb =
    All-map (HasKinds out) (joined b) (filter (is_eligible choose b) ts)
    (All-weaker (HasKinds es) (λ t. HasKinds out (joined b t)) (λ t ht. subst (λ ks. HasKinds ks (joined b t)) h (kinds_append bs es b.vals t.vals hb ht)) (filter (is_eligible choose b) ts) (All-filter (is_eligible choose b) (HasKinds es) ts all))
taken_kinds choose (Some turn) bs es out ts b h all hb =
    let goes = λ (t : TupleView). all_true turn.on t (Some b) in
    All-map (HasKinds out) (rebound turn.set.parts b) (filter goes (filter (is_eligible choose b) ts))
    (All-weaker (HasKinds es) (λ t. HasKinds out (rebound turn.set.parts b t)) (λ t ht. subst (λ ks. HasKinds ks (rebound turn.set.parts b t)) h.2 (typed_image turn.set.parts es (Some bs) bs t (Some b) h.1 ht hb))
    (filter goes (filter (is_eligible choose b) ts)) (All-filter goes (HasKinds es) (filter (is_eligible choose b) ts) (All-filter (is_eligible choose b) (HasKinds es) ts all)))

-- what leaves a typed wait has the kinds that it gives
pub took_kinds : (w : Wait) (bs es out : List Kind) (store : List Instance) (ts : List TupleView) → WaitGives w bs es out → All (HasKinds es) ts → All (λ (n : Instance). HasKinds bs n.tuple) store
    → All (λ (n : Instance). HasKinds out n.tuple) (took w.choose w.fold ts store)
took_kinds w bs es out store ts h hts hs =
    let good = λ (n : Instance). HasKinds out n.tuple in
    All-flat_map good (taken_from w.choose w.fold ts) store
    (All-weaker (λ (n : Instance). HasKinds bs n.tuple) (λ (n : Instance). All good (taken_from w.choose w.fold ts n))
    (λ n hb. All-map good (began n.first) (taken w.choose w.fold ts n.tuple) (taken_kinds w.choose w.fold bs es out ts n.tuple h.1 hts hb)) store hs)

-- What is known of a state from its number.
use Rattle.std.proofs.Common.{◌≡◌, ◌∙◌, ap, refl, subst, ℕ, List}
use Rattle.std.specs.Prelude.{Option, Some, None, slice_get}
use Rattle.std.specs.Option.{option_and_then, option_map}
use Rattle.event_types.specs.declared.kind.Kind.{Kind}
use Rattle.semantics.specs.Denotation.{Streams}
use Rattle.automaton.specs.LineKinds.{StepGives, WaitGives}
use Rattle.automaton.specs.States.{Net, entrance_at, root_by, root_at, state_at, wait_at, wait_by}
use Rattle.automaton.specs.declared.line.Hop.{Hop}
use Rattle.automaton.specs.declared.network.Entrance.{Entrance}
use Rattle.automaton.specs.declared.network.Entrance.TheVariants.{Root, Waiting}
use Rattle.automaton.specs.declared.network.State.{State}
use Rattle.automaton.specs.declared.wait.Wait.{Wait}
use Rattle.epoch_laws.specs.Closing.{Stores, leaving_state, leaving_by}
use Rattle.epoch_laws.specs.Epochs.{took}
use Rattle.epoch_draft.specs.Kindings.{EntranceFits, Kinding, StatesFit}
use Rattle.epoch_draft.proofs.Lists.{some_is}

-- a waiting state, as it is entered
pub record AtWait (net : Net) (number : ℕ) (wait : Wait) : Type 0 where
  pub state : State
  pub before : ℕ
  pub hop : Hop
  pub found : state_at net number ≡ Some state
  pub entered : state.entrance ≡ Waiting before hop
  pub same : hop.wait ≡ wait

-- a state that waits is entered as a waiting state
pub at_wait : (net : Net) (n : ℕ) (w : Wait) → wait_at net n ≡ Some w → AtWait net n w
at_wait net n w h = go (state_at net n) refl h
  where
    by_entry : (state : State) → state_at net n ≡ Some state → (e : Entrance) → state.entrance ≡ e → wait_by e ≡ Some w → AtWait net n w
    by_entry state found (Root s) is h = absurd (cc)
    by_entry state found (Waiting before hop) is h = record { state = state; before = before; hop = hop; found = found; entered = is; same = some_is hop.wait w h }

    go : (o : Option State) → state_at net n ≡ o → option_and_then wait_by (option_map (λ (s : State). s.entrance) o) ≡ Some w → AtWait net n w
    go None found h = absurd (cc)
    go (Some state) found h = by_entry state found state.entrance refl h

-- its entry
pub wait_entry : (net : Net) (n : ℕ) (w : Wait) (at : AtWait net n w) → entrance_at net n ≡ Some (Waiting at.before at.hop)
wait_entry net n w at = ap (option_map (λ (s : State). s.entrance)) at.found ∙ ap Some at.entered

-- what leaves it
pub wait_leaves : (net : Net) (news : Streams) (stores : Stores) (n : ℕ) (w : Wait) → wait_at net n ≡ Some w → leaving_state net news stores n ≡ took w.choose w.fold (news w.stream) (stores n)
wait_leaves net news stores n w h =
    let at = at_wait net n w h in
    ap (λ (o : Option Entrance). leaving_by o news (stores n)) (wait_entry net n w at) ∙ ap (λ (x : Wait). took x.choose x.fold (news x.stream) (stores n)) at.same

-- a wait that is typed
pub record WaitTyped (kinds : List (List Kind)) (kinding : Kinding) (number : ℕ) (wait : Wait) : Type 0 where
  pub event : List Kind
  pub known : slice_get kinds wait.stream ≡ Some event
  pub gives : WaitGives wait (kinding.waiting number) event (kinding.leaving number)

-- the step into a waiting state is typed, and so is its wait
pub record HopTyped (kinds : List (List Kind)) (kinding : Kinding) (number before : ℕ) (hop : Hop) : Type 0 where
  pub step : StepGives hop.step (kinding.leaving before) (kinding.waiting number)
  pub wait : WaitTyped kinds kinding number hop.wait

-- the hop of a waiting state of a typed network
pub hop_typed : (kinds : List (List Kind)) (net : Net) (kinding : Kinding) → StatesFit kinds net kinding → (n : ℕ) (w : Wait) (at : AtWait net n w) → HopTyped kinds kinding n at.before at.hop
hop_typed kinds net kinding fits n w at =
    let fit = subst (EntranceFits kinds kinding n) at.entered (fits n at.state at.found).0 in
    record { step = fit.2; wait = record { event = fit.0; known = fit.1; gives = fit.3 } }

-- and its wait
pub wait_typed : (kinds : List (List Kind)) (net : Net) (kinding : Kinding) → StatesFit kinds net kinding → (n : ℕ) (w : Wait) → wait_at net n ≡ Some w → WaitTyped kinds kinding n w
wait_typed kinds net kinding fits n w h =
    let at = at_wait net n w h in
    subst (WaitTyped kinds kinding n) at.same (hop_typed kinds net kinding fits n w at).wait

-- a root state, with its stream
pub record AtRoot (net : Net) (number stream : ℕ) : Type 0 where
  pub state : State
  pub found : state_at net number ≡ Some state
  pub entered : state.entrance ≡ Root stream

-- a state with a root's stream is entered as a root
pub at_root : (net : Net) (n s : ℕ) → root_at net n ≡ Some s → AtRoot net n s
at_root net n s h = go (state_at net n) refl h
  where
    by_entry : (state : State) → state_at net n ≡ Some state → (e : Entrance) → state.entrance ≡ e → root_by e ≡ Some s → AtRoot net n s
    by_entry state found (Root r) is h = record { state = state; found = found; entered = is ∙ ap Root (some_is r s h) }
    by_entry state found (Waiting before hop) is h = absurd (cc)

    go : (o : Option State) → state_at net n ≡ o → option_and_then root_by (option_map (λ (s : State). s.entrance) o) ≡ Some s → AtRoot net n s
    go None found h = absurd (cc)
    go (Some state) found h = by_entry state found state.entrance refl h

-- a root of a typed network has the kinds of its stream
pub root_typed : (kinds : List (List Kind)) (net : Net) (kinding : Kinding) → StatesFit kinds net kinding → (n s : ℕ) → root_at net n ≡ Some s → slice_get kinds s ≡ Some (kinding.leaving n)
root_typed kinds net kinding fits n s h =
    let at = at_root net n s h in
    subst (EntranceFits kinds kinding n) at.entered (fits n at.state at.found).0

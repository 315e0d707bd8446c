-- Engines to which lines come and which they leave.
use Rattle.std.proofs.Common.{◌≡◌, ◌⊎◌, ◌∙◌, sym, ap, refl, subst, inl, inr, ℕ, ◌+◌, ◌<◌, ◌≤◌, true, cond, length, get_or, List, [], ◌++◌, arith}
use Rattle.std.specs.Prelude.{Option, Some, None, is_some, slice_index}
use Rattle.std.specs.Option.{option_and_then, option_map}
use Rattle.std.specs.List.{All}
use Rattle.std.proofs.lemmas.Bool.{cases_lt}
use Rattle.std.proofs.lemmas.List.{ext_get_or, get_or_append_left, get_or_past, length-append}
use Rattle.std.proofs.lemmas.List.Elements.{All-nil}
use Rattle.event_types.specs.declared.kind.Kind.{Kind}
use Rattle.event_types.specs.declared.value.Value.{Value}
use Rattle.instances.specs.Bounds.{alive_instances}
use Rattle.instances.specs.Keys.{IsKeyReady}
use Rattle.instances.specs.declared.instance.Instance.{Instance}
use Rattle.automaton.specs.Networks.{IsAt, IsNetwork}
use Rattle.automaton.specs.Prefixes.{Prefix, Root, After}
use Rattle.automaton.specs.States.{Net, entrance_at, entrance_in, is_used, state_at, wait_at, wait_by}
use Rattle.automaton.specs.declared.line.Hop.{Hop}
use Rattle.automaton.specs.declared.network.Entrance.{Entrance}
use Rattle.automaton.specs.declared.network.Entrance.TheVariants as entrance
use Rattle.automaton.specs.declared.network.State.{State}
use Rattle.automaton.specs.declared.wait.Wait.{Wait}
use Rattle.automaton.proofs.SlotLemmas.{entry_there, root_entry}
use Rattle.binding_index.specs.Leads.{Leads, ready_in}
use Rattle.binding_index.specs.Stores.{condition_of}
use Rattle.binding_index.specs.declared.store.Store.{Store}
use Rattle.stream_readers.specs.KeyTables.{KeyTable, entries_at}
use Rattle.epoch_draft.specs.Held.{instances_in, key_in, shape_for, shape_of}
use Rattle.epoch_draft.specs.Kindings.{EntranceFits, Kinding, StatesFit}
use Rattle.epoch_draft.specs.Led.{AreLed, AreReadyIn, LeadTo}
use Rattle.epoch_draft.specs.Purging.{alive_in}
use Rattle.epoch_draft.specs.Typed.{IsStoreOf, IsTyped}
use Rattle.epoch_draft.specs.Watching.{IsWatched, Watches}
use Rattle.epoch_draft.proofs.Lists.{some_is}
use Rattle.epoch_engine.specs.Adding.{BeginAs}
use Rattle.epoch_engine.specs.Fitting.{AreGrown, AreLeft, IsGrownSlot, IsKeptSlot}
use Rattle.epoch_engine.proofs.EngineLemmas.{new_typed}
use Rattle.epoch_engine.proofs.KindingLemmas.{step_kinds, step_kinds_are, turn_kinds, turn_kinds_are}

-- a state is entered as its entrance says
pub entered : (kinds : List (List Kind)) (net : Net) (kinding : Kinding) → StatesFit kinds net kinding → (n : ℕ) (e : Entrance) → entrance_at net n ≡ Some e → EntranceFits kinds kinding n e
entered kinds net kinding fits n e is = go (state_at net n) refl
  where
    go : (o : Option State) → state_at net n ≡ o → EntranceFits kinds kinding n e
    go None found = let no : None ≡ Some e = sym (ap entrance_in found) ∙ is in cc
    go (Some state) found = subst (EntranceFits kinds kinding n) (some_is state.entrance e (sym (sym is ∙ ap entrance_in found))) (fits n state found).0

-- a wait is that of a waiting state
waits_so : (o : Option Entrance) (w : Wait) → option_and_then wait_by o ≡ Some w → (before : ℕ) × (hop : Hop) × (o ≡ Some (entrance.Waiting before hop)) × (hop.wait ≡ w)
waits_so None w is = cc
waits_so (Some (entrance.Root stream)) w is = cc
waits_so (Some (entrance.Waiting before hop)) w is = (before, hop, refl, (let e : hop.wait ≡ w = cc in e))

pub waiting_used : (net : Net) (n : ℕ) (w : Wait) → wait_at net n ≡ Some w → is_used net n ≡ true
waiting_used net n w is = let from = waits_so (entrance_at net n) w is in sym (entry_there (state_at net n)) ∙ ap is_some from.2

-- states that stay have the same kinds
module _ (old new : List (List Kind)) (begin' : BeginAs old new) (net grown : Net) (k l : Kinding) (fits : StatesFit old net k) (more : StatesFit new grown l) (stay : (n : ℕ) → is_used net n ≡ true → entrance_at grown n ≡ entrance_at net n) (is : IsNetwork net) where
  there : (n : ℕ) (e : Entrance) → entrance_at net n ≡ Some e → entrance_at grown n ≡ Some e
  there n e found = stay n (sym (entry_there (state_at net n)) ∙ ap is_some found) ∙ found

  waiting_same : (n before : ℕ) (hop : Hop) → entrance_at net n ≡ Some (entrance.Waiting before hop) → l.leaving before ≡ k.leaving before → l.waiting n ≡ k.waiting n
  waiting_same n before hop found same =
      let was = entered old net k fits n (entrance.Waiting before hop) found in
      let now = entered new grown l more n (entrance.Waiting before hop) (there n (entrance.Waiting before hop) found) in
      sym (step_kinds_are hop.step (l.leaving before) (l.waiting n) now.2) ∙ ap (step_kinds hop.step) same ∙ step_kinds_are hop.step (k.leaving before) (k.waiting n) was.2

  leaving_same : (prefix : Prefix) (n : ℕ) → IsAt net n prefix → l.leaving n ≡ k.leaving n
  leaving_same (Root stream) n here =
      let found = root_entry (entrance_at net n) stream here in
      let was = entered old net k fits n (entrance.Root stream) found in
      let now = entered new grown l more n (entrance.Root stream) (there n (entrance.Root stream) found) in
      some_is (l.leaving n) (k.leaving n) (sym now ∙ begin' stream (k.leaving n) was)
  leaving_same (After prefix hop) n (before, found, here) =
      let was = entered old net k fits n (entrance.Waiting before hop) found in
      let now = entered new grown l more n (entrance.Waiting before hop) (there n (entrance.Waiting before hop) found) in
      let waiting = waiting_same n before hop found (leaving_same prefix before here) in
      let event = some_is now.0 was.0 (sym now.1 ∙ begin' hop.wait.stream was.0 was.1) in
      sym (turn_kinds_are hop.wait.fold (l.waiting n) now.0 (l.leaving n) now.3.1) ∙ (λ i. turn_kinds hop.wait.fold (waiting i) (event i)) ∙ turn_kinds_are hop.wait.fold (k.waiting n) was.0 (k.leaving n) was.3.1

  -- so have the bindings that wait there
  pub waiting_kept : (n : ℕ) (w : Wait) → wait_at net n ≡ Some w → l.waiting n ≡ k.waiting n
  waiting_kept n w at =
      let from = waits_so (entrance_at net n) w at in
      let place = is.places n (waiting_used net n w at) in by_place from.0 from.1 from.2 place.0 place.1
    where
      by_place : (before : ℕ) (hop : Hop) → entrance_at net n ≡ Some (entrance.Waiting before hop) → (prefix : Prefix) → IsAt net n prefix → l.waiting n ≡ k.waiting n
      by_place before hop found (Root stream) here = absurd (let no : Some (entrance.Waiting before hop) ≡ Some (entrance.Root stream) = sym found ∙ root_entry (entrance_at net n) stream here in cc)
      by_place before hop found (After prefix other) (from, entered', here) = waiting_same n from other entered' (leaving_same prefix from here)

-- a state that waits goes on waiting so
pub wait_stays : (net grown : Net) → ((n : ℕ) → is_used net n ≡ true → entrance_at grown n ≡ entrance_at net n) → (n : ℕ) (w : Wait) → wait_at net n ≡ Some w → wait_at grown n ≡ Some w
wait_stays net grown stay n w at = ap (option_and_then wait_by) (stay n (waiting_used net n w at)) ∙ at

-- a store is that of a waiting state
pub its_wait : (net : Net) (kinds : List (List Kind)) (stores : List (Option Store)) → IsTyped net kinds stores → (n : ℕ) (store : Store) → get_or stores n None ≡ Some store → (w : Wait) × (wait_at net n ≡ Some w)
its_wait net kinds stores typed n store is = go (wait_at net n) refl
  where
    go : (o : Option Wait) → wait_at net n ≡ o → (w : Wait) × (wait_at net n ≡ Some w)
    go (Some w) at = (w, at)
    go None at = let no : None ≡ Some store = sym (typed.others n at) ∙ is in cc

shapeless : (slot : Option Store) → shape_of slot ≡ None → slot ≡ None
shapeless None is = refl
shapeless (Some store) is = cc

alive_none : (time : ℕ) (slot : Option Store) → instances_in slot ≡ [] → alive_in time slot ≡ instances_in slot
alive_none time None is = refl
alive_none time (Some store) is = ap (alive_instances time (condition_of store)) is ∙ sym is

-- lines came
module _ (net grown : Net) (kinds : List (List Kind)) (stores new : List (Option Store)) (typed : IsTyped net kinds stores) (stay : (n : ℕ) → is_used net n ≡ true → entrance_at grown n ≡ entrance_at net n) (are : AreGrown grown stores new) where
  module _ (later : List (List Kind)) (begin' : BeginAs kinds later) (l : Kinding) (more : StatesFit later grown l) (is : IsNetwork net) where
    grown_store : (n : ℕ) (w : Wait) → wait_at grown n ≡ Some w → (slot : Option Store) → get_or stores n None ≡ slot → IsGrownSlot (wait_at grown n) slot (get_or new n None) → (store : Store) × (get_or new n None ≡ Some store) × IsStoreOf w (l.waiting n) store
    grown_store n w at (Some store) was same =
        let its = its_wait net kinds stores typed n store was in
        let wait : its.0 ≡ w = some_is its.0 w (sym (wait_stays net grown stay n its.0 its.1) ∙ at) in
        let has = typed.has_stores n w (its.1 ∙ ap (λ (v : Wait). Some v) wait) in
        let store_is : has.0 ≡ store = some_is has.0 store (sym has.1 ∙ was) in
        (store, same, subst (λ (ks : List Kind). IsStoreOf w ks store) (sym (waiting_kept kinds later begin' net grown typed.kinding l typed.states more stay is n its.0 its.1)) (subst (IsStoreOf w (typed.kinding.waiting n)) store_is has.2))
    grown_store n w at None was empty = new_typed w (l.waiting n) (get_or new n None) (empty.shape ∙ ap (option_map (λ (v : Wait). shape_for v.choose)) at) empty.empty

    grown_none : (n : ℕ) → wait_at grown n ≡ None → (slot : Option Store) → get_or stores n None ≡ slot → IsGrownSlot (wait_at grown n) slot (get_or new n None) → get_or new n None ≡ None
    grown_none n at (Some store) was same = let its = its_wait net kinds stores typed n store was in let no : None ≡ Some its.0 = sym at ∙ wait_stays net grown stay n its.0 its.1 in cc
    grown_none n at None was empty = shapeless (get_or new n None) (empty.shape ∙ ap (option_map (λ (v : Wait). shape_for v.choose)) at)

    -- the stores are typed
    pub grown_typed : IsTyped grown later new
    grown_typed = record {
      kinding = l;
      states = more;
      as_many = are.as_many;
      has_stores = λ n w at. grown_store n w at (get_or stores n None) refl (are.each n);
      others = λ n at. grown_none n at (get_or stores n None) refl (are.each n);
    }

  grown_led_to : (keys : KeyTable) → AreLed net keys stores → (n : ℕ) → (slot : Option Store) → get_or stores n None ≡ slot → IsGrownSlot (wait_at grown n) slot (get_or new n None) → LeadTo grown keys n (get_or new n None) × AreReadyIn (get_or new n None)
  grown_led_to keys led n (Some store) was same =
      let its = its_wait net kinds stores typed n store was in
      let slot : get_or stores n None ≡ get_or new n None = was ∙ sym same in (
        λ w key at by.
            (let wait : its.0 ≡ w = some_is its.0 w (sym (wait_stays net grown stay n its.0 its.1) ∙ at) in
            subst (λ (o : Option Store). All (λ (value : Value). Leads (entries_at keys w.stream key.event) value n) (ready_in o)) slot (led.led n w key (its.1 ∙ ap (λ (v : Wait). Some v) wait) by)),
        subst AreReadyIn slot (led.ready n),
      )
  grown_led_to keys led n None was empty = (
    λ w key at by. subst (All (λ (value : Value). Leads (entries_at keys w.stream key.event) value n)) (sym empty.none_ready) (All-nil (λ (value : Value). Leads (entries_at keys w.stream key.event) value n)),
    subst (All (λ (i : Instance). IsKeyReady (key_in (get_or new n None)) (ready_in (get_or new n None)) i.tuple)) (sym empty.empty) (All-nil (λ (i : Instance). IsKeyReady (key_in (get_or new n None)) (ready_in (get_or new n None)) i.tuple)),
  )

  -- keys lead as before
  pub grown_led : (keys : KeyTable) → AreLed net keys stores → AreLed grown keys new
  grown_led keys led = record {
    led = λ n. (grown_led_to keys led n (get_or stores n None) refl (are.each n)).0;
    ready = λ n. (grown_led_to keys led n (get_or stores n None) refl (are.each n)).1;
  }

  -- the stores that came have no deadline
  pub grown_watched : (deadlines more : List ℕ) → Watches deadlines stores → length deadlines + length more ≡ length grown → Watches (deadlines ++ more) new
  grown_watched deadlines more watches long = record {
    as_many = length-append' deadlines more ∙ long ∙ sym are.as_many;
    watched = λ n. by_slot n (get_or stores n None) refl (are.each n);
  }
    where
      length-append' : (xs ys : List ℕ) → length (xs ++ ys) ≡ length xs + length ys
      length-append' xs ys = length-append xs ys

      by_slot : (n : ℕ) (slot : Option Store) → get_or stores n None ≡ slot → IsGrownSlot (wait_at grown n) slot (get_or new n None) → IsWatched (slice_index (deadlines ++ more) n) (get_or new n None)
      by_slot n (Some store) was same = λ time below.
          (let inside : n < length deadlines = by_order (cases_lt n (length deadlines)) in
          let slot : get_or stores n None ≡ get_or new n None = was ∙ sym same in
          let at : slice_index (deadlines ++ more) n ≡ slice_index deadlines n = get_or_append_left deadlines more 0 n inside in
          ap (alive_in time) (sym slot) ∙ watches.watched n time (subst (λ d. time < d) at below) ∙ ap instances_in slot)
        where
          by_order : (n < length deadlines) ⊎ (length deadlines ≤ n) → n < length deadlines
          by_order (inl below) = below
          by_order (inr past) = absurd (let many = watches.as_many in let no : None ≡ Some store = sym (get_or_past stores n None (omega (arith, many, past))) ∙ was in cc)
      by_slot n None was empty = λ time below. alive_none time (get_or new n None) empty.empty

-- where lines are taken back the stores are those of before
module _ (net : Net) (kinds : List (List Kind)) (old mid new : List (Option Store)) (typed : IsTyped net kinds old) (kept : (n : ℕ) → IsKeptSlot (get_or old n None) (get_or mid n None)) (left : AreLeft net mid new) where
  undone_slot : (n : ℕ) (slot : Option Store) → get_or old n None ≡ slot → IsKeptSlot slot (get_or mid n None) → get_or new n None ≡ get_or old n None
  undone_slot n (Some store) was same =
      let its = its_wait net kinds old typed n store was in left.each n ∙ ap (λ w. cond (is_some w) (get_or mid n None) None) its.1 ∙ same ∙ sym was
  undone_slot n None was same = left.each n ∙ by_wait (wait_at net n) refl
    where
      by_wait : (o : Option Wait) → wait_at net n ≡ o → cond (is_some o) (get_or mid n None) None ≡ get_or old n None
      by_wait None at = sym was
      by_wait (Some w) at = let has = typed.has_stores n w at in let no : None ≡ Some has.0 = sym was ∙ has.1 in cc

  pub stores_undone : new ≡ old
  stores_undone = ext_get_or None new old (left.as_many ∙ sym typed.as_many) (λ n lt. undone_slot n (get_or old n None) refl (kept n))

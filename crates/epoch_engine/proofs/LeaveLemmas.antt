-- What is held by an engine that lines left.
use Rattle.std.proofs.Common.{◌≡◌, ◌⊎◌, ◌∙◌, sym, ap, refl, subst, inl, inr, ℕ, ◌<◌, ◌≤◌, true, cond, length, get_or, take, List, arith}
use Rattle.std.specs.Prelude.{Option, Some, None, is_some, slice_index}
use Rattle.std.specs.List.{All}
use Rattle.std.specs.Option.{option_and_then}
use Rattle.std.proofs.lemmas.Bool.{cases_lt}
use Rattle.std.proofs.lemmas.List.{get_or-take, length-take}
use Rattle.std.proofs.lemmas.List.Elements.{All-nil}
use Rattle.event_types.specs.declared.kind.Kind.{Kind}
use Rattle.instances.specs.Keys.{IsKeyReady}
use Rattle.instances.specs.declared.instance.Instance.{Instance}
use Rattle.automaton.specs.Networks.{IsNetwork}
use Rattle.automaton.specs.States.{Net, entrance_at, is_used, wait_at, wait_by}
use Rattle.automaton.specs.declared.wait.Wait.{Wait}
use Rattle.binding_index.specs.Leads.{Leads, ready_in}
use Rattle.binding_index.specs.declared.store.Store.{Store}
use Rattle.stream_readers.specs.KeyTables.{KeyTable, entries_at}
use Rattle.epoch_draft.specs.Held.{instances_in, key_in}
use Rattle.epoch_draft.specs.Kindings.{Kinding, StatesFit}
use Rattle.epoch_draft.specs.Led.{AreLed, StaysReady}
use Rattle.epoch_draft.specs.Purging.{alive_in}
use Rattle.epoch_draft.specs.Typed.{IsStoreOf, IsTyped}
use Rattle.epoch_draft.specs.Watching.{IsWatched, Watches}
use Rattle.epoch_draft.proofs.StayLemmas.{stays_same}
use Rattle.epoch_engine.specs.Fitting.{AreLeft}
use Rattle.epoch_engine.proofs.FitLemmas.{none_waits}
use Rattle.epoch_engine.proofs.LineLemmas.{waiting_kept, waiting_used}

-- nothing is ready where no store is
stays_none : (slot : Option Store) → StaysReady slot None
stays_none slot = record { instances = λ ready. All-nil (λ (i : Instance). IsKeyReady (key_in None) (ready_in None) i.tuple); keys = λ key has. absurd (let lt = has.1 in omega (arith, lt)) }

module _ (net left : Net) (kinds : List (List Kind)) (stores new : List (Option Store)) (typed : IsTyped net kinds stores) (stay : (n : ℕ) → is_used left n ≡ true → entrance_at left n ≡ entrance_at net n) (are : AreLeft left stores new) where
  left_wait : (n : ℕ) (w : Wait) → wait_at left n ≡ Some w → wait_at net n ≡ Some w
  left_wait n w at = ap (option_and_then wait_by) (sym (stay n (waiting_used left n w at))) ∙ at

  left_slot : (n : ℕ) (w : Wait) → wait_at left n ≡ Some w → get_or new n None ≡ get_or stores n None
  left_slot n w at = are.each n ∙ ap (λ o. cond (is_some o) (get_or stores n None) None) at

  left_none : (n : ℕ) → wait_at left n ≡ None → get_or new n None ≡ None
  left_none n at = are.each n ∙ ap (λ o. cond (is_some o) (get_or stores n None) None) at

  -- the stores are typed
  pub left_typed : (l : Kinding) → StatesFit kinds left l → IsNetwork left → IsTyped left kinds new
  left_typed l fits is = record {
    kinding = l;
    states = fits;
    as_many = are.as_many;
    has_stores = λ n w at.
        (let has = typed.has_stores n w (left_wait n w at) in
        let same = waiting_kept kinds kinds (λ s known found. found) left net l typed.kinding fits typed.states (λ m used. sym (stay m used)) is n w at in
        (has.0, left_slot n w at ∙ has.1, subst (λ (ks : List Kind). IsStoreOf w ks has.0) same has.2));
    others = left_none;
  }

  slot_stays : (n : ℕ) (o : Option Wait) → wait_at left n ≡ o → StaysReady (get_or stores n None) (get_or new n None)
  slot_stays n None at = subst (StaysReady (get_or stores n None)) (sym (left_none n at)) (stays_none (get_or stores n None))
  slot_stays n (Some w) at = subst (StaysReady (get_or stores n None)) (sym (left_slot n w at)) (stays_same (get_or stores n None))

  -- keys that are ready lead to the states that are left
  pub left_led : (keys : KeyTable) → AreLed net keys stores → AreLed left keys new
  left_led keys led = record {
    led = λ n wait key at by. subst (λ slot. All (λ value. Leads (entries_at keys wait.stream key.event) value n) (ready_in slot)) (sym (left_slot n wait at)) (led.led n wait key (left_wait n wait at) by);
    ready = λ n. (slot_stays n (wait_at left n) refl).instances (led.ready n);
  }

  -- the deadlines are theirs
  pub left_watched : (deadlines : List ℕ) → length left ≤ length stores → Watches deadlines stores → Watches (take (length left) deadlines) new
  left_watched deadlines shorter watches = record {
    as_many = (let many = watches.as_many in let short = length-take (length left) deadlines in let new_many = are.as_many in omega (arith, many, short, shorter, new_many));
    watched = λ n. by_wait n (wait_at left n) refl;
  }
    where
      by_wait : (n : ℕ) (o : Option Wait) → wait_at left n ≡ o → IsWatched (slice_index (take (length left) deadlines) n) (get_or new n None)
      by_wait n None at = subst (IsWatched (slice_index (take (length left) deadlines) n)) (sym (left_none n at)) (λ time below. refl)
      by_wait n (Some w) at = λ time below.
          (let inside : n < length left = by_order (cases_lt n (length left)) in
          let same : slice_index (take (length left) deadlines) n ≡ slice_index deadlines n = get_or-take (length left) deadlines n 0 inside in
          ap (alive_in time) (left_slot n w at) ∙ watches.watched n time (subst (λ d. time < d) same below) ∙ ap instances_in (sym (left_slot n w at)))
        where
          by_order : (n < length left) ⊎ (length left ≤ n) → n < length left
          by_order (inl below) = below
          by_order (inr past) = absurd (let no : None ≡ Some w = sym (none_waits left n past) ∙ at in cc)

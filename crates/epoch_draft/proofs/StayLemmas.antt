-- Stores in which keys stay ready.
use Rattle.std.proofs.Common.{◌≡◌, ◌∙◌, sym, ap, refl, subst, inl, inr, ℕ, ◌<◌, ◌⊎◌, get_or, set, length, List, [], ◌++◌}
use Rattle.std.specs.Prelude.{Contains, Option, Some, None}
use Rattle.std.specs.Option.{option_and_then}
use Rattle.std.specs.List.{All}
use Rattle.std.proofs.lemmas.Grind.{get_or-set_at}
use Rattle.std.proofs.lemmas.List.{get_or-set_other}
use Rattle.std.proofs.lemmas.List.Elements.{All-append, All-contains, All-contains_itself, All-filter, All-nil, All-weaker}
use Rattle.std.proofs.lemmas.List.Sorted.{All-permutation, IsPermutation-sym}
use Rattle.std.proofs.lemmas.List.Folds.{list_any-from_Any}
use Rattle.event_types.specs.declared.value.Value.{Value}
use Rattle.instances.specs.Alive.{is_alive}
use Rattle.semantics.specs.Births.{is_after}
use Rattle.instances.specs.Births.{began_after}
use Rattle.instances.specs.Bounds.{alive_instances}
use Rattle.instances.specs.Keys.{IsKeyReady, KeepsUsedKeys, Key}
use Rattle.instances.specs.declared.instance.Instance.{Instance}
use Rattle.semantics.specs.Values.{value_at}
use Rattle.automaton.specs.States.{Net, wait_at}
use Rattle.automaton.specs.declared.wait.Wait.{Wait}
use Rattle.automaton.proofs.NumberLemmas.{are_same_or_not}
use Rattle.binding_index.specs.Among.{is_key}
use Rattle.binding_index.specs.Leads.{Leads, ready_in}
use Rattle.binding_index.specs.Stores.{condition_of, instances_of, key_of, ready_of}
use Rattle.binding_index.specs.declared.store.Store.{Store}
use Rattle.binding_index.proofs.EqualityLemmas.{key_itself}
use Rattle.stream_readers.specs.KeyTables.{AreTidied, KeyTable, entries_at}
use Rattle.semantics.specs.Denotation.{Streams}
use Rattle.epoch_laws.specs.Epochs.{is_unmet}
use Rattle.epoch_draft.specs.Held.{SameReady, SameShapes, Shape, held, instances_in, key_in, shape_of}
use Rattle.epoch_draft.specs.Led.{AreLed, AreReadyIn, StayReady, StaysReady}
use Rattle.epoch_draft.specs.Readying.{HasRoom, HaveRoom}
use Rattle.epoch_draft.specs.Settling.{AreLinked, AreTaken, listed_tuples}
use Rattle.epoch_draft.specs.Stores.{AreNewStores}
use Rattle.epoch_draft.specs.declared.draft.Pair.{Pair}
use Rattle.epoch_draft.proofs.Lists.{contains_or_not}

-- a store as it was
pub stays_same : (slot : Option Store) → StaysReady slot slot
stays_same slot = record { instances = λ ready. ready; keys = λ key c. c }

-- two changes of a store, one after the other
pub stays_trans : (old mid new : Option Store) → StaysReady old mid → StaysReady mid new → StaysReady old new
stays_trans old mid new one two = record { instances = λ ready. two.instances (one.instances ready); keys = λ key c. one.keys key (two.keys key c) }

-- and all stores
pub stay_same : (stores : List (Option Store)) → StayReady stores stores
stay_same stores n = stays_same (get_or stores n None)

-- two changes of all stores, one after the other
pub stay_trans : (old mid new : List (Option Store)) → StayReady old mid → StayReady mid new → StayReady old new
stay_trans old mid new one two n = stays_trans (get_or old n None) (get_or mid n None) (get_or new n None) (one n) (two n)

-- one store was written over
pub stay_set : (first old : List (Option Store)) (n : ℕ) (slot : Option Store) → n < length old → StayReady first old → StaysReady (get_or old n None) slot → StayReady first (set old n slot)
stay_set first old n slot below was one m = stays_trans (get_or first m None) (get_or old m None) (get_or (set old n slot) m None) (was m) (go (are_same_or_not m n))
  where
    go : (m ≡ n) ⊎ (m ≡ n → ⊥) → StaysReady (get_or old m None) (get_or (set old n slot) m None)
    go (inl same) = subst (StaysReady (get_or old m None)) (sym (get_or-set_at old n m slot None same below)) (subst (λ (k : ℕ). StaysReady (get_or old k None) slot) (sym same) one)
    go (inr other) = subst (StaysReady (get_or old m None)) (sym (get_or-set_other old n m slot None other)) (stays_same (get_or old m None))

-- the key of an instance that is kept is kept
used_ready : (key : Option Key) (instances : List Instance) (before after : List Value) → KeepsUsedKeys key instances before after → (i : Instance) → Contains instances i → IsKeyReady key before i.tuple → IsKeyReady key after i.tuple
used_ready None instances before after keeps i c ready = tt
used_ready (Some key) instances before after keeps i c ready = (keeps (value_at i.tuple key.binding)).1 (ready, (c.0, i, c.1, c.2, refl))

-- a purge keeps the keys of the instances that it keeps
pub purge_stays : (old new : Store) (time : ℕ) (since : Option ℕ) → instances_of new ≡ alive_instances time (condition_of old) (began_after since (instances_of old)) → KeepsUsedKeys (key_of old) (instances_of new) (ready_of old) (ready_of new) → key_of new ≡ key_of old → StaysReady (Some old) (Some new)
purge_stays old new time since is keeps same = record {
  instances = λ ready.
      subst (λ (k : Option Key). All (λ (i : Instance). IsKeyReady k (ready_of new) i.tuple) (instances_of new)) (sym same)
      (All-weaker (Contains (instances_of new)) (λ (i : Instance). IsKeyReady (key_of old) (ready_of new) i.tuple)
      (λ i c. used_ready (key_of old) (instances_of new) (ready_of old) (ready_of new) keeps i c (All-contains (λ (i : Instance). IsKeyReady (key_of old) (ready_of old) i.tuple) (instances_of new) i (kept ready) c))
      (instances_of new) (All-contains_itself (instances_of new)));
  keys = λ key c. ((keeps key).0 c).0;
}
  where
    kept : AreReadyIn (Some old) → All (λ (i : Instance). IsKeyReady (key_of old) (ready_of old) i.tuple) (instances_of new)
    kept ready =
        subst (All (λ (i : Instance). IsKeyReady (key_of old) (ready_of old) i.tuple)) (sym is)
        (All-filter (λ (i : Instance). is_alive time (condition_of old) i.tuple) (λ (i : Instance). IsKeyReady (key_of old) (ready_of old) i.tuple) (began_after since (instances_of old))
        (All-filter (λ (i : Instance). is_after since i.first) (λ (i : Instance). IsKeyReady (key_of old) (ready_of old) i.tuple) (instances_of old) ready))

-- a store that forgets keys keeps those of its instances
pub forget_stays : (old new : Store) → instances_of new ≡ instances_of old → KeepsUsedKeys (key_of old) (instances_of new) (ready_of old) (ready_of new) → key_of new ≡ key_of old → StaysReady (Some old) (Some new)
forget_stays old new is keeps same = record {
  instances = λ ready.
      subst (λ (k : Option Key). All (λ (i : Instance). IsKeyReady k (ready_of new) i.tuple) (instances_of new)) (sym same)
      (All-weaker (Contains (instances_of new)) (λ (i : Instance). IsKeyReady (key_of old) (ready_of new) i.tuple)
      (λ i c. used_ready (key_of old) (instances_of new) (ready_of old) (ready_of new) keeps i c
      (All-contains (λ (i : Instance). IsKeyReady (key_of old) (ready_of old) i.tuple) (instances_of new) i (subst (All (λ (i : Instance). IsKeyReady (key_of old) (ready_of old) i.tuple)) (sym is) ready) c))
      (instances_of new) (All-contains_itself (instances_of new)));
  keys = λ key c. ((keeps key).0 c).0;
}

-- where stores are made for the same and the same keys are ready, all depends on the instances
pub same_stay : (old new : List (Option Store)) → SameShapes old new → SameReady old new
    → ((n : ℕ) → All (λ (i : Instance). IsKeyReady (key_in (get_or old n None)) (ready_in (get_or old n None)) i.tuple) (held old n) → All (λ (i : Instance). IsKeyReady (key_in (get_or old n None)) (ready_in (get_or old n None)) i.tuple) (held new n)) → StayReady old new
same_stay old new shapes same instances n = record {
  instances = λ ready.
      subst (λ (k : Option Key). All (λ (i : Instance). IsKeyReady k (ready_in (get_or new n None)) i.tuple) (held new n)) (sym (ap (option_and_then (λ (shape : Shape). shape.key)) (shapes.shapes n)))
      (subst (λ (vs : List Value). All (λ (i : Instance). IsKeyReady (key_in (get_or old n None)) vs i.tuple) (held new n)) (sym (same n)) (instances n ready));
  keys = λ key c. subst (λ (vs : List Value). Contains vs key) (same n) c;
}

-- what tuples take out leaves the keys ready
pub taken_stay : (net : Net) (news : Streams) (pairs : List Pair) (old new : List (Option Store)) → AreTaken net news pairs old new → StayReady old new
taken_stay net news pairs old new taken = same_stay old new taken.same taken.ready (λ n ready. go n (wait_at net n) refl ready)
  where
    Ready : ℕ → Instance → Type 0
    Ready n i = IsKeyReady (key_in (get_or old n None)) (ready_in (get_or old n None)) i.tuple

    go : (n : ℕ) (o : Option Wait) → wait_at net n ≡ o → All (Ready n) (held old n) → All (Ready n) (held new n)
    go n None at ready = subst (All (Ready n)) (sym (taken.none n at)) ready
    go n (Some w) at ready = subst (All (Ready n)) (sym (taken.taken n w at)) (All-filter (λ (i : Instance). is_unmet w.choose (listed_tuples news pairs n) i.tuple) (Ready n) (held old n) ready)

-- a state for which no store was made has no instances
no_store : (slot : Option Store) → shape_of slot ≡ None → instances_in slot ≡ []
no_store None e = refl
no_store (Some store) e = absurd (cc)

-- so do beads that are linked where there is room for them
pub linked_stay : (numbers : List ℕ) (beads : List (List Instance)) (old new : List (Option Store)) → AreLinked numbers beads old new → HaveRoom old beads → StayReady old new
linked_stay numbers beads old new linked room = same_stay old new linked.same linked.ready (λ n ready. go n (contains_or_not numbers n) (get_or old n None) refl ready)
  where
    Ready : ℕ → Instance → Type 0
    Ready n i = IsKeyReady (key_in (get_or old n None)) (ready_in (get_or old n None)) i.tuple

    more : (n : ℕ) → All (Ready n) (get_or beads n [])
    more n = All-weaker (HasRoom (key_in (get_or old n None)) (ready_in (get_or old n None))) (Ready n) (λ i has. has.is_ready) (get_or beads n []) (room n)

    go : (n : ℕ) → Contains numbers n ⊎ (Contains numbers n → ⊥) → (slot : Option Store) → get_or old n None ≡ slot → All (Ready n) (held old n) → All (Ready n) (held new n)
    go n (inl c) None at ready = subst (All (Ready n)) (sym (no_store (get_or new n None) (linked.same.shapes n ∙ ap shape_of at))) (All-nil (Ready n))
    go n (inl c) (Some store) at ready =
        All-permutation (Ready n) (instances_of store ++ get_or beads n []) (held new n) (IsPermutation-sym _ _ (linked.linked n c store at))
        (All-append (Ready n) (instances_of store) (get_or beads n []) (subst (λ (slot : Option Store). All (Ready n) (instances_in slot)) at ready) (more n))
    go n (inr absent) slot at ready = subst (λ (slot : Option Store). All (Ready n) (instances_in slot)) (sym (linked.others n absent)) ready

-- keys lead as before where no more are ready
pub led_stay : (net : Net) (old new : KeyTable) (before after : List (Option Store)) → AreLed net old before → StayReady before after → AreTidied after old new → AreLed net new after
led_stay net old new before after led stay tidied = record {
  led = λ n w key at by.
      All-weaker (Contains (ready_in (get_or after n None))) (λ (v : Value). Leads (entries_at new w.stream key.event) v n)
      (λ v c. tidied.kept w.stream key.event v n (list_any-from_Any (is_key v) (ready_in (get_or after n None)) (c.0, v, c.1, c.2, key_itself v))
      (All-contains (λ (v : Value). Leads (entries_at old w.stream key.event) v n) (ready_in (get_or before n None)) v (led.led n w key at by) ((stay n).keys v c)))
      (ready_in (get_or after n None)) (All-contains_itself (ready_in (get_or after n None)));
  ready = λ n. (stay n).instances (led.ready n);
}

-- where no key leads anywhere and none is ready, all do
pub led_new : (net : Net) (stores : List (Option Store)) → AreNewStores net stores → AreLed net [] stores
led_new net stores new = record {
  led = λ n w key at by. subst (All (λ (v : Value). Leads (entries_at [] w.stream key.event) v n)) (sym (new.none_ready n)) (All-nil (λ (v : Value). Leads (entries_at [] w.stream key.event) v n));
  ready = λ n.
      subst (All (λ (i : Instance). IsKeyReady (key_in (get_or stores n None)) (ready_in (get_or stores n None)) i.tuple)) (sym (new.empty n)) (All-nil (λ (i : Instance). IsKeyReady (key_in (get_or stores n None)) (ready_in (get_or stores n None)) i.tuple));
}

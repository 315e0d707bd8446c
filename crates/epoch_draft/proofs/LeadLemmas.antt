-- Keys that come to lead to a state.
use Rattle.std.proofs.Common.{◌≡◌, ◌∙◌, sym, ap, refl, subst, inl, inr, ℕ, ◌<◌, ◌⊎◌, true, get_or, set, length, List, [], ◌∷◌}
use Rattle.std.specs.Prelude.{Contains, IfSome, OnErr, OnOk, Option, Some, None, Result, Ok, Err}
use Rattle.std.specs.List.{All}
use Rattle.std.proofs.lemmas.Grind.{get_or-set_at}
use Rattle.std.proofs.lemmas.List.{get_or-set_other}
use Rattle.std.proofs.lemmas.List.Elements.{All-cons, All-contains, All-contains_itself, All-head, All-nil, All-weaker}
use Rattle.std.proofs.lemmas.Cmp.{eq_by_cmp_equiv}
use Rattle.std.proofs.lemmas.Map.Views.{Contains-from_any, list_any-from_Contains}
use Rattle.event_types.specs.OrderLaws.{value_total}
use Rattle.event_types.specs.Tuple.{TupleView}
use Rattle.event_types.specs.declared.value.Value.{Value}
use Rattle.instances.specs.Keys.{BindingFits, HasKey, IsKeyReady, Key}
use Rattle.instances.specs.declared.instance.Instance.{Instance}
use Rattle.semantics.specs.Values.{value_at}
use Rattle.automaton.specs.States.{Net, wait_at}
use Rattle.automaton.specs.declared.wait.Wait.{Wait}
use Rattle.automaton.proofs.NumberLemmas.{are_same_or_not}
use Rattle.binding_index.specs.Among.{is_among, is_key}
use Rattle.binding_index.specs.KeyParts.{key_of_part}
use Rattle.binding_index.specs.Leads.{Entries, Leads, ready_in}
use Rattle.binding_index.specs.declared.key.KeyPart.{KeyPart}
use Rattle.binding_index.specs.declared.store.Store.{Store}
use Rattle.binding_index.proofs.EqualityLemmas.{key_decides}
use Rattle.stream_readers.specs.KeyTables.{IsNoted, KeyTable, LeadOn, LeadSame, entries_at}
use Rattle.stream_readers.specs.Leading.{lead_key, lead_key_in}
use Rattle.epoch_draft.specs.Held.{instances_in, key_in, shape_of}
use Rattle.epoch_draft.specs.Led.{AreLed, AreReadyIn, HasKeyOf, LeadBy, LeadTo}
use Rattle.epoch_draft.specs.Readying.{HasReadyAt, HasRoom}
use Rattle.epoch_draft.specs.Stores.{HasStores}
use Rattle.epoch_draft.proofs.KeyLemmas.{key_at}
use Rattle.epoch_draft.proofs.LedLemmas.{lead_is_first}
use Rattle.epoch_draft.proofs.Lists.{some_is}
use Rattle.epoch_draft.proofs.StoreLemmas.{key_shape}

-- no key comes to lead anywhere
pub on_none : (keys : KeyTable) → LeadOn keys keys
on_none keys stream attribute key number leads = leads

-- where keys lead just where they led, none comes to lead anywhere
on_same : (old new : KeyTable) → LeadSame old new → LeadOn old new
on_same old new same stream attribute key number leads = subst (λ (es : Entries). Leads es key number) (sym (same stream attribute)) leads

-- keys that came to lead one after another
pub on_trans : (old mid new : KeyTable) → LeadOn old mid → LeadOn mid new → LeadOn old new
on_trans old mid new one two stream attribute key number leads = two stream attribute key number (one stream attribute key number leads)

-- keys lead on, whether there was memory for one more or not
pub noted_on : {T E : Type 0} (stream attribute : ℕ) (key : Value) (state : ℕ) (old new : KeyTable) (r : Result T E) → OnOk r (IsNoted stream attribute key state old new) → OnErr r (LeadSame old new) → LeadOn old new
noted_on stream attribute key state old new (Ok x) noted same = noted.kept
noted_on stream attribute key state old new (Err e) noted same = on_same old new same

-- what led to the state still does
pub by_kept : (net : Net) (n : ℕ) (old new : KeyTable) (ready : List Value) → LeadOn old new → LeadBy net old n ready → LeadBy net new n ready
by_kept net n old new ready kept by w key at lead_by =
    All-weaker (λ (v : Value). Leads (entries_at old w.stream key.event) v n) (λ (v : Value). Leads (entries_at new w.stream key.event) v n) (λ v leads. kept w.stream key.event v n leads) ready (by w key at lead_by)

-- and one more key that is ready
pub by_ready : (net : Net) (n : ℕ) (keys : KeyTable) (found : Key) (key : Option Key) (value : Value) (before after : List Value) (binding : TupleView) → key ≡ Some found → value_at binding found.binding ≡ value
    → LeadBy net keys n before → LeadBy net keys n (value ∷ []) → ((v : Value) → Contains after v → Contains before v ⊎ HasKey key binding v) → LeadBy net keys n after
by_ready net n keys found key value before after binding of is by leads only w other at lead_by = All-weaker (Contains after) There (λ v c. go v (only v c)) after (All-contains_itself after)
  where
    There : Value → Type 0
    There v = Leads (entries_at keys w.stream other.event) v n

    go : (v : Value) → Contains before v ⊎ HasKey key binding v → There v
    go v (inl c) = All-contains There before v (by w other at lead_by) c
    go v (inr has) = subst There (sym is ∙ subst (λ (k : Option Key). HasKey k binding v) of has) (All-head There value [] (leads w other at lead_by))

module _ (net : Net) (n : ℕ) (w : Wait) (part : KeyPart) (value : Value) (at : wait_at net n ≡ Some w) (by : lead_key w.choose ≡ Some (key_of_part part)) (old new : KeyTable) where
  -- a key that is noted leads to the state
  pub noted_leads : IsNoted w.stream part.event value n old new → LeadBy net new n (value ∷ [])
  noted_leads noted other key there found =
      let same = some_is w other (sym at ∙ there) in
      let one : Leads (entries_at new other.stream part.event) value n = subst (λ (x : Wait). Leads (entries_at new x.stream part.event) value n) same noted.leads in
      let all : Leads (entries_at new other.stream key.event) value n =
      subst (λ (k : Key). Leads (entries_at new other.stream k.event) value n) (some_is (key_of_part part) key (sym by ∙ ap (λ (x : Wait). lead_key x.choose) same ∙ found)) one in
      All-cons (λ (v : Value). Leads (entries_at new other.stream key.event) v n) value [] all (All-nil (λ (v : Value). Leads (entries_at new other.stream key.event) v n))

-- where the key of a binding is ready, there is room for it
pub room_by_ready : (found : Key) (key : Option Key) (ready : List Value) (binding : TupleView) (value : Value) → key ≡ Some found → value_at binding found.binding ≡ value → is_among value ready ≡ true → IsKeyReady key ready binding
room_by_ready found key ready binding value of is among =
    subst (λ (k : Option Key). IsKeyReady k ready binding) (sym of) (subst (Contains ready) (sym is) (Contains-from_any (λ x y e. (key_decides x y).0 e) value ready among))

-- an instance for which there is room has a key that is ready
pub ready_at : (found : Key) (key : Option Key) (ready : List Value) (last : Option Instance) → key ≡ Some found → IfSome last (HasRoom key ready) → IfSome last (HasReadyAt found.binding ready)
ready_at found key ready None of room = room
ready_at found key ready (Some last) of room = (subst (λ (k : Option Key). BindingFits k last.tuple) of room.fits, subst (λ (k : Option Key). IsKeyReady k ready last.tuple) of room.is_ready)

-- a value that equals one that is ready is ready
pub among_equal : (ready : List Value) (value key : Value) → Contains ready value → is_key value key ≡ true → is_among key ready ≡ true
among_equal ready value key there same = list_any-from_Contains (eq_by_cmp_equiv value_total) key ready (subst (Contains ready) ((key_decides value key).0 same) there)

-- the state's store has the key by which it is found
pub lead_has : (net : Net) (n : ℕ) (stores : List (Option Store)) → HasStores net stores → HasKeyOf net n (key_in (get_or stores n None))
lead_has net n stores has key is = go (wait_at net n) refl
  where
    go : (o : Option Wait) → wait_at net n ≡ o → key_in (get_or stores n None) ≡ Some key
    go None at = absurd (let no : Some key ≡ None = sym is ∙ ap lead_key_in at in cc)
    go (Some w) at = key_at net stores n w has at ∙ lead_is_first w.choose key (ap lead_key_in (sym at) ∙ is)

-- more keys are ready in one store, and lead to its state
pub led_more : (net : Net) (old new : KeyTable) (stores : List (Option Store)) (n : ℕ) (slot : Option Store) → n < length stores → LeadOn old new → LeadBy net new n (ready_in slot) → All (Contains (ready_in slot)) (ready_in (get_or stores n None)) → shape_of slot ≡ shape_of (get_or stores n None) → instances_in slot ≡ instances_in (get_or stores n None) → AreLed net old stores
    → AreLed net new (set stores n slot)
led_more net old new stores n slot below more by ready shape instances led = record {
  led = λ m. leads m (are_same_or_not m n);
  ready = λ m. readies m (are_same_or_not m n);
}
  where
    here : (m : ℕ) → m ≡ n → get_or (set stores n slot) m None ≡ slot
    here m same = get_or-set_at stores n m slot None same below

    there : (m : ℕ) → (m ≡ n → ⊥) → get_or (set stores n slot) m None ≡ get_or stores m None
    there m other = get_or-set_other stores n m slot None other

    leads : (m : ℕ) → (m ≡ n) ⊎ (m ≡ n → ⊥) → LeadTo net new m (get_or (set stores n slot) m None)
    leads m (inl same) = subst (LeadTo net new m) (sym (here m same)) (subst (λ (k : ℕ). LeadTo net new k slot) (sym same) by)
    leads m (inr other) = subst (LeadTo net new m) (sym (there m other)) (by_kept net m old new (ready_in (get_or stores m None)) more (led.led m))

    one : AreReadyIn slot
    one =
        subst (λ (k : Option Key). All (λ (i : Instance). IsKeyReady k (ready_in slot) i.tuple) (instances_in slot)) (sym (key_shape slot (get_or stores n None) shape))
        (subst (All (λ (i : Instance). IsKeyReady (key_in (get_or stores n None)) (ready_in slot) i.tuple)) (sym instances)
        (All-weaker (λ (i : Instance). IsKeyReady (key_in (get_or stores n None)) (ready_in (get_or stores n None)) i.tuple) (λ (i : Instance). IsKeyReady (key_in (get_or stores n None)) (ready_in slot) i.tuple)
        (λ i is_ready. still (key_in (get_or stores n None)) i is_ready) (instances_in (get_or stores n None)) (led.ready n)))
      where
        still : (key : Option Key) (i : Instance) → IsKeyReady key (ready_in (get_or stores n None)) i.tuple → IsKeyReady key (ready_in slot) i.tuple
        still None i is_ready = tt
        still (Some key) i is_ready = All-contains (Contains (ready_in slot)) (ready_in (get_or stores n None)) (value_at i.tuple key.binding) ready is_ready

    readies : (m : ℕ) → (m ≡ n) ⊎ (m ≡ n → ⊥) → AreReadyIn (get_or (set stores n slot) m None)
    readies m (inl same) = subst AreReadyIn (sym (here m same)) one
    readies m (inr other) = subst AreReadyIn (sym (there m other)) (led.ready m)

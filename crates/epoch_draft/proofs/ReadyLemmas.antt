-- Room in the stores for the beads of an epoch.
use Rattle.std.proofs.Common.{◌≡◌, ◌∙◌, sym, ap, refl, subst, inl, inr, ℕ, ◌+◌, ◌<◌, ◌⊎◌, length, get_or, set, take, List, [], ◌∷◌, ◌++◌, arith}
use Rattle.std.specs.Prelude.{Contains, Option, Some, None}
use Rattle.std.specs.List.{All}
use Rattle.std.proofs.lemmas.Grind.{get_or-set_at}
use Rattle.std.proofs.lemmas.List.{get_or-set_other}
use Rattle.std.proofs.lemmas.List.Elements.{All-append, All-contains, All-cons, All-nil, All-weaker}
use Rattle.std.proofs.lemmas.List.Sorted.{All-permutation, IsPermutation-sym}
use Rattle.event_types.specs.declared.kind.Kind.{Kind}
use Rattle.event_types.specs.declared.value.Value.{Value}
use Rattle.event_types.specs.Tuple.{TupleView}
use Rattle.instances.specs.Keys.{BindingFits, IsKeyReady, Key}
use Rattle.instances.specs.declared.instance.Instance.{Instance}
use Rattle.semantics.specs.Denotation.{Streams}
use Rattle.semantics.specs.Kinds.{HasKinds}
use Rattle.semantics.specs.Values.{value_at}
use Rattle.binding_index.specs.Leads.{ready_in}
use Rattle.binding_index.specs.declared.store.Store.{Store}
use Rattle.automaton.specs.LineKinds.{TurnGives}
use Rattle.automaton.specs.States.{Net, wait_at}
use Rattle.automaton.specs.declared.layout.Layout.{Layout}
use Rattle.automaton.specs.declared.wait.Turn.{Turn}
use Rattle.automaton.specs.declared.wait.Wait.{Wait}
use Rattle.automaton.proofs.NumberLemmas.{are_same_or_not}
use Rattle.epoch_laws.specs.Closing.{leaving_state}
use Rattle.epoch_laws.specs.Epochs.{again, took}
use Rattle.epoch_laws.specs.Instances.{instances_entering}
use Rattle.epoch_draft.specs.Deriving.{CanDraw, DrawnUpTo, news_of}
use Rattle.epoch_draft.specs.Held.{SameReady, SameShapes, SameStored, held, instances_in, key_in, shape_of}
use Rattle.epoch_draft.specs.Readying.{HasRoom, HaveKeyIn, HaveKeys, HaveRoom, HaveRoomIn}
use Rattle.epoch_draft.specs.declared.draft.Draft.{Draft}
use Rattle.epoch_draft.specs.declared.draft.Pair.{Pair}
use Rattle.epoch_draft.proofs.KeyLemmas.{binding_fits, key_at}
use Rattle.epoch_draft.proofs.Lists.{more_contains}
use Rattle.epoch_draft.proofs.PurgeLemmas.{shapes_same, shapes_set, shapes_trans}
use Rattle.epoch_draft.proofs.StateLemmas.{at_wait, hop_typed, wait_entry, wait_typed}
use Rattle.epoch_draft.proofs.StoreLemmas.{same_key, typed_has}
use Rattle.epoch_draft.proofs.SuitLemmas.{instances_typed, leaves_kinds}
use Rattle.epoch_draft.proofs.TypingLemmas.{entered_kinds, took_kinds}

-- with more keys ready there is room still
more_room : (key : Option Key) (old new : List Value) (instance : Instance) → All (Contains new) old → HasRoom key old instance → HasRoom key new instance
more_room key old new instance more room = record { fits = room.fits; is_ready = go key room.is_ready }
  where
    go : (k : Option Key) → IsKeyReady k old instance.tuple → IsKeyReady k new instance.tuple
    go None is = tt
    go (Some k) is = All-contains (Contains new) old (value_at instance.tuple k.binding) more is

-- with room for the first and the others there is room for all
pub room_more : (key : Option Key) (old new : List Value) (instance : Instance) (instances : List Instance) → All (Contains new) old → HasRoom key old instance → All (HasRoom key new) instances → All (HasRoom key new) (instance ∷ instances)
room_more key old new instance instances more room rest = All-cons (HasRoom key new) instance instances (more_room key old new instance more room) rest

-- keys that were ready stay so, from step to step
pub more_trans : (old mid new : List Value) → All (Contains mid) old → All (Contains new) mid → All (Contains new) old
more_trans old mid new one two = All-weaker (Contains mid) (Contains new) (λ v c. All-contains (Contains new) mid v two c) old one

-- there is room for the beads of these states
pub record ReadiedSoFar (numbers : List ℕ) (beads : List (List Instance)) (old new : List (Option Store)) : Type 0 where
  pub same : SameStored old new
  pub room : (n : ℕ) → Contains numbers n → HaveRoomIn (get_or new n None) (get_or beads n [])

-- none is made yet
pub readied_none : (beads : List (List Instance)) (stores : List (Option Store)) → ReadiedSoFar [] beads stores stores
readied_none beads stores = record { same = record { same = shapes_same stores; held = λ n. refl }; room = λ n c. absurd (omega (arith, c)) }

-- a store was written over by one with the same instances
pub stored_set : (first old : List (Option Store)) (n : ℕ) (slot : Option Store) → n < length old → SameStored first old → shape_of slot ≡ shape_of (get_or old n None) → instances_in slot ≡ instances_in (get_or old n None) → SameStored first (set old n slot)
stored_set first old n slot below was shape is = record { same = shapes_trans first old (set old n slot) was.same (shapes_set old n slot below shape); held = λ m. go m (are_same_or_not m n) }
  where
    go : (m : ℕ) → (m ≡ n) ⊎ (m ≡ n → ⊥) → held (set old n slot) m ≡ held first m
    go m (inl same) = ap instances_in (get_or-set_at old n m slot None same below) ∙ is ∙ ap (held old) (sym same) ∙ was.held m
    go m (inr other) = ap instances_in (get_or-set_other old n m slot None other) ∙ was.held m

-- one state more
pub readied_more : (numbers : List ℕ) (i : ℕ) (beads : List (List Instance)) (first old : List (Option Store)) (slot : Option Store) → i < length numbers → get_or numbers i 0 < length old
    → shape_of slot ≡ shape_of (get_or old (get_or numbers i 0) None) → instances_in slot ≡ instances_in (get_or old (get_or numbers i 0) None) → HaveRoomIn slot (get_or beads (get_or numbers i 0) [])
    → ReadiedSoFar (take i numbers) beads first old → ReadiedSoFar (take (i + 1) numbers) beads first (set old (get_or numbers i 0) slot)
readied_more numbers i beads first old slot lt below shape is room was = record {
  same = stored_set first old n slot below was.same shape is;
  room = λ m c. rooms m (are_same_or_not m n) (more_contains numbers i 0 m lt c);
}
  where
    n : ℕ
    n = get_or numbers i 0

    rooms : (m : ℕ) → (m ≡ n) ⊎ (m ≡ n → ⊥) → Contains (take i numbers) m ⊎ (n ≡ m) → HaveRoomIn (get_or (set old n slot) m None) (get_or beads m [])
    rooms m (inl same) c = subst (λ (o : Option Store). HaveRoomIn o (get_or beads m [])) (sym (get_or-set_at old n m slot None same below)) (subst (λ (k : ℕ). HaveRoomIn slot (get_or beads k [])) (sym same) room)
    rooms m (inr other) (inl c) = subst (λ (o : Option Store). HaveRoomIn o (get_or beads m [])) (sym (get_or-set_other old n m slot None other)) (was.room m c)
    rooms m (inr other) (inr same) = absurd (other (sym same))

-- all states that have beads are done
pub readied_all : (numbers : List ℕ) (beads : List (List Instance)) (stores : List (Option Store)) → ((n : ℕ) → (get_or beads n [] ≡ []) ⊎ Contains numbers n) → ((n : ℕ) → Contains numbers n → HaveRoomIn (get_or stores n None) (get_or beads n [])) → HaveRoom stores beads
readied_all numbers beads stores all room n = go (all n)
  where
    go : (get_or beads n [] ≡ []) ⊎ Contains numbers n → HaveRoomIn (get_or stores n None) (get_or beads n [])
    go (inl none) = subst (HaveRoomIn (get_or stores n None)) (sym none) (All-nil (HasRoom (key_in (get_or stores n None)) (ready_in (get_or stores n None))))
    go (inr c) = room n c

-- where keys and what is ready are the same there is room still
pub room_same : (old new : List (Option Store)) (beads : List (List Instance)) → SameShapes old new → SameReady old new → HaveRoom old beads → HaveRoom new beads
room_same old new beads same ready room n =
    subst (λ (k : Option Key). All (HasRoom k (ready_in (get_or new n None))) (get_or beads n [])) (sym (same_key old new same n))
    (subst (λ (vs : List Value). All (HasRoom (key_in (get_or old n None)) vs) (get_or beads n [])) (sym (ready n)) (room n))

-- the instances that go back have the kinds of those that wait
pub again_kinds : (fold : Option Turn) (bs es out : List Kind) (rows : List Instance) → TurnGives fold bs es out → All (λ (i : Instance). HasKinds out i.tuple) rows → All (λ (i : Instance). HasKinds bs i.tuple) (again fold rows)
again_kinds None bs es out rows gives all = All-nil (λ (i : Instance). HasKinds bs i.tuple)
again_kinds (Some turn) bs es out rows gives all = subst (λ ks. All (λ (i : Instance). HasKinds ks i.tuple) rows) (sym gives.2) all

module _ (net : Net) (layout : Layout) (stores : List (Option Store)) (opened : List (List TupleView)) (can : CanDraw net layout stores opened) (done : List ℕ) (draft : Draft) (pairs : List Pair) (drawn : DrawnUpTo net layout stores opened done draft pairs) where
  abbrev news : Streams
  news = news_of opened draft.made done

  -- the beads of a waiting state have the kinds of those that wait there
  beads_typed : (n : ℕ) (w : Wait) → wait_at net n ≡ Some w → All (λ (i : Instance). HasKinds (can.typed.kinding.waiting n) i.tuple) (get_or draft.beads n [])
  beads_typed n w at =
      let kinds = layout.kinds in
      let here = at_wait net n w at in
      let typed = hop_typed kinds net can.typed.kinding can.typed.states n w here in
      let bs = can.typed.kinding.waiting n in
      let out = can.typed.kinding.leaving n in
      let wait = here.hop.wait in
      let flow = leaving_state net news (held stores) here.before in
      let took_all = took wait.choose wait.fold (news wait.stream) (held stores n) in
      let entered = entered_kinds here.hop.step (can.typed.kinding.leaving here.before) bs flow typed.step (leaves_kinds net can.network kinds stores can.typed news drawn.kinds here.before) in
      let went =
      took_kinds wait bs typed.wait.event out (held stores n) (news wait.stream) typed.wait.gives (drawn.kinds wait.stream typed.wait.event typed.wait.known) (instances_typed net can.network kinds stores can.typed n w at) in
      let gone = again_kinds wait.fold bs typed.wait.event out took_all typed.wait.gives.1 went in
      let good = λ (i : Instance). HasKinds bs i.tuple in
      All-permutation good (instances_entering here.hop flow ++ again wait.fold took_all) (get_or draft.beads n []) (IsPermutation-sym _ _ (drawn.drawn.bound n here.before here.hop (wait_entry net n w here)))
      (All-append good (instances_entering here.hop flow) (again wait.fold took_all) entered gone)

  -- the beads of each state have the attribute that the key of its store names
  pub beads_have_keys : HaveKeys stores draft.beads
  beads_have_keys n = go (wait_at net n) refl
    where
      go : (o : Option Wait) → wait_at net n ≡ o → HaveKeyIn (get_or stores n None) (get_or draft.beads n [])
      go None at = subst (HaveKeyIn (get_or stores n None)) (sym (drawn.drawn.unbound n at)) (All-nil (λ (i : Instance). BindingFits (key_in (get_or stores n None)) i.tuple))
      go (Some w) at =
          let bs = can.typed.kinding.waiting n in
          let typed = wait_typed layout.kinds net can.typed.kinding can.typed.states n w at in
          let key = key_at net stores n w (typed_has net layout.kinds stores can.typed) at in
          All-weaker (λ (i : Instance). HasKinds bs i.tuple) (λ (i : Instance). BindingFits (key_in (get_or stores n None)) i.tuple)
          (λ i h. subst (λ (k : Option Key). BindingFits k i.tuple) (sym key) (binding_fits typed.event bs w.choose i.tuple typed.gives.0 h)) (get_or draft.beads n []) (beads_typed n w at)

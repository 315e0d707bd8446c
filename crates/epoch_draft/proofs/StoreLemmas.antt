-- Stores and for what they are made.
use Rattle.std.proofs.Common.{◌≡◌, ◌∙◌, sym, ap, refl, subst, ℕ, get_or, List}
use Rattle.std.specs.Prelude.{Option, Some, None}
use Rattle.std.specs.Option.{option_and_then}
use Rattle.std.specs.List.{All}
use Rattle.event_types.specs.declared.kind.Kind.{Kind}
use Rattle.event_types.specs.Tuple.{TupleView}
use Rattle.instances.specs.Keys.{Key}
use Rattle.instances.specs.declared.instance.Instance.{Instance}
use Rattle.semantics.specs.Denotation.{streams_of}
use Rattle.semantics.specs.Kinds.{HasKinds}
use Rattle.semantics.specs.Scalars.{Pr}
use Rattle.binding_index.specs.KeyParts.{first_key}
use Rattle.binding_index.specs.Stores.{condition_of, key_of}
use Rattle.binding_index.specs.declared.store.Store.{Store}
use Rattle.automaton.specs.States.{Net, wait_at}
use Rattle.automaton.specs.declared.layout.Layout.{Layout}
use Rattle.automaton.specs.declared.wait.Wait.{Wait}
use Rattle.epoch_laws.specs.Closing.{IsEpoch, Stores}
use Rattle.epoch_draft.specs.Deriving.{CanDraw, DrawnUpTo, news_of}
use Rattle.epoch_draft.specs.Drawn.{Drawn, Paired}
use Rattle.epoch_draft.specs.Held.{SameShapes, SameStored, Shape, held, instances_in, key_in, shape_for, shape_of}
use Rattle.epoch_draft.specs.Stores.{HasStores}
use Rattle.epoch_draft.specs.Typed.{IsTyped}
use Rattle.epoch_draft.specs.declared.draft.Draft.{Draft}
use Rattle.epoch_draft.specs.declared.draft.Pair.{Pair}
use Rattle.epoch_draft.proofs.PurgeLemmas.{shapes_same}
use Rattle.epoch_draft.proofs.Lists.{some_is}

-- two shapes of the same condition and key
shape_is : (choose other : List Pr) (key by : Option Key) → choose ≡ other → key ≡ by → (let one : Shape = record { condition = choose; key = key } in one) ≡ (let one : Shape = record { condition = other; key = by } in one)
shape_is choose other key by e f = λ i. record { condition = e i; key = f i }

-- where no shape is there is no store
pub none_is : (slot : Option Store) → shape_of slot ≡ None → slot ≡ None
none_is None e = refl
none_is (Some store) e = absurd (cc)

-- the stores of a typed network are made for its conditions
pub typed_has : (net : Net) (kinds : List (List Kind)) (stores : List (Option Store)) → IsTyped net kinds stores → HasStores net stores
typed_has net kinds stores typed = record {
  as_many = typed.as_many;
  shapes = λ n w at.
      let has = typed.has_stores n w at in ap shape_of has.1 ∙ ap Some (shape_is (condition_of has.0) w.choose (key_of has.0) (first_key w.choose) has.2.condition has.2.key);
  others = typed.others;
}

-- where a shape is there is a store of it
pub has_store : (slot : Option Store) (shape : Shape) → shape_of slot ≡ Some shape → (store : Store) × (slot ≡ Some store) × (condition_of store ≡ shape.condition) × (key_of store ≡ shape.key)
has_store None shape e = absurd (cc)
has_store (Some store) shape e =
    let same = some_is (let one : Shape = record { condition = condition_of store; key = key_of store } in one) shape e in (store, refl, ap (λ (s : Shape). s.condition) same, ap (λ (s : Shape). s.key) same)

-- and its condition is the shape's
pub condition_is : (store : Store) (choose : List Pr) → shape_of (Some store) ≡ Some (shape_for choose) → condition_of store ≡ choose
condition_is store choose e = ap (λ (s : Shape). s.condition) (some_is (let one : Shape = record { condition = condition_of store; key = key_of store } in one) (shape_for choose) e)

-- a store of the same shape has the same key
pub key_shape : (new old : Option Store) → shape_of new ≡ shape_of old → key_in new ≡ key_in old
key_shape new old same = ap (option_and_then (λ (shape : Shape). shape.key)) same

-- stores of the same shapes have the same keys
pub same_key : (old new : List (Option Store)) → SameShapes old new → (n : ℕ) → key_in (get_or new n None) ≡ key_in (get_or old n None)
same_key old new same n = key_shape (get_or new n None) (get_or old n None) (same.shapes n)

-- and are made for the same network
pub same_has : (net : Net) (old new : List (Option Store)) → SameShapes old new → HasStores net old → HasStores net new
same_has net old new same has = record {
  as_many = same.as_many ∙ has.as_many;
  shapes = λ n w at. same.shapes n ∙ has.shapes n w at;
  others = λ n at. none_is (get_or new n None) (same.shapes n ∙ ap shape_of (has.others n at));
}

-- stores with the same instances hold the same
pub held_same : (old new : List (Option Store)) → SameStored old new → held old ≡ held new
held_same old new same = λ i n. sym (same.held n) i

-- stores of the same shapes are typed where their instances have the kinds of their states
pub shaped_typed : (net : Net) (kinds : List (List Kind)) (old new : List (Option Store)) → (typed : IsTyped net kinds old) → SameShapes old new
    → ((n : ℕ) (w : Wait) → wait_at net n ≡ Some w → All (λ (i : Instance). HasKinds (typed.kinding.waiting n) i.tuple) (held new n)) → IsTyped net kinds new
shaped_typed net kinds old new typed same have = record {
  kinding = typed.kinding;
  states = typed.states;
  as_many = same.as_many ∙ typed.as_many;
  has_stores = λ n w at.
      let now = has_store (get_or new n None) (shape_for w.choose) (same.shapes n ∙ (typed_has net kinds old typed).shapes n w at) in (
        now.0,
        now.1,
        record { condition = now.2; key = now.3; instances = subst (λ (o : Option Store). All (λ (i : Instance). HasKinds (typed.kinding.waiting n) i.tuple) (instances_in o)) now.1 (have n w at) },
      );
  others = λ n at. none_is (get_or new n None) (same.shapes n ∙ ap shape_of (typed.others n at));
}

-- so are stores with the same instances
pub typed_same : (net : Net) (kinds : List (List Kind)) (old new : List (Option Store)) → SameStored old new → IsTyped net kinds old → IsTyped net kinds new
typed_same net kinds old new same typed =
    shaped_typed net kinds old new typed same.same
    (λ n w at.
    let was = typed.has_stores n w at in subst (All (λ (i : Instance). HasKinds (typed.kinding.waiting n) i.tuple)) (sym (ap instances_in was.1) ∙ sym (same.held n)) was.2.instances)

-- what may be drawn over stores may be drawn over those with the same instances
pub can_draw_same : (net : Net) (layout : Layout) (old new : List (Option Store)) (opened : List (List TupleView)) → SameStored old new → CanDraw net layout old opened → CanDraw net layout new opened
can_draw_same net layout old new opened same can = record {
  network = can.network;
  lines = can.lines;
  serves = can.serves;
  typed = typed_same net layout.kinds old new same can.typed;
  kinds = can.kinds;
  as_many = can.as_many;
  ends = can.ends;
  order = can.order;
  underived = can.underived;
}

-- and what was drawn is drawn over them
pub drawn_same : (net : Net) (layout : Layout) (old new : List (Option Store)) (opened : List (List TupleView)) (done : List ℕ) (draft : Draft) (pairs : List Pair) → SameStored old new → DrawnUpTo net layout old opened done draft pairs → DrawnUpTo net layout new opened done draft pairs
drawn_same net layout old new opened done draft pairs same drawn = record {
  fits = drawn.fits;
  drawn = subst (λ (stores : Stores). Drawn net stores (news_of opened draft.made done) draft) (held_same old new same) drawn.drawn;
  paired = subst (λ (stores : Stores). Paired net stores (news_of opened draft.made done) pairs) (held_same old new same) drawn.paired;
  epoch = subst (λ (stores : Stores). IsEpoch net done stores (streams_of opened) (news_of opened draft.made done)) (held_same old new same) drawn.epoch;
  kinds = drawn.kinds;
  ordered = drawn.ordered;
}

-- stores have the same instances as themselves
pub stored_same : (stores : List (Option Store)) → SameStored stores stores
stored_same stores = record { same = shapes_same stores; held = λ n. refl }

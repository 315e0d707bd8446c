-- Stores that were purged in whole.
use Rattle.std.proofs.Common.{◌≡◌, ◌∙◌, sym, ap, refl, subst, inl, inr, ℕ, ◌+◌, ◌<◌, ◌⊎◌, true, false, length, get_or, set, take, List, [], ◌∷◌, ◌++◌, map, arith}
use Rattle.std.specs.List.{All}
use Rattle.std.specs.Prelude.{Any, Contains, Option, Some, None, is_some}
use Rattle.std.proofs.lemmas.Grind.{get_or-set_at}
use Rattle.std.proofs.lemmas.List.{get_or-set_other, length-set}
use Rattle.std.proofs.lemmas.List.Elements.{All-contains_itself, All-weaker, Contains-push_cases, filter_passes}
use Rattle.semantics.proofs.ReportLemmas.{filter_all}
use Rattle.semantics.specs.Scalars.{Pr}
use Rattle.event_types.specs.declared.value.Value.{Value}
use Rattle.instances.proofs.BirthLemmas.{began_unborn}
use Rattle.instances.specs.Alive.{is_alive}
use Rattle.instances.specs.Bounds.{alive_instances}
use Rattle.instances.specs.Keys.{HasKey, KeepsUsedKeys, Key}
use Rattle.binding_index.specs.Stores.{condition_of, instances_of, key_of}
use Rattle.binding_index.specs.declared.store.Store.{Store}
use Rattle.instances.specs.declared.instance.Instance.{Instance}
use Rattle.automaton.specs.States.{Net, wait_at}
use Rattle.automaton.specs.declared.network.Entrance.TheVariants.{Waiting}
use Rattle.automaton.specs.declared.wait.Wait.{Wait}
use Rattle.automaton.proofs.NumberLemmas.{are_same_or_not}
use Rattle.epoch_draft.specs.Held.{SameShapes, Shape, held, instances_in, shape_of}
use Rattle.epoch_draft.specs.Led.{StayReady, StaysReady}
use Rattle.epoch_draft.specs.Purging.{AreAllPurged, AreUsedIn, ForgetUnusedIn, IsLeftAt, IsPurgedAt, alive_in, left_in}
use Rattle.epoch_draft.specs.declared.draft.Pair.{Pair}
use Rattle.epoch_draft.proofs.DrawnLemmas.{entry_below}
use Rattle.epoch_draft.proofs.Lists.{below_or_last, map_more, some_is}
use Rattle.epoch_draft.proofs.StateLemmas.{at_wait, wait_entry}
use Rattle.epoch_draft.proofs.StayLemmas.{stay_same, stay_set, stay_trans}

-- stores have their own shapes
pub shapes_same : (stores : List (Option Store)) → SameShapes stores stores
shapes_same stores = record { as_many = refl; shapes = λ n. refl }

-- the shapes of a third are those of the first
pub shapes_trans : (old mid new : List (Option Store)) → SameShapes old mid → SameShapes mid new → SameShapes old new
shapes_trans old mid new one two = record { as_many = two.as_many ∙ one.as_many; shapes = λ n. two.shapes n ∙ one.shapes n }

-- one store was written over by one of its shape
pub shapes_set : (stores : List (Option Store)) (n : ℕ) (slot : Option Store) → n < length stores → shape_of slot ≡ shape_of (get_or stores n None) → SameShapes stores (set stores n slot)
shapes_set stores n slot below shape = record { as_many = length-set stores n slot; shapes = λ m. go m (are_same_or_not m n) }
  where
    go : (m : ℕ) → (m ≡ n) ⊎ (m ≡ n → ⊥) → shape_of (get_or (set stores n slot) m None) ≡ shape_of (get_or stores m None)
    go m (inl same) = ap shape_of (get_or-set_at stores n m slot None same below) ∙ shape ∙ ap (λ k. shape_of (get_or stores k None)) (sym same)
    go m (inr other) = ap shape_of (get_or-set_other stores n m slot None other)

-- what is alive stays so
pub alive_twice : (time : ℕ) (choose : List Pr) (store : List Instance) → alive_instances time choose (alive_instances time choose store) ≡ alive_instances time choose store
alive_twice time choose store =
    filter_all (λ (i : Instance). is_alive time choose i.tuple) (alive_instances time choose store) (filter_passes (λ (i : Instance). is_alive time choose i.tuple) store)

-- a store that was purged is the same once purged again
pub purged_twice : (time : ℕ) (old new : Option Store) → shape_of new ≡ shape_of old → instances_in new ≡ alive_in time old → alive_in time new ≡ alive_in time old
purged_twice time None None shape is = refl
purged_twice time None (Some store) shape is = absurd (cc)
purged_twice time (Some store) None shape is = absurd (cc)
purged_twice time (Some old) (Some new) same is =
    ap (λ (s : Shape). alive_instances time s.condition (instances_of new)) (some_is (shape new) (shape old) same) ∙ ap (alive_instances time (condition_of old)) is ∙ alive_twice time (condition_of old) (instances_of old)
  where
    shape : Store → Shape
    shape store = record { condition = condition_of store; key = key_of store }

-- without a birth a purge leaves what is alive
pub left_unborn : (time : ℕ) (slot : Option Store) → left_in time None slot ≡ alive_in time slot
left_unborn time None = refl
left_unborn time (Some store) = ap (alive_instances time (condition_of store)) (began_unborn (instances_of store))

-- what is kept of the keys that are ready are the keys of instances
pub kept_used : (old new : Option Key) (instances : List Instance) (before after : List Value) → new ≡ old → KeepsUsedKeys old instances before after → All (λ v. Any (λ (i : Instance). HasKey new i.tuple v) instances) after
kept_used old new instances before after same keeps =
    subst (λ (k : Option Key). All (λ v. Any (λ (i : Instance). HasKey k i.tuple v) instances) after) (sym same)
    (All-weaker (Contains after) (λ v. Any (λ (i : Instance). HasKey old i.tuple v) instances) (λ v c. ((keeps v).0 c).1) after (All-contains_itself after))

-- one store more forgets keys
forget_push : (numbers : List ℕ) (n : ℕ) (first old : List (Option Store)) (slot : Option Store) → n < length first → instances_in slot ≡ instances_in (get_or old n None) → shape_of slot ≡ shape_of (get_or old n None) → AreUsedIn slot
    → StaysReady (get_or old n None) slot → ForgetUnusedIn numbers first old → ForgetUnusedIn (numbers ++ n ∷ []) first (set old n slot)
forget_push numbers n first old slot below is shape used stays h = record {
  same = record { same = shapes_trans first old (set old n slot) h.same.same (shapes_set old n slot there shape); held = λ k. same k (are_same_or_not k n) };
  used = λ k c. keys k (are_same_or_not k n) (Contains-push_cases numbers n k c);
  stay = stay_set first old n slot there h.stay stays;
}
  where
    there : n < length old
    there = let e = h.same.same.as_many in omega (arith, below, e)

    here : (k : ℕ) → k ≡ n → get_or (set old n slot) k None ≡ slot
    here k same = get_or-set_at old n k slot None same there

    same : (k : ℕ) → (k ≡ n) ⊎ (k ≡ n → ⊥) → held (set old n slot) k ≡ held first k
    same k (inl this) = ap instances_in (here k this) ∙ is ∙ ap (held old) (sym this) ∙ h.same.held k
    same k (inr other) = ap instances_in (get_or-set_other old n k slot None other) ∙ h.same.held k

    keys : (k : ℕ) → (k ≡ n) ⊎ (k ≡ n → ⊥) → Contains numbers k ⊎ (n ≡ k) → AreUsedIn (get_or (set old n slot) k None)
    keys k (inl same) c = subst AreUsedIn (sym (here k same)) used
    keys k (inr other) (inl c) = subst AreUsedIn (sym (get_or-set_other old n k slot None other)) (h.used k c)
    keys k (inr other) (inr same) = absurd (other (sym same))

-- no store has forgotten any
pub forget_nowhere : (stores : List (Option Store)) → ForgetUnusedIn [] stores stores
forget_nowhere stores = record { same = record { same = shapes_same stores; held = λ n. refl }; used = λ n c. absurd (omega (arith, c)); stay = stay_same stores }

-- one pair more
pub forget_pair : (pairs : List Pair) (i : ℕ) (d : Pair) (first old : List (Option Store)) (slot : Option Store) → i < length pairs → (get_or pairs i d).state < length first → instances_in slot ≡ instances_in (get_or old (get_or pairs i d).state None)
    → shape_of slot ≡ shape_of (get_or old (get_or pairs i d).state None) → AreUsedIn slot → StaysReady (get_or old (get_or pairs i d).state None) slot → ForgetUnusedIn (map (λ (pair : Pair). pair.state) (take i pairs)) first old
    → ForgetUnusedIn (map (λ (pair : Pair). pair.state) (take (i + 1) pairs)) first (set old (get_or pairs i d).state slot)
forget_pair pairs i d first old slot lt below is shape used stays h =
    subst (λ (ns : List ℕ). ForgetUnusedIn ns first (set old (get_or pairs i d).state slot)) (sym (map_more (λ (pair : Pair). pair.state) pairs i d lt))
    (forget_push (map (λ (pair : Pair). pair.state) (take i pairs)) (get_or pairs i d).state first old slot below is shape used stays h)

-- the store of a waiting state was purged
pub purged_there : (net : Net) (time n : ℕ) (stores : List (Option Store)) (slot : Option Store) → n < length stores → is_some (wait_at net n) ≡ true → IsLeftAt net time n (get_or stores n None) (instances_in slot) → shape_of slot ≡ shape_of (get_or stores n None) → AreUsedIn slot
    → StaysReady (get_or stores n None) slot → IsPurgedAt net time n stores (set stores n slot)
purged_there net time n stores slot below waits is shape used stays = record {
  same = shapes_set stores n slot below shape;
  purged = λ w at. subst (IsLeftAt net time n (get_or stores n None)) (sym (ap instances_in here)) is;
  used = λ w at. subst AreUsedIn (sym here) used;
  stay = stay_set stores stores n slot below (stay_same stores) stays;
  none = λ at. absurd (let no : true ≡ false = sym waits ∙ ap is_some at in cc);
  others = λ m other. get_or-set_other stores n m slot None other;
}
  where
    here : get_or (set stores n slot) n None ≡ slot
    here = get_or-set_at stores n n slot None refl below

-- the stores of the waiting states below a number were purged
pub record ArePurgedBelow (net : Net) (bound time : ℕ) (old new : List (Option Store)) : Type 0 where
  pub same : SameShapes old new
  pub purged : (n : ℕ) (w : Wait) → n < bound → wait_at net n ≡ Some w → IsLeftAt net time n (get_or old n None) (held new n)
  pub used : (n : ℕ) (w : Wait) → n < bound → wait_at net n ≡ Some w → AreUsedIn (get_or new n None)
  pub stay : StayReady old new
  pub others : (n : ℕ) → (n < bound → wait_at net n ≡ None) → get_or new n None ≡ get_or old n None

-- none is yet
pub purged_none : (net : Net) (time : ℕ) (stores : List (Option Store)) → ArePurgedBelow net 0 time stores stores
purged_none net time stores = record { same = shapes_same stores; purged = λ n w lt at. absurd (omega (arith, lt)); used = λ n w lt at. absurd (omega (arith, lt)); stay = stay_same stores; others = λ n absent. refl }

-- one more state's
pub purged_next : (net : Net) (n time : ℕ) (old mid new : List (Option Store)) → ArePurgedBelow net n time old mid → IsPurgedAt net time n mid new → ArePurgedBelow net (n + 1) time old new
purged_next net n time old mid new was one = record {
  same = shapes_trans old mid new was.same one.same;
  purged = λ k w lt at. purged k w at (below_or_last k n lt);
  used = λ k w lt at. used k w at (below_or_last k n lt);
  stay = stay_trans old mid new was.stay one.stay;
  others = λ k absent. others k absent (are_same_or_not k n);
}
  where
    not_below : n < n → ⊥
    not_below lt = omega (arith, lt)

    smaller : (k : ℕ) → k < n → k ≡ n → ⊥
    smaller k lt same = omega (arith, lt, same)

    purged : (k : ℕ) (w : Wait) → wait_at net k ≡ Some w → (k < n) ⊎ (k ≡ n) → IsLeftAt net time k (get_or old k None) (held new k)
    purged k w at (inl lt) = subst (IsLeftAt net time k (get_or old k None)) (sym (ap instances_in (one.others k (smaller k lt)))) (was.purged k w lt at)
    purged k w at (inr same) =
        subst (λ (m : ℕ). IsLeftAt net time m (get_or old m None) (held new m)) (sym same)
        (subst (λ (o : Option Store). IsLeftAt net time n o (held new n)) (was.others n (λ lt. absurd (not_below lt))) (one.purged w (ap (wait_at net) (sym same) ∙ at)))

    used : (k : ℕ) (w : Wait) → wait_at net k ≡ Some w → (k < n) ⊎ (k ≡ n) → AreUsedIn (get_or new k None)
    used k w at (inl lt) = subst AreUsedIn (sym (one.others k (smaller k lt))) (was.used k w lt at)
    used k w at (inr same) = subst (λ (m : ℕ). AreUsedIn (get_or new m None)) (sym same) (one.used w (ap (wait_at net) (sym same) ∙ at))

    last : (k : ℕ) → k ≡ n → k < n + 1
    last k same = omega (arith, same)

    more : (k : ℕ) → k < n → k < n + 1
    more k lt = omega (arith, lt)

    others : (k : ℕ) → (k < n + 1 → wait_at net k ≡ None) → (k ≡ n) ⊎ (k ≡ n → ⊥) → get_or new k None ≡ get_or old k None
    others k absent (inl same) =
        ap (λ (m : ℕ). get_or new m None) same ∙ one.none (ap (wait_at net) (sym same) ∙ absent (last k same)) ∙ ap (λ (m : ℕ). get_or mid m None) (sym same) ∙ was.others k (λ lt. absent (more k lt))
    others k absent (inr other) = one.others k other ∙ was.others k (λ lt. absent (more k lt))

-- all are
pub all_purged : (net : Net) (time : ℕ) (old new : List (Option Store)) → ArePurgedBelow net (length net) time old new → AreAllPurged net time old new
all_purged net time old new was = record { same = was.same; purged = λ n w at. was.purged n w (below n w at) at; used = λ n w at. was.used n w (below n w at) at; stay = was.stay; others = λ n none. was.others n (λ lt. none) }
  where
    below : (n : ℕ) (w : Wait) → wait_at net n ≡ Some w → n < length net
    below n w at = let found = at_wait net n w at in entry_below net n (Waiting found.before found.hop) (wait_entry net n w found)

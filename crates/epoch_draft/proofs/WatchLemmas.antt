-- Stores that are purged when their deadlines pass.
use Rattle.std.proofs.Common.{◌≡◌, ◌∙◌, sym, ap, refl, subst, inl, inr, ℕ, ◌<◌, ◌≤◌, ◌⊎◌, Bool, true, ◌&&◌, cond, length, get_or, nat_le, set, List, [], ◌++◌, arith}
use Rattle.std.specs.List.{All, count_by, filter}
use Rattle.std.specs.List.Sorted.{IsPermutation}
use Rattle.std.specs.Prelude.{Option, Some, None}
use Rattle.std.proofs.lemmas.List.Elements.{All-append, All-filter, All-same, filter_passes}
use Rattle.std.proofs.lemmas.List.Sorted.{All-permutation, IsPermutation-sym}
use Rattle.semantics.specs.Scalars.{Pr}
use Rattle.semantics.proofs.ReportLemmas.{filter_all}
use Rattle.instances.specs.Alive.{is_alive}
use Rattle.semantics.specs.Births.{is_after}
use Rattle.epoch_laws.proofs.Lists.{filter-filter}
use Rattle.instances.specs.Bounds.{AreAliveUntil, alive_instances}
use Rattle.instances.specs.declared.instance.Instance.{Instance}
use Rattle.binding_index.specs.Stores.{condition_of, instances_of, key_of}
use Rattle.std.proofs.lemmas.Bool.{cases_lt, le-leb, lt-leb}
use Rattle.std.proofs.lemmas.Grind.{get_or-set_at}
use Rattle.std.proofs.lemmas.List.{get_or_past, get_or-set_other, length-set}
use Rattle.std.proofs.lemmas.List.Sums.{sum_by-set}
use Rattle.binding_index.specs.declared.store.Store.{Store}
use Rattle.automaton.specs.States.{Net, wait_at}
use Rattle.automaton.specs.declared.wait.Wait.{Wait}
use Rattle.automaton.proofs.NumberLemmas.{are_same_or_not}
use Rattle.semantics.specs.Denotation.{Streams}
use Rattle.epoch_laws.specs.Epochs.{is_unmet}
use Rattle.epoch_draft.specs.Held.{SameShapes, SameStored, Shape, instances_in, shape_of}
use Rattle.epoch_draft.specs.Led.{StayReady, StaysReady}
use Rattle.epoch_draft.specs.Purging.{AreAllPurged, ForgetUnusedIn, alive_in, left_in}
use Rattle.epoch_draft.specs.Settling.{AreTaken, listed_tuples}
use Rattle.epoch_draft.specs.Stores.{AreNewStores, HasStores}
use Rattle.epoch_draft.specs.declared.draft.Pair.{Pair}
use Rattle.epoch_draft.specs.Watching.{ArePurgedEach, IsWatched, Watches}
use Rattle.epoch_draft.proofs.Lists.{some_is}
use Rattle.epoch_draft.proofs.PurgeLemmas.{purged_twice, shapes_same, shapes_set, shapes_trans}
use Rattle.epoch_draft.proofs.StayLemmas.{stay_same, stay_set, stay_trans}
use Rattle.epoch_draft.proofs.StoreLemmas.{condition_is}

-- where all instances stay, each is alive
pub alive_all : (time : ℕ) (choose : List Pr) (instances : List Instance) → alive_instances time choose instances ≡ instances → All (λ (i : Instance). is_alive time choose i.tuple ≡ true) instances
alive_all time choose instances all = All-same (λ (i : Instance). is_alive time choose i.tuple ≡ true) _ _ (sym all) (filter_passes (λ (i : Instance). is_alive time choose i.tuple) instances)

-- some stores were purged, and each is watched
pub record ArePurgedSome (time : ℕ) (deadlines : List ℕ) (old new : List (Option Store)) : Type 0 where
  pub watches : Watches deadlines new
  pub same : SameShapes old new
  pub alike : (n : ℕ) → alive_in time (get_or new n None) ≡ alive_in time (get_or old n None)
  pub stay : StayReady old new

-- none was yet
pub some_none : (time : ℕ) (deadlines : List ℕ) (stores : List (Option Store)) → Watches deadlines stores → ArePurgedSome time deadlines stores stores
some_none time deadlines stores watches = record { watches = watches; same = shapes_same stores; alike = λ n. refl; stay = stay_same stores }

-- one store was written over, and its deadline
watches_set : (deadlines : List ℕ) (stores : List (Option Store)) (n deadline : ℕ) (slot : Option Store) → n < length deadlines → IsWatched deadline slot → Watches deadlines stores → Watches (set deadlines n deadline) (set stores n slot)
watches_set deadlines stores n deadline slot below one watches = record {
  as_many = length-set deadlines n deadline ∙ watches.as_many ∙ sym (length-set stores n slot);
  watched = λ k. go k (are_same_or_not k n);
}
  where
    there : n < length stores
    there = let e = watches.as_many in omega (arith, below, e)

    go : (k : ℕ) → (k ≡ n) ⊎ (k ≡ n → ⊥) → IsWatched (get_or (set deadlines n deadline) k 0) (get_or (set stores n slot) k None)
    go k (inl same) =
        subst (λ (o : Option Store). IsWatched (get_or (set deadlines n deadline) k 0) o) (sym (get_or-set_at stores n k slot None same there)) (subst (λ d. IsWatched d slot) (sym (get_or-set_at deadlines n k deadline 0 same below)) one)
    go k (inr other) =
        subst (λ (o : Option Store). IsWatched (get_or (set deadlines n deadline) k 0) o) (sym (get_or-set_other stores n k slot None other))
        (subst (λ d. IsWatched d (get_or stores k None)) (sym (get_or-set_other deadlines n k deadline 0 other)) (watches.watched k))

-- one more is
pub some_more : (time n deadline : ℕ) (deadlines : List ℕ) (first old : List (Option Store)) (slot : Option Store) → n < length deadlines → instances_in slot ≡ alive_in time (get_or old n None) → shape_of slot ≡ shape_of (get_or old n None) → IsWatched deadline slot
    → StaysReady (get_or old n None) slot → ArePurgedSome time deadlines first old → ArePurgedSome time (set deadlines n deadline) first (set old n slot)
some_more time n deadline deadlines first old slot below is shape watched stays h = record {
  watches = watches_set deadlines old n deadline slot below watched h.watches;
  same = shapes_trans first old (set old n slot) h.same (shapes_set old n slot there shape);
  alike = λ k. like k (are_same_or_not k n) ∙ h.alike k;
  stay = stay_set first old n slot there h.stay stays;
}
  where
    there : n < length old
    there = let e = h.watches.as_many in omega (arith, below, e)

    like : (k : ℕ) → (k ≡ n) ⊎ (k ≡ n → ⊥) → alive_in time (get_or (set old n slot) k None) ≡ alive_in time (get_or old k None)
    like k (inl same) = ap (alive_in time) (get_or-set_at old n k slot None same there) ∙ purged_twice time (get_or old n None) slot shape is ∙ ap (λ m. alive_in time (get_or old m None)) (sym same)
    like k (inr other) = ap (alive_in time) (get_or-set_other old n k slot None other)

-- where no deadline passed, all are
pub some_all : (time : ℕ) (deadlines : List ℕ) (old new : List (Option Store)) → All (λ deadline. time < deadline) deadlines → ArePurgedSome time deadlines old new → ArePurgedEach time old new
some_all time deadlines old new later h = record {
  same = h.same;
  purged = λ n. sym (whole n (cases_lt n (length deadlines))) ∙ h.alike n;
  stay = h.stay;
}
  where
    whole : (n : ℕ) → (n < length deadlines) ⊎ (length deadlines ≤ n) → alive_in time (get_or new n None) ≡ instances_in (get_or new n None)
    whole n (inl below) = h.watches.watched n time (later n 0 below)
    whole n (inr past) = let none = get_or_past new n None (let e = h.watches.as_many in omega (arith, past, e)) in ap (alive_in time) none ∙ sym (ap instances_in none)

-- a deadline that passed is put off
pub fewer : (time n deadline : ℕ) (deadlines : List ℕ) → n < length deadlines → get_or deadlines n 0 ≤ time → time < deadline → count_by (λ d. nat_le d time) (set deadlines n deadline) < count_by (λ d. nat_le d time) deadlines
fewer time n deadline deadlines below passed later =
    let sums = sum_by-set (λ d. cond (nat_le d time) 1 0) deadlines n deadline 0 below in
    let was = ap {B = ℕ} (λ b. cond b 1 0) (le-leb (get_or deadlines n 0) time passed) in
    let now = ap {B = ℕ} (λ b. cond b 1 0) (lt-leb deadline time later) in
    omega (arith, sums, was, now)

-- where some instances are taken out, the others are alive as long
watched_fewer : (deadline : ℕ) (old new : Option Store) (keep : Instance → Bool) → shape_of new ≡ shape_of old → instances_in new ≡ filter keep (instances_in old) → IsWatched deadline old → IsWatched deadline new
watched_fewer deadline None None keep shape is watched time early = watched time early
watched_fewer deadline None (Some new) keep shape is watched time early = absurd (cc)
watched_fewer deadline (Some old) None keep shape is watched time early = absurd (cc)
watched_fewer deadline (Some old) (Some new) keep same is watched time early =
    let test : Instance → Bool = λ (i : Instance). is_alive time (condition_of new) i.tuple in
    filter_all test (instances_of new)
    (All-same (λ (i : Instance). test i ≡ true) _ _ is
    (All-filter keep (λ (i : Instance). test i ≡ true) (instances_of old) (alive_all time (condition_of new) (instances_of old) (ap (λ (s : Shape). alive_instances time s.condition (instances_of old)) (some_is (shape new) (shape old) same) ∙ watched time early))))
  where
    shape : Store → Shape
    shape store = record { condition = condition_of store; key = key_of store }

-- where instances come that are alive as long, all are
watched_more : (deadline : ℕ) (old new : Store) (beads : List Instance) → condition_of new ≡ condition_of old → IsPermutation (instances_of new) (instances_of old ++ beads) → AreAliveUntil deadline (condition_of old) beads → IsWatched deadline (Some old) → IsWatched deadline (Some new)
watched_more deadline old new beads same permuted until watched time early =
    ap (λ (ps : List Pr). alive_instances time ps (instances_of new)) same
    ∙ filter_all (λ (i : Instance). is_alive time (condition_of old) i.tuple) (instances_of new)
    (All-permutation (λ (i : Instance). is_alive time (condition_of old) i.tuple ≡ true) (instances_of old ++ beads) (instances_of new) (IsPermutation-sym _ _ permuted)
    (All-append (λ (i : Instance). is_alive time (condition_of old) i.tuple ≡ true) (instances_of old) beads (alive_all time (condition_of old) (instances_of old) (watched time early)) (alive_all time (condition_of old) beads (until time early))))

-- a lower deadline is one
watched_lower : (deadline lower : ℕ) (slot : Option Store) → lower ≤ deadline → IsWatched deadline slot → IsWatched lower slot
watched_lower deadline lower slot le watched time early = watched time (omega (arith, le, early))

-- beads are linked at a state whose deadline was lowered for them
pub watches_linked : (net : Net) (n : ℕ) (deadlines lowered : List ℕ) (stores : List (Option Store)) (slot new : Option Store) (chain : List Instance) → n < length deadlines → HasStores net stores → get_or stores n None ≡ slot → shape_of new ≡ shape_of slot
    → ((store : Store) → slot ≡ Some store → IsPermutation (instances_in new) (instances_of store ++ chain)) → lowered ≡ set deadlines n (get_or lowered n 0) → get_or lowered n 0 ≤ get_or deadlines n 0
    → ((w : Wait) → wait_at net n ≡ Some w → AreAliveUntil (get_or lowered n 0) w.choose chain) → Watches deadlines stores → Watches lowered (set stores n new)
watches_linked net n deadlines lowered stores slot new chain below has at shape puts is le until watches =
    subst (λ (ds : List ℕ). Watches ds (set stores n new)) (sym is)
    (watches_set deadlines stores n (get_or lowered n 0) new below (go slot new at shape puts (subst (IsWatched (get_or deadlines n 0)) at (watches.watched n))) watches)
  where
    shape_is : Store → Shape
    shape_is store = record { condition = condition_of store; key = key_of store }

    alive : (store : Store) → get_or stores n None ≡ Some store → (o : Option Wait) → wait_at net n ≡ o → AreAliveUntil (get_or lowered n 0) (condition_of store) chain
    alive store at None none = absurd (let no : Some store ≡ None = sym at ∙ has.others n none in cc)
    alive store at (Some w) waits =
        subst (λ (ps : List Pr). AreAliveUntil (get_or lowered n 0) ps chain) (sym (condition_is store w.choose (ap shape_of (sym at) ∙ has.shapes n w waits))) (until w waits)

    go : (slot new : Option Store) → get_or stores n None ≡ slot → shape_of new ≡ shape_of slot → ((store : Store) → slot ≡ Some store → IsPermutation (instances_in new) (instances_of store ++ chain))
        → IsWatched (get_or deadlines n 0) slot → IsWatched (get_or lowered n 0) new
    go None None at shape puts watched time early = refl
    go None (Some new) at shape puts watched time early = absurd (cc)
    go (Some old) None at shape puts watched time early = absurd (cc)
    go (Some old) (Some new) at same puts watched time early =
        watched_more (get_or lowered n 0) old new chain (ap (λ (s : Shape). s.condition) (some_is (shape_is new) (shape_is old) same)) (puts old refl) (alive old at (wait_at net n) refl)
        (watched_lower (get_or deadlines n 0) (get_or lowered n 0) (Some old) le watched) time early

-- a store has some of the instances that it had
abbrev pub HasFewer : Option Store → Option Store → Type 0
HasFewer old new = (keep : Instance → Bool) × (instances_in new ≡ filter keep (instances_in old))

-- or all of them
fewer_same : (old new : Option Store) → instances_in new ≡ instances_in old → HasFewer old new
fewer_same old new same = ((λ (i : Instance). true), same ∙ sym (filter_all (λ (i : Instance). true) (instances_in old) (λ _ _ _. refl)))

-- or those that a purge leaves
fewer_left : (time : ℕ) (since : Option ℕ) (old new : Option Store) → instances_in new ≡ left_in time since old → HasFewer old new
fewer_left time since None new is = ((λ (i : Instance). true), is)
fewer_left time since (Some store) new is =
    ((λ (i : Instance). is_after since i.first && is_alive time (condition_of store) i.tuple), is ∙ filter-filter (λ (i : Instance). is_alive time (condition_of store) i.tuple) (λ (i : Instance). is_after since i.first) (instances_of store))

-- where each store does, its deadline is right still
watches_fewer : (deadlines : List ℕ) (old new : List (Option Store)) → SameShapes old new → ((n : ℕ) → HasFewer (get_or old n None) (get_or new n None)) → Watches deadlines old → Watches deadlines new
watches_fewer deadlines old new same left watches = record {
  as_many = watches.as_many ∙ sym same.as_many;
  watched = λ n. watched_fewer (get_or deadlines n 0) (get_or old n None) (get_or new n None) (left n).0 (same.shapes n) (left n).1 (watches.watched n);
}

-- so it is where stores have the same instances
pub watches_same : (deadlines : List ℕ) (old new : List (Option Store)) → SameStored old new → Watches deadlines old → Watches deadlines new
watches_same deadlines old new same = watches_fewer deadlines old new same.same (λ n. fewer_same (get_or old n None) (get_or new n None) (same.held n))

-- where tuples took instances out
pub watches_taken : (net : Net) (news : Streams) (pairs : List Pair) (deadlines : List ℕ) (old new : List (Option Store)) → AreTaken net news pairs old new → Watches deadlines old → Watches deadlines new
watches_taken net news pairs deadlines old new taken = watches_fewer deadlines old new taken.same (λ n. go n (wait_at net n) refl)
  where
    go : (n : ℕ) (o : Option Wait) → wait_at net n ≡ o → HasFewer (get_or old n None) (get_or new n None)
    go n None at = fewer_same (get_or old n None) (get_or new n None) (taken.none n at)
    go n (Some w) at = ((λ (i : Instance). is_unmet w.choose (listed_tuples news pairs n) i.tuple), taken.taken n w at)

-- where all stores were purged
pub watches_all : (time : ℕ) (net : Net) (deadlines : List ℕ) (old new : List (Option Store)) → AreAllPurged net time old new → Watches deadlines old → Watches deadlines new
watches_all time net deadlines old new purged = watches_fewer deadlines old new purged.same (λ n. go n (wait_at net n) refl)
  where
    go : (n : ℕ) (o : Option Wait) → wait_at net n ≡ o → HasFewer (get_or old n None) (get_or new n None)
    go n None at = fewer_same (get_or old n None) (get_or new n None) (ap instances_in (purged.others n at))
    go n (Some w) at = let left = purged.purged n w at in fewer_left time left.0 (get_or old n None) (get_or new n None) left.2

-- new stores have no instance that may expire
pub watches_new : (net : Net) (deadlines : List ℕ) (stores : List (Option Store)) → AreNewStores net stores → length deadlines ≡ length net → Watches deadlines stores
watches_new net deadlines stores new as_many = record { as_many = as_many ∙ sym new.has.as_many; watched = λ n. none (get_or stores n None) (new.empty n) }
  where
    none : {deadline : ℕ} (slot : Option Store) → instances_in slot ≡ [] → IsWatched deadline slot
    none None empty time early = refl
    none (Some store) empty time early = ap (alive_instances time (condition_of store)) empty ∙ sym empty

-- where all stores were purged and then some forgot keys, all are purged
pub purged_each : (time : ℕ) (numbers : List ℕ) (old mid new : List (Option Store)) → ArePurgedEach time old mid → ForgetUnusedIn numbers mid new → ArePurgedEach time old new
purged_each time numbers old mid new was after = record {
  same = shapes_trans old mid new was.same after.same.same;
  purged = λ n. after.same.held n ∙ was.purged n;
  stay = stay_trans old mid new was.stay after.stay;
}

-- Engines whose stores were purged stand for the same history, and hold exactly what waits and is alive.
use Rattle.std.proofs.Common.{◌≡◌, ◌∙◌, sym, ap, refl, subst, ℕ, ◌+◌, ◌<◌, false, length, get_or, List, [], ◌∷◌, ◌++◌, map, length-append, arith}
use Rattle.std.specs.Prelude.{◌-◌, ◌^◌, Contains, IfSome, Option, Some, None, is_some, min}
use Rattle.std.specs.Option.{option_and_then}
use Rattle.std.specs.List.{All}
use Rattle.std.specs.List.Sorted.{IsPermutation}
use Rattle.std.proofs.lemmas.List.{length-map}
use Rattle.std.proofs.lemmas.List.Elements.{All-contains_itself, All-head, All-map, All-weaker}
use Rattle.std.proofs.lemmas.Simd.{map-map}
use Rattle.std.proofs.lemmas.List.Sorted.{IsPermutation-trans, length_permutation}
use Rattle.event_types.specs.Tuple.{TupleView, IsSound}
use Rattle.instances.specs.Births.{began_after}
use Rattle.instances.specs.Bounds.{alive_instances}
use Rattle.instances.specs.declared.instance.Instance.{Instance}
use Rattle.semantics.specs.Denotation.{streams_of}
use Rattle.semantics.specs.Histories.{Event}
use Rattle.automaton.specs.Networks.{IsAt}
use Rattle.automaton.specs.Prefixes.{Prefix, Root, After}
use Rattle.automaton.specs.States.{Net, entrance_at, entrance_in, is_used, root_at, root_by, state_at, wait_at, wait_by}
use Rattle.automaton.specs.Waiting.{waiting}
use Rattle.automaton.specs.declared.layout.Layout.{Layout}
use Rattle.automaton.specs.declared.line.Hop.{Hop}
use Rattle.automaton.specs.declared.network.Entrance.{Entrance}
use Rattle.automaton.specs.declared.network.Entrance.TheVariants as entrance
use Rattle.automaton.specs.declared.network.State.{State}
use Rattle.epoch_laws.specs.Births.{IsLeastBirth, IsNoLater}
use Rattle.epoch_laws.specs.BornLines.{BornLine, IsReadAfter, lines_in}
use Rattle.epoch_laws.specs.Closing.{ArePurged, Stores}
use Rattle.epoch_laws.specs.Histories.{streams_over}
use Rattle.epoch_laws.specs.InstanceFlow.{waiting_instances}
use Rattle.epoch_laws.specs.Instances.{bindings_of}
use Rattle.epoch_laws.specs.Standing as standing
use Rattle.epoch_laws.specs.Standing.{closed_part, next_time}
use Rattle.epoch_laws.specs.StoresStandFor.{Serves}
use Rattle.epoch_laws.specs.Stores.{IsWithin}
use Rattle.epoch_laws.proofs.Bags.{no_length, permuted_is}
use Rattle.epoch_laws.proofs.Standing.{purge_stands, trimmed_is_alive}
use Rattle.epoch_laws.proofs.StoresStandFor.{stored_wait}
use Rattle.epoch_laws.proofs.Streams.{start_waits}
use Rattle.prefix_merge.specs.Counts.{ListPrefixes}
use Rattle.prefix_merge.specs.Merging.{IsMerged}
use Rattle.prefix_merge.proofs.CountLemmas.{numbers, places, states_distinct, used_at}
use Rattle.epoch_engine.proofs.BornLemmas.{plain_lines}
use Rattle.epoch_engine.specs.Counts.{CountsAlive, CountsAliveAt, alive_over, stored_in}
use Rattle.epoch_engine.specs.Laws.{TrimmedIsCounted, TrimmedStands}
use Rattle.epoch_engine.specs.EngineStandsFor.{EngineStandsFor}
use Rattle.epoch_engine.specs.Trims.{AreTrimmed, Trims}
use Rattle.epoch_engine.specs.EngineView.{EngineView, stores_in}
use Rattle.epoch_engine.proofs.PurgeLemmas.{purged_whole}
use Rattle.epoch_engine.proofs.ReadLemmas.{behind_reads, least_reads, one_least, some_reads}
use Rattle.epoch_engine.proofs.SumLemmas.{sum_map, sum_states}

-- a history all of whose events are detected before the time 0 has none
none_before : (history : List Event) → All (λ e. IsSound e.tuple × (e.tuple.at < 0)) history → history ≡ []
none_before [] all = refl
none_before (event ∷ later) all = absurd (never event.tuple.at (All-head (λ e. IsSound e.tuple × (e.tuple.at < 0)) event later all).1)
  where
    never : (at : ℕ) → at < 0 → ⊥
    never at lt = omega arith

-- what is within nothing is nothing
within_none : {X : Type 0} (xs : List X) → IsWithin xs [] → xs ≡ []
within_none xs within =
    let both = length_permutation (xs ++ within.0) [] within.1 in
    let sum = length-append xs within.0 in no_length xs (omega (arith, both, sum))

none_bound : (store : List Instance) → bindings_of store ≡ [] → store ≡ []
none_bound store none =
    let len = length-map store (λ (i : Instance). i.tuple) in
    let no : length (bindings_of store) ≡ 0 = ap length none in no_length store (omega (arith, len, no))

-- no binding waits at a root state, nor where no state is
pub root_waits : (net : Net) (number s : ℕ) → root_at net number ≡ Some s → wait_at net number ≡ None
root_waits net number s at = go (entrance_at net number) at
  where
    go : (o : Option Entrance) → option_and_then root_by o ≡ Some s → option_and_then wait_by o ≡ None
    go None e = refl
    go (Some (entrance.Root t)) e = refl
    go (Some (entrance.Waiting before hop)) e = cc

-- nor where there is no state
pub free_waits : (net : Net) (number : ℕ) → is_used net number ≡ false → wait_at net number ≡ None
free_waits net number free = go (state_at net number) free
  where
    go : (o : Option State) → is_some o ≡ false → option_and_then wait_by (entrance_in o) ≡ None
    go None e = refl
    go (Some state) e = cc

from_zero : (k : ℕ) → 0 + k ≡ k
from_zero k = omega arith

module _ (old new : EngineView) (lines : List BornLine) (history : List Event) (stands : EngineStandsFor old lines history) (trims : Trims old new) where
  abbrev order : List ℕ
  order = old.layout.order

  abbrev past : List Event
  past = closed_part old.time history

  abbrev Standing : Option ℕ → Stores → Type 0
  Standing closed_time stores = standing.PartsStandFor old.network lines order stores old.time (streams_of old.opened) closed_time history

  purged_at : (time : ℕ) → old.closed_time ≡ Some time → AreTrimmed (time + 1) old.network (stores_in old) (stores_in new)
  purged_at time is = subst (λ (o : Option ℕ). IfSome o (λ t. AreTrimmed (t + 1) old.network (stores_in old) (stores_in new))) is trims.purged

  -- so they were purged for the lines
  are_trimmed : (time : ℕ) → old.closed_time ≡ Some time → ArePurged (time + 1) lines old.network (stores_in old) (stores_in new)
  are_trimmed time is number p h at =
      let left = purged_at time is number h.wait (ap (option_and_then wait_by) at.1) in
      purged_whole (time + 1) (IsReadAfter lines (After p h)) left.0 h.wait.choose (stores_in old number) (stores_in new number)
      (λ birth read. left.1.no_later birth (behind_reads old.network lines stands.merged stands.serves.has_lines number (After p h) at birth read)) left.2

  same_stores : old.closed_time ≡ None → stores_in old ≡ stores_in new
  same_stores is = λ i n. get_or (sym (trims.none_closed is) i) n []

  -- the stores stand for the same history
  kept : (closed_time : Option ℕ) → old.closed_time ≡ closed_time → Standing old.closed_time (stores_in new)
  kept None is = subst (Standing old.closed_time) (same_stores is) stands.stands
  kept (Some time) is =
      subst (λ (o : Option ℕ). Standing o (stores_in new)) (sym is)
      (purge_stands old.network lines order (stores_in old) (stores_in new) old.time (streams_of old.opened) (Some time) history (subst (λ (o : Option ℕ). Standing o (stores_in old)) is stands.stands)
      (are_trimmed time is))

  -- the trimmed engine stands for the same history
  pub trims_stands : EngineStandsFor new lines history
  trims_stands =
      let same : order ≡ new.layout.order = ap (λ (l : Layout). l.order) (sym trims.plan.layout) in record {
        merged = subst IsMerged (sym trims.plan.network) stands.merged;
        serves = subst (λ (n : Net). Serves n lines new.layout.order) (sym trims.plan.network) (subst (Serves old.network lines) same stands.serves);
        as_many = ap length trims.opened ∙ stands.as_many ∙ ap (λ (l : Layout). length l.kinds) (sym trims.plan.layout);
        births = subst (λ (t : Option ℕ). All (λ (b : BornLine). IsNoLater b.birth t) lines) (sym trims.times.closed_time) stands.births;
        none_elsewhere = λ n none. let there = ap (λ (net : Net). wait_at net n) (sym trims.plan.network) ∙ none in trims.others n there ∙ stands.none_elsewhere n there;
        stands =
            subst (λ (n : Net). standing.PartsStandFor n lines new.layout.order (stores_in new) new.time (streams_of new.opened) new.closed_time history) (sym trims.plan.network)
            (subst (λ (o : List ℕ). standing.PartsStandFor old.network lines o (stores_in new) new.time (streams_of new.opened) new.closed_time history) same
            (subst (λ (t : Option ℕ). standing.PartsStandFor old.network lines order (stores_in new) t (streams_of new.opened) new.closed_time history) (sym trims.times.time)
            (subst (λ (t : Option ℕ). standing.PartsStandFor old.network lines order (stores_in new) old.time (streams_of new.opened) t history) (sym trims.times.closed_time)
            (subst (λ (ts : List (List TupleView)). standing.PartsStandFor old.network lines order (stores_in new) old.time (streams_of ts) old.closed_time history) (sym trims.opened) (kept old.closed_time refl)))));
      }

  module _ (number : ℕ) (p : Prefix) (h : Hop) (at : IsAt old.network number (After p h)) (since : Option ℕ) (least : IsLeastBirth (IsReadAfter lines (After p h)) since) where
    waits_there : wait_at old.network number ≡ Some h.wait
    waits_there = ap (option_and_then wait_by) at.1

    some : (birth : Option ℕ) × IsReadAfter lines (After p h) birth
    some = some_reads old.network lines stands.merged stands.serves.has_lines number (After p h) at

    -- before an epoch was closed nothing is stored
    none_stored : old.closed_time ≡ None → stores_in old number ≡ []
    none_stored is =
        let start = subst (λ (o : Option ℕ). Standing o (stores_in old)) is stands.stands in
        let nothing = none_before past start.stores_stand.before in
        let held = stored_wait 0 (IsReadAfter lines (After p h)) (streams_over lines order past) p h (stores_in old number) (start.stores_stand.holds number p h at) in
        none_bound (stores_in old number)
        (within_none (bindings_of (stores_in old number)) (subst (IsWithin (bindings_of (stores_in old number))) (ap (λ (e : List Event). waiting (streams_over lines order e) p h) nothing ∙ start_waits lines order p h) held))

    -- what is alive and began after the least birth is stored
    alive_stored : (closed_time : Option ℕ) → old.closed_time ≡ closed_time → IsPermutation (stores_in new number) (alive_instances (next_time closed_time) h.wait.choose (began_after since (stores_in old number)))
    alive_stored None is =
        let none = none_stored is in permuted_is ((λ i. sym (same_stores is) i number) ∙ none ∙ sym (ap (λ xs. alive_instances 0 h.wait.choose (began_after since xs)) none))
    alive_stored (Some time) is =
        let left = purged_at time is number h.wait waits_there in
        let one = one_least (IsReadAfter lines (After p h)) left.0 since some.0 (least_reads old.network lines stands.merged stands.serves.has_lines number (After p h) at left.0 left.1) least some.1 in
        subst (λ (birth : Option ℕ). IsPermutation (stores_in new number) (alive_instances (time + 1) h.wait.choose (began_after birth (stores_in old number)))) one left.2

    -- and it is what waits
    pub stored_exact : IsPermutation (stores_in new number) (alive_over lines order past since (After p h))
    stored_exact =
        subst (λ (o : Option ℕ). IsPermutation (stores_in new number) (alive_instances (next_time o) h.wait.choose (began_after since (waiting_instances (streams_over lines order past) p h)))) (sym stands.stands.closed_is_last)
        (IsPermutation-trans _ _ _ (alive_stored old.closed_time refl)
        (trimmed_is_alive old.network lines order (stores_in old) old.time (streams_of old.opened) old.closed_time history stands.stands number p h at since (least.is_one some.0 some.1)))

  -- where no state waits nothing is stored
  none_new : (number : ℕ) → wait_at old.network number ≡ None → stores_in new number ≡ []
  none_new number none = trims.others number none ∙ stands.none_elsewhere number none

  -- a state stores as many instances as wait for its prefix
  as_many_at : (number : ℕ) (p : Prefix) → IsAt old.network number p → CountsAliveAt lines order past p (length (stores_in new number))
  as_many_at number (Root s) at since least = ap length (none_new number (root_waits old.network number s at))
  as_many_at number (After p h) at since least = sym (length_permutation _ _ (stored_exact number p h at since least))

  -- its instances are as many as wait, are alive and are of use
  pub stored_counted : CountsAlive lines order past (min (stored_in new) (2 ^ 64 - 1))
  stored_counted =
      let net = old.network in
      let plain = lines_in lines in
      let has = plain_lines net lines stands.serves.has_lines in
      let at = places net plain stands.merged has in
      let all = numbers net plain stands.merged has in
      let stored : ℕ → ℕ = λ n. length (stores_in new n) in
      let each = sum_map (λ (counted : Prefix × ℕ). counted.1) (λ n. (at n, stored n)) stored all (λ n listed. refl) in
      let whole = sum_states stored net new.stores 0 (λ k. ap stored (from_zero k)) (λ k free. none_new k (free_waits net k free)) in record {
        distinct = map (λ n. (at n, stored n)) all;
        are = subst (ListPrefixes plain) (sym (map-map (λ (counted : Prefix × ℕ). counted.0) (λ n. (at n, stored n)) all)) (states_distinct net plain stands.merged has);
        each =
            All-map (λ (counted : Prefix × ℕ). CountsAliveAt lines order past counted.0 counted.1) (λ n. (at n, stored n)) all
            (All-weaker (Contains all) (λ n. CountsAliveAt lines order past (at n) (stored n)) (λ n listed. as_many_at n (at n) (has.1.are_places n (used_at net plain stands.merged has n listed))) all (All-contains_itself all));
        value = ap (λ (n : ℕ). min n (2 ^ 64 - 1)) (sym (each ∙ whole));
      }

-- an engine that is purged stands for what it stood for, with exactly the instances that are alive
pub trimmed_stands : TrimmedStands
trimmed_stands = record {
  stands = λ old new lines history stands trims. trims_stands old new lines history stands trims;
  exact = λ old new lines history stands trims number p h at since least. stored_exact old new lines history stands trims number p h (subst (λ (n : Net). IsAt n number (After p h)) trims.plan.network at) since least;
}

-- their number is that of those that wait, are alive and are of use
pub trimmed_is_counted : TrimmedIsCounted
trimmed_is_counted old new lines history stands trims = stored_counted old new lines history stands trims

-- Engines that stand for a history.
use Rattle.std.proofs.Common.{◌≡◌, ◌∙◌, sym, ap, refl, subst, ℕ, ◌+◌, ◌<◌, ◌≤◌, ◌==◌, Bool, true, false, cond, nat_le, nat_lt, List, [], ◌∷◌, ◌++◌, map, append-nil, arith}
use Rattle.std.specs.Prelude.{Option, Some, None}
use Rattle.std.specs.List.{All, filter}
use Rattle.std.specs.List.Sorted.{IsPermutation}
use Rattle.std.proofs.lemmas.Bool.Decides.{nat_tests}
use Rattle.std.proofs.lemmas.List.Elements.{filter-append, filter_passes, All-nil, All-cons, All-head, All-tail, All-append, All-filter, All-weaker}
use Rattle.std.proofs.lemmas.List.Sorted.{IsPermutation-refl, IsPermutation-trans, IsPermutation-append_left}
use Rattle.std.proofs.lemmas.List.{map-append}
use Rattle.event_types.specs.Order.{sorted}
use Rattle.event_types.specs.Tuple.{IsSound}
use Rattle.instances.specs.Births.{began_after}
use Rattle.instances.specs.Bounds.{alive_instances}
use Rattle.semantics.specs.Denotation.{Streams}
use Rattle.semantics.specs.Histories.{Event, heard_on, upto}
use Rattle.semantics.specs.Laws.{NeverFalls}
use Rattle.semantics.specs.Programs.{Program}
use Rattle.semantics.specs.Results.{results}
use Rattle.semantics.proofs.ReportLemmas.{filter_all}
use Rattle.scalar_expr.proofs.Bags.{permuted_to}
use Rattle.automaton.specs.Networks.{IsAt}
use Rattle.automaton.specs.Prefixes.{Prefix, After}
use Rattle.automaton.specs.States.{Net}
use Rattle.automaton.specs.declared.line.Hop.{Hop}
use Rattle.epoch_laws.specs.BornLines.{BornLine, IsReadAfter}
use Rattle.epoch_laws.specs.Batch.{Agree}
use Rattle.epoch_laws.specs.Closing.{ArePurged, IsEpoch, Stores, leaving_state, stores_after}
use Rattle.epoch_laws.specs.Histories.{events_before, events_during, streams_over}
use Rattle.epoch_laws.specs.InstanceFlow.{waiting_instances}
use Rattle.epoch_laws.specs.StandingLaws.{EpochFlow}
use Rattle.epoch_laws.specs.Standing.{MayFollow, PartsStandFor, closed_part, last_time, next_time, open_part}
use Rattle.epoch_laws.specs.StoresStandFor.{Serves, StoresStandFor}
use Rattle.epoch_laws.specs.Times.{IsPast, during}
use Rattle.epoch_laws.proofs.Batches.{batch_is_results}
use Rattle.epoch_laws.proofs.CutStores.{cut_holds}
use Rattle.epoch_laws.proofs.Lists.{filter_false}
use Rattle.epoch_laws.proofs.StoresStandFor.{net_flows, net_gives, stands_at_start, stands_closed, stands_purged}

-- the last time of a history
last_of : (history : List Event) (event : Event) → last_time (history ++ event ∷ []) ≡ Some event.tuple.at
last_of [] event = refl
last_of (first ∷ []) event = refl
last_of (first ∷ next ∷ later) event = last_of (next ∷ later) event

-- no event is later than it
by_last : (history : List Event) (time : ℕ) → NeverFalls history → last_time history ≡ Some time → All (λ e. e.tuple.at ≤ time) history
by_last [] time falls is = absurd (cc)
by_last (event ∷ []) time falls is = All-cons (λ e. e.tuple.at ≤ time) event [] (under event.tuple.at same) (All-nil (λ e. e.tuple.at ≤ time))
  where
    same : event.tuple.at ≡ time
    same = cc

    under : (at : ℕ) → at ≡ time → at ≤ time
    under at e = omega arith
by_last (event ∷ next ∷ later) time falls is =
    let rest = by_last (next ∷ later) time falls.1 is in
    All-cons (λ e. e.tuple.at ≤ time) event (next ∷ later) (through (All-head (λ late. event.tuple.at ≤ late.tuple.at) next later falls.0) (All-head (λ e. e.tuple.at ≤ time) next later rest)) rest
  where
    through : event.tuple.at ≤ next.tuple.at → next.tuple.at ≤ time → event.tuple.at ≤ time
    through h g = omega arith

-- the next time is at most one that all events are before
next_below : (history : List Event) (time : ℕ) → All (λ e. e.tuple.at < time) history → next_time (last_time history) ≤ time
next_below [] time all = omega arith
next_below (event ∷ []) time all = below (All-head (λ e. e.tuple.at < time) event [] all)
  where
    below : event.tuple.at < time → event.tuple.at + 1 ≤ time
    below h = omega arith
next_below (event ∷ next ∷ later) time all = next_below (next ∷ later) time (All-tail (λ e. e.tuple.at < time) event (next ∷ later) all)

-- a history with an event of the last time at its end
falls_on : (history : List Event) (event : Event) → NeverFalls history → All (λ e. e.tuple.at ≤ event.tuple.at) history → NeverFalls (history ++ event ∷ [])
falls_on [] event falls all = (All-nil (λ late. event.tuple.at ≤ late.tuple.at), tt)
falls_on (first ∷ later) event falls all = (
  All-append (λ late. first.tuple.at ≤ late.tuple.at) later (event ∷ []) falls.0 (All-cons (λ late. first.tuple.at ≤ late.tuple.at) event [] (All-head (λ e. e.tuple.at ≤ event.tuple.at) first later all) (All-nil (λ late. first.tuple.at ≤ late.tuple.at))),
  falls_on later event falls.1 (All-tail (λ e. e.tuple.at ≤ event.tuple.at) first later all),
)

-- tests of times
old_now : (at time : ℕ) → at ≡ time → nat_lt at time ≡ false
old_now at time e = grind (arith, nat_tests)

now_now : (at time : ℕ) → at ≡ time → (at == time) ≡ true
now_now at time e = grind (arith, nat_tests)

old_before : (at time : ℕ) → at < time → nat_lt at time ≡ true
old_before at time e = grind (arith, nat_tests)

now_before : (at time : ℕ) → at < time → (at == time) ≡ false
now_before at time e = grind (arith, nat_tests)

is_before : (at time : ℕ) → nat_lt at time ≡ true → at < time
is_before at time e = grind (arith, nat_tests)

is_now : (at time : ℕ) → (at == time) ≡ true → at ≡ time
is_now at time e = grind (arith, nat_tests)

reached : (at time : ℕ) → at ≤ time → nat_lt at time ≡ false → at ≡ time
reached at time h e = grind (arith, nat_tests)

at_least : (at late time : ℕ) → at ≡ time → at ≤ late → late ≤ time → late ≡ time
at_least at late time e h g = omega arith

-- the history is its closed part and then the events of the last time
parts_are : (history : List Event) (time : ℕ) → NeverFalls history → All (λ e. e.tuple.at ≤ time) history → events_before time history ++ events_during time history ≡ history
parts_are [] time falls all = refl
parts_are (event ∷ later) time falls all = go (parts_are later time falls.1 (All-tail (λ e. e.tuple.at ≤ time) event later all)) (nat_lt event.tuple.at time) refl
  where
    go : events_before time later ++ events_during time later ≡ later → (b : Bool) → nat_lt event.tuple.at time ≡ b
        → cond b (event ∷ events_before time later) (events_before time later) ++ events_during time (event ∷ later) ≡ event ∷ later
    go rest true e =
        ap (λ b. (event ∷ events_before time later) ++ cond b (event ∷ events_during time later) (events_during time later)) (now_before event.tuple.at time (is_before event.tuple.at time e))
        ∙ ap (λ es. event ∷ es) rest
    go rest false e = (λ i. none i ++ all_now i)
      where
        same : event.tuple.at ≡ time
        same = reached event.tuple.at time (All-head (λ e. e.tuple.at ≤ time) event later all) e

        late : All (λ e. e.tuple.at ≡ time) later
        late i d lt = at_least event.tuple.at _ time same (falls.0 i d lt) (All-tail (λ e. e.tuple.at ≤ time) event later all i d lt)

        none : events_before time later ≡ []
        none = filter_false (λ e. nat_lt e.tuple.at time) later (All-weaker (λ e. e.tuple.at ≡ time) (λ e. nat_lt e.tuple.at time ≡ false) (λ e h. old_now e.tuple.at time h) later late)

        all_now : events_during time (event ∷ later) ≡ event ∷ later
        all_now = filter_all (λ e. e.tuple.at == time) (event ∷ later) (All-weaker (λ e. e.tuple.at ≡ time) (λ e. (e.tuple.at == time) ≡ true) (λ e h. now_now e.tuple.at time h) (event ∷ later) (All-cons (λ e. e.tuple.at ≡ time) event later same late))

-- by its last time all of a history is detected
pub upto_last : (history : List Event) (time : ℕ) → NeverFalls history → last_time history ≡ Some time → upto time history ≡ history
upto_last history time falls is =
    filter_all (λ e. nat_le e.tuple.at time) history (All-weaker (λ e. e.tuple.at ≤ time) (λ e. nat_le e.tuple.at time ≡ true) (λ e h. by e.tuple.at h) history (by_last history time falls is))
  where
    by : (at : ℕ) → at ≤ time → nat_le at time ≡ true
    by at h = grind (arith, nat_tests)

heard_more : (history more : List Event) (s : ℕ) → heard_on (history ++ more) s ≡ heard_on history s ++ heard_on more s
heard_more history more s = ap (map (λ e. e.tuple)) (filter-append (λ e. e.stream == s) history more) ∙ map-append (λ (e : Event). e.tuple) (filter (λ e. e.stream == s) history) (filter (λ e. e.stream == s) more)

-- a history that grows by an event of a time
before_more : (history : List Event) (event : Event) → events_before event.tuple.at (history ++ event ∷ []) ≡ events_before event.tuple.at history
before_more history event =
    filter-append (λ e. nat_lt e.tuple.at event.tuple.at) history (event ∷ [])
    ∙ ap (λ b. events_before event.tuple.at history ++ cond b (event ∷ []) []) (old_now event.tuple.at event.tuple.at refl)
    ∙ append-nil (events_before event.tuple.at history)

during_more : (history : List Event) (event : Event) → events_during event.tuple.at (history ++ event ∷ []) ≡ events_during event.tuple.at history ++ event ∷ []
during_more history event =
    filter-append (λ e. e.tuple.at == event.tuple.at) history (event ∷ [])
    ∙ ap (λ b. events_during event.tuple.at history ++ cond b (event ∷ []) []) (now_now event.tuple.at event.tuple.at refl)

-- at the start the stores stand for no events
pub start_stands : (net : Net) (lines : List BornLine) (order : List ℕ) → PartsStandFor net lines order (λ _. []) None (λ _. []) None []
start_stands net lines order = record {
  sound = All-nil (λ e. IsSound e.tuple);
  never_falls = tt;
  open_is_last = tt;
  closed_is_last = refl;
  tuples_are_open = λ s. IsPermutation-refl [];
  stores_stand = stands_at_start net lines order;
}

-- an offer
module _ (net : Net) (lines : List BornLine) (order : List ℕ) (stores : Stores) (tuples more : Streams) (closed_time : Option ℕ) (history : List Event) (event : Event)
    (sound : IsSound event.tuple) (added : (s : ℕ) → IsPermutation (more s) (tuples s ++ heard_on (event ∷ []) s)) where
  grown : (open_time : Option ℕ) → PartsStandFor net lines order stores open_time tuples closed_time history → All (λ e. e.tuple.at ≤ event.tuple.at) history
      → closed_part (Some event.tuple.at) (history ++ event ∷ []) ≡ closed_part open_time history
      → open_part (Some event.tuple.at) (history ++ event ∷ []) ≡ open_part open_time history ++ event ∷ []
      → PartsStandFor net lines order stores (Some event.tuple.at) more closed_time (history ++ event ∷ [])
  grown open_time stands before same_closed now_open = record {
    sound = All-append (λ e. IsSound e.tuple) history (event ∷ []) stands.sound (All-cons (λ e. IsSound e.tuple) event [] sound (All-nil (λ e. IsSound e.tuple)));
    never_falls = falls_on history event stands.never_falls before;
    open_is_last = last_of history event;
    closed_is_last = ap last_time same_closed ∙ stands.closed_is_last;
    tuples_are_open = λ s.
        permuted_to (IsPermutation-trans _ _ _ (added s) (IsPermutation-append_left (heard_on (event ∷ []) s) (tuples s) (heard_on (open_part open_time history) s) (stands.tuples_are_open s)))
        (sym (heard_more (open_part open_time history) (event ∷ []) s) ∙ ap (λ (h : List Event). heard_on h s) (sym now_open));
    stores_stand = subst (λ (h : List Event). StoresStandFor net lines order (next_time closed_time) stores h) (sym same_closed) stands.stores_stand;
  }

  -- with one more event they stand for it too
  pub offer_stands : (open_time : Option ℕ) → PartsStandFor net lines order stores open_time tuples closed_time history → MayFollow open_time closed_time event.tuple.at
      → PartsStandFor net lines order stores (Some event.tuple.at) more closed_time (history ++ event ∷ [])
  offer_stands (Some time) stands follows =
      let here = subst (λ t. PartsStandFor net lines order stores (Some t) tuples closed_time history) (sym follows) stands in
      grown (Some event.tuple.at) here (by_last history event.tuple.at here.never_falls here.open_is_last) (before_more history event) (during_more history event)
  offer_stands None stands follows =
      grown None stands (All-weaker (λ e. IsSound e.tuple × (e.tuple.at < next_time closed_time)) (λ e. e.tuple.at ≤ event.tuple.at) (λ e h. under e.tuple.at h.1) history stands.stores_stand.before)
      (before_more history event ∙ filter_all (λ e. nat_lt e.tuple.at event.tuple.at) history (All-weaker (λ e. IsSound e.tuple × (e.tuple.at < next_time closed_time)) (λ e. nat_lt e.tuple.at event.tuple.at ≡ true) (λ e h. old_before e.tuple.at event.tuple.at (earlier e.tuple.at h.1)) history stands.stores_stand.before))
      (during_more history event ∙ ap (λ es. es ++ event ∷ []) (filter_false (λ e. e.tuple.at == event.tuple.at) history (All-weaker (λ e. IsSound e.tuple × (e.tuple.at < next_time closed_time)) (λ e. (e.tuple.at == event.tuple.at) ≡ false) (λ e h. now_before e.tuple.at event.tuple.at (earlier e.tuple.at h.1)) history stands.stores_stand.before)))
    where
      under : (at : ℕ) → at < next_time closed_time → at ≤ event.tuple.at
      under at h = omega (arith, follows)

      earlier : (at : ℕ) → at < next_time closed_time → at < event.tuple.at
      earlier at h = omega (arith, follows)

-- a closing
module _ (net : Net) (lines : List BornLine) (order : List ℕ) (stores : Stores) (time : ℕ) (tuples news : Streams) (closed_time : Option ℕ) (history : List Event)
    (serves : Serves net lines order) (stands : PartsStandFor net lines order stores (Some time) tuples closed_time history) (epoch : IsEpoch net order stores tuples news) where
  past_and_now : events_before time history ++ events_during time history ≡ history
  past_and_now = parts_are history time stands.never_falls (by_last history time stands.never_falls stands.open_is_last)

  -- the open time is later than the last closed one
  pub in_time : next_time closed_time ≤ time
  in_time =
      subst (λ t. next_time t ≤ time) stands.closed_is_last
      (next_below (events_before time history) time (All-weaker (λ e. nat_lt e.tuple.at time ≡ true) (λ e. e.tuple.at < time) (λ e h. is_before e.tuple.at time h) (events_before time history) (filter_passes (λ e. nat_lt e.tuple.at time) history)))

  events_now : All (λ e. IsSound e.tuple × (e.tuple.at ≡ time)) (events_during time history)
  events_now i d lt = (
    All-filter (λ e. e.tuple.at == time) (λ e. IsSound e.tuple) history stands.sound i d lt,
    is_now _ time (filter_passes (λ e. e.tuple.at == time) history i d lt),
  )

  heard_epoch : IsEpoch net order stores (heard_on (events_during time history)) news
  heard_epoch = record { declared = λ s e. IsPermutation-trans _ _ _ (epoch.declared s e) (stands.tuples_are_open s); derived = epoch.derived }

  past_now : All (λ e. IsPast time e.tuple) history
  past_now i d lt = (stands.sound i d lt, by_last history time stands.never_falls stands.open_is_last i d lt)

  -- the epoch has the tuples that the streams have at its time
  pub epoch_gives : (s : ℕ) → IsPermutation (news s) (during time (streams_over lines order history s))
  epoch_gives = net_gives net lines order history time (next_time closed_time) stores news serves past_now in_time stands.stores_stand.holds heard_epoch

  -- and what leaves a state in it comes of what flows out of the state's prefix then
  pub epoch_flows : (number : ℕ) (p : Prefix) → IsAt net number p → EpochFlow lines (streams_over lines order history) time p (leaving_state net news stores number)
  epoch_flows = net_flows net lines order history time (next_time closed_time) stores news serves past_now in_time stands.stores_stand.holds heard_epoch

  -- after a closing they stand for the same events
  pub close_stands : (kept : Stores) → ArePurged (time + 1) lines net (stores_after net news stores) kept
      → ((s : ℕ) → IsPermutation (news s) (during time (streams_over lines order history s))) × PartsStandFor net lines order kept None (λ _. []) (Some time) history
  close_stands kept purged =
      let closed = stands_closed net lines order (next_time closed_time) time stores kept (events_before time history) (events_during time history) news serves stands.stores_stand in_time events_now heard_epoch purged in (
        λ s. permuted_to (closed.0 s) (ap (λ (h : List Event). during time (streams_over lines order h s)) past_and_now),
        record {
          sound = stands.sound;
          never_falls = stands.never_falls;
          open_is_last = tt;
          closed_is_last = stands.open_is_last;
          tuples_are_open = λ s. IsPermutation-refl [];
          stores_stand = subst (λ (h : List Event). StoresStandFor net lines order (time + 1) kept h) past_and_now closed.1;
        },
      )

  -- a closing gives the results of a query
  pub closing_is_results : (program : Program) (stream : ℕ) → Agree lines order program history stream → sorted (news stream) ≡ results program history stream time
  closing_is_results program stream agree =
      batch_is_results net lines order (next_time closed_time) time stores (events_before time history) (events_during time history) news program stream serves stands.stores_stand in_time events_now heard_epoch (subst (λ (h : List Event). Agree lines order program h stream) (sym past_and_now) agree)
      ∙ ap (λ (h : List Event). results program h stream time) past_and_now

-- a purge
pub purge_stands : (net : Net) (lines : List BornLine) (order : List ℕ) (stores kept : Stores) (open_time : Option ℕ) (tuples : Streams) (closed_time : Option ℕ) (history : List Event)
    → PartsStandFor net lines order stores open_time tuples closed_time history → ArePurged (next_time closed_time) lines net stores kept → PartsStandFor net lines order kept open_time tuples closed_time history
purge_stands net lines order stores kept open_time tuples closed_time history stands purged = record {
  sound = stands.sound;
  never_falls = stands.never_falls;
  open_is_last = stands.open_is_last;
  closed_is_last = stands.closed_is_last;
  tuples_are_open = stands.tuples_are_open;
  stores_stand = stands_purged net lines order (next_time closed_time) stores kept (closed_part open_time history) stands.stores_stand purged;
}

-- what a purge leaves is what is alive
pub trimmed_is_alive : (net : Net) (lines : List BornLine) (order : List ℕ) (stores : Stores) (open_time : Option ℕ) (tuples : Streams) (closed_time : Option ℕ) (history : List Event)
    → PartsStandFor net lines order stores open_time tuples closed_time history → (number : ℕ) (p : Prefix) (h : Hop) → IsAt net number (After p h) → (birth : Option ℕ) → IsReadAfter lines (After p h) birth
    → IsPermutation (alive_instances (next_time closed_time) h.wait.choose (began_after birth (stores number)))
    (alive_instances (next_time closed_time) h.wait.choose (began_after birth (waiting_instances (streams_over lines order (closed_part open_time history)) p h)))
trimmed_is_alive net lines order stores open_time tuples closed_time history stands number p h at birth used =
    (cut_holds birth (next_time closed_time) (IsReadAfter lines (After p h)) h.wait.choose (waiting_instances (streams_over lines order (closed_part open_time history)) p h) (stores number) (stands.stores_stand.holds number p h at) used).alive_same

-- Stores that stand for a history go on standing for it.
use Rattle.std.proofs.Common.{◌≡◌, ◌∙◌, sym, ap, refl, subst, ℕ, ◌+◌, ◌<◌, ◌≤◌, ◌==◌, Bool, true, false, ◌||◌, nat_lt, List, [], ◌∷◌, ◌++◌, append-nil, arith}
use Rattle.std.specs.Prelude.{Option}
use Rattle.std.specs.List.{All, filter, flat_map}
use Rattle.std.specs.List.Sorted.{IsPermutation}
use Rattle.std.proofs.lemmas.Bool.{eqb-true}
use Rattle.std.proofs.lemmas.Bool.Decides.{nat_tests}
use Rattle.std.proofs.lemmas.List.Elements.{filter-append, All-nil, All-append, All-head, All-tail, All-weaker}
use Rattle.std.proofs.lemmas.List.Sorted.{IsPermutation-refl, IsPermutation-sym, IsPermutation-trans, IsPermutation-map}
use Rattle.event_types.specs.Tuple.{IsSound}
use Rattle.instances.specs.Births.{began_after}
use Rattle.instances.specs.Bounds.{alive_instances}
use Rattle.instances.specs.declared.instance.Instance.{Instance}
use Rattle.semantics.specs.Births.{is_after}
use Rattle.semantics.specs.Denotation.{Streams}
use Rattle.semantics.specs.Histories.{Event, heard_on}
use Rattle.semantics.specs.Scalars.{Pr}
use Rattle.semantics.proofs.ListLemmas.{filter-map}
use Rattle.semantics.proofs.ReportLemmas.{filter_all, flat_map_same}
use Rattle.instances.specs.Alive.{alive, is_alive}
use Rattle.scalar_expr.proofs.Bags.{permuted_to}
use Rattle.automaton.specs.Networks.{IsAt}
use Rattle.automaton.specs.Prefixes.{Prefix, Root, After}
use Rattle.automaton.specs.States.{Net}
use Rattle.automaton.specs.Waiting.{waiting}
use Rattle.automaton.specs.Work.{IsInOrder, ReadsNone, is_in}
use Rattle.automaton.specs.declared.line.Hop.{Hop}
use Rattle.epoch_laws.specs.BornLines.{BornLine, IsReadAfter, lines_in}
use Rattle.epoch_laws.specs.Closing.{ArePurged, IsEpoch, Stores, given_by_ends, leaving_state, stores_after}
use Rattle.epoch_laws.specs.Histories.{events_before, events_during, streams_over}
use Rattle.epoch_laws.specs.InstanceFlow.{derived_after, given_after, waiting_instances}
use Rattle.epoch_laws.specs.Instances.{bindings_of}
use Rattle.epoch_laws.specs.Lines.{given_now}
use Rattle.epoch_laws.specs.StandingLaws.{EpochFlow}
use Rattle.epoch_laws.specs.StoresStandFor.{Serves, StoresStandFor}
use Rattle.epoch_laws.specs.Stores.{IsWithin, Purged}
use Rattle.epoch_laws.specs.Times.{ArePast, during, IsPast, streams_before, streams_during}
use Rattle.epoch_laws.proofs.Bags.{filter_inside, map_within, within_permuted, within_through, within_whole}
use Rattle.epoch_laws.proofs.Completed.{completed_other, of_lines, streams_derived}
use Rattle.epoch_laws.proofs.CutStores.{cut_holds}
use Rattle.epoch_laws.proofs.Each.{no_bindings}
use Rattle.epoch_laws.proofs.Folds.{during_at}
use Rattle.epoch_laws.proofs.InstanceEpochs.{cut_bindings, flow_bindings, instances_wait, line_gives, state_keeps}
use Rattle.epoch_laws.proofs.Lists.{every, filter-flat_map, filter_false}
use Rattle.epoch_laws.proofs.Networks.{Knows, leaves_later, leaves_within, published_alike, stores_keep}
use Rattle.epoch_laws.proofs.Streams.{heard_now, over_before, over_past, start_waits}

-- purged stores
pub alive_bindings : (now : ℕ) (p : List Pr) (store : List Instance) → bindings_of (alive_instances now p store) ≡ alive now p (bindings_of store)
alive_bindings now p store = sym (filter-map (is_alive now p) (λ (instance : Instance). instance.tuple) store)

purged_twice : (now : ℕ) (IsRead : Option ℕ → Type 0) (p : List Pr) (waits store kept : List Instance) → Purged now IsRead p waits store → Purged now IsRead p store kept → Purged now IsRead p waits kept
purged_twice now IsRead p waits store kept once again = record {
  at_least = λ birth read.
      within_permuted (alive_instances now p (began_after birth waits)) (alive_instances now p (began_after birth store)) kept
      (IsPermutation-sym _ _ (cut_holds birth now IsRead p waits store once read).alive_same) (again.at_least birth read);
  at_most = within_through kept store waits again.at_most once.at_most;
}

-- the bindings of a store are of those that wait
pub stored_wait : (now : ℕ) (IsRead : Option ℕ → Type 0) (env : Streams) (p : Prefix) (h : Hop) (store : List Instance) → Purged now IsRead h.wait.choose (waiting_instances env p h) store → IsWithin (bindings_of store) (waiting env p h)
stored_wait now IsRead env p h store purged =
    subst (IsWithin (bindings_of store)) (instances_wait env p h) (map_within (λ (i : Instance). i.tuple) store (waiting_instances env p h) purged.at_most)

abbrev AllHold : Net → List BornLine → ℕ → Stores → Streams → Type 0
AllHold net lines now stores env = (number : ℕ) (p : Prefix) (h : Hop) → IsAt net number (After p h) → Purged now (IsReadAfter lines (After p h)) h.wait.choose (waiting_instances env p h) (stores number)

purged_all : (net : Net) (lines : List BornLine) (now : ℕ) (stores kept : Stores) (env : Streams) → AllHold net lines now stores env → ArePurged now lines net stores kept → AllHold net lines now kept env
purged_all net lines now stores kept env holds purged number p h at =
    purged_twice now (IsReadAfter lines (After p h)) h.wait.choose (waiting_instances env p h) (stores number) (kept number) (holds number p h at) (purged number p h at)

-- one epoch of a history
module _ (net : Net) (lines : List BornLine) (order : List ℕ) (h : List Event) (time now : ℕ) (stores : Stores) (news : Streams)
    (serves : Serves net lines order) (past : All (λ e. IsPast time e.tuple) h) (le : now ≤ time)
    (holds : AllHold net lines now stores (streams_over lines order (events_before time h)))
    (epoch : IsEpoch net order stores (heard_on (events_during time h)) news) where
  abbrev full : Streams
  full = streams_over lines order h

  full_past : ArePast time full
  full_past = over_past time lines order h past

  -- the epoch's tuples of each stream
  abbrev exact : Streams
  exact = streams_during time full

  abbrev earlier : Streams
  earlier = streams_before time full

  late : (s : ℕ) → All (λ r. now ≤ r.at) (exact s)
  late s = All-weaker (λ r. r.at ≡ time) (λ r. now ≤ r.at) (λ r e. under r.at e) (exact s) (during_at time (full s))
    where
      under : (at : ℕ) → at ≡ time → now ≤ at
      under at e = omega arith

  holds_earlier : AllHold net lines now stores earlier
  holds_earlier = subst (λ (env : Streams). AllHold net lines now stores env) (sym (over_before time lines order h past)) holds

  -- a derived stream has in the epoch what its lines give
  exact_is : (s : ℕ) → full s ≡ derived_after lines full s → exact s ≡ flat_map (given_now exact earlier) (filter (λ (b : BornLine). b.line.out == s) lines)
  exact_is s e =
      ap (during time) e
      ∙ filter-flat_map (λ r. r.at == time) (given_after full) (filter (λ (b : BornLine). b.line.out == s) lines)
      ∙ flat_map_same (λ b. during time (given_after full b)) (given_now exact earlier) (filter (λ (b : BornLine). b.line.out == s) lines)
      (every (λ b. during time (given_after full b) ≡ given_now exact earlier b) (line_gives time full full_past) (filter (λ (b : BornLine). b.line.out == s) lines))

  news_alike : (rest : List ℕ) → IsInOrder (lines_in lines) rest → All (λ s. IsPermutation (news s) (given_by_ends net news stores s)) rest → All (λ s. full s ≡ derived_after lines full s) rest
      → ((t : ℕ) → is_in rest t ≡ false → IsPermutation (news t) (exact t)) → (t : ℕ) → IsPermutation (news t) (exact t)
  news_alike [] ordered published_all made known t = known t refl
  news_alike (s ∷ rest) ordered published_all made known t =
      news_alike rest ordered.2 (All-tail (λ s. IsPermutation (news s) (given_by_ends net news stores s)) s rest published_all) (All-tail (λ s. full s ≡ derived_after lines full s) s rest made) (λ t e. go t e (t == s) refl) t
    where
      one : IsPermutation (news s) (exact s)
      one =
          IsPermutation-trans _ _ _ (All-head (λ s. IsPermutation (news s) (given_by_ends net news stores s)) s rest published_all)
          (permuted_to (published_alike net lines now stores news exact earlier late holds_earlier serves.has_lines s (s ∷ rest) (of_lines (ReadsNone (s ∷ rest)) lines s ordered.0) known)
          (sym (exact_is s (All-head (λ s. full s ≡ derived_after lines full s) s rest made))))

      go : (t : ℕ) → is_in rest t ≡ false → (b : Bool) → (t == s) ≡ b → IsPermutation (news t) (exact t)
      go t e true is = subst (λ n. IsPermutation (news n) (exact n)) (sym (eqb-true t s is)) one
      go t e false is = known t (ap (λ b. b || is_in rest t) is ∙ e)

  -- the network gives each stream what the events bring in the epoch
  pub net_gives : (t : ℕ) → IsPermutation (news t) (during time (streams_over lines order h t))
  net_gives t =
      news_alike order serves.in_order epoch.derived (streams_derived lines order (heard_on h) serves.in_order)
      (λ t e. permuted_to (epoch.declared t e) (sym (ap (during time) (completed_other lines order (heard_on h) t e) ∙ heard_now time h t))) t

  -- what leaves a state is within what flows out of its prefix in the epoch, and after the birth of a line it is what flows over the streams cut there
  pub net_flows : (number : ℕ) (p : Prefix) → IsAt net number p → EpochFlow lines full time p (leaving_state net news stores number)
  net_flows number p at = record {
    within = subst (IsWithin (bindings_of (leaving_state net news stores number))) (flow_bindings time full full_past p) (map_within (λ (i : Instance). i.tuple) _ _ (leaves_within net lines now stores news exact earlier late holds_earlier number p at (knows p)));
    later = λ birth used.
        permuted_to (IsPermutation-map (λ (i : Instance). i.tuple) _ _ (leaves_later net lines now stores news exact earlier late holds_earlier number p at (knows p) birth used)) (cut_bindings time full full_past birth p);
  }
    where
      knows : (p : Prefix) → Knows net lines now stores news exact earlier late holds_earlier p
      knows (Root s) = net_gives s
      knows (After q k) = net_gives k.wait.stream

  -- and keeps the bindings that wait on
  pub net_keeps : (later : ℕ) → now ≤ later → AllHold net lines later (stores_after net news stores) (streams_over lines order h)
  net_keeps later on number p k at =
      stores_keep net lines now stores news exact earlier late holds_earlier later on net_gives number p k at (waiting_instances full p k) (state_keeps time full full_past p k)

-- before any event no instance waits
none_wait : (lines : List BornLine) (order : List ℕ) (p : Prefix) (h : Hop) → waiting_instances (streams_over lines order []) p h ≡ []
none_wait lines order p h = no_bindings (waiting_instances (streams_over lines order []) p h) (instances_wait (streams_over lines order []) p h ∙ start_waits lines order p h)

-- at the start the stores hold nothing
pub stands_at_start : (net : Net) (lines : List BornLine) (order : List ℕ) → StoresStandFor net lines order 0 (λ _. []) []
stands_at_start net lines order = record {
  before = All-nil (λ e. IsSound e.tuple × (e.tuple.at < 0));
  holds = λ number p h at. subst (λ xs. Purged 0 (IsReadAfter lines (After p h)) h.wait.choose xs []) (sym (none_wait lines order p h)) (record { at_least = λ birth used. ([], IsPermutation-refl []); at_most = ([], IsPermutation-refl []) });
}

-- purged stores stand for the same events
pub stands_purged : (net : Net) (lines : List BornLine) (order : List ℕ) (now : ℕ) (stores kept : Stores) (past : List Event) → StoresStandFor net lines order now stores past → ArePurged now lines net stores kept → StoresStandFor net lines order now kept past
stands_purged net lines order now stores kept past s purged = record { before = s.before; holds = purged_all net lines now stores kept (streams_over lines order past) s.holds purged }

-- the history of an epoch is cut at its time
is_before : (now time : ℕ) → now ≤ time → (past events : List Event) → All (λ e. IsSound e.tuple × (e.tuple.at < now)) past → All (λ e. IsSound e.tuple × (e.tuple.at ≡ time)) events → events_before time (past ++ events) ≡ past
is_before now time le past events old new =
    filter-append (λ e. nat_lt e.tuple.at time) past events
    ∙ (λ i. filter_all (λ e. nat_lt e.tuple.at time) past (All-weaker (λ e. IsSound e.tuple × (e.tuple.at < now)) (λ e. nat_lt e.tuple.at time ≡ true) (λ e h. less e.tuple.at h.1) past old) i
    ++ filter_false (λ e. nat_lt e.tuple.at time) events (All-weaker (λ e. IsSound e.tuple × (e.tuple.at ≡ time)) (λ e. nat_lt e.tuple.at time ≡ false) (λ e h. not_less e.tuple.at h.1) events new) i)
    ∙ append-nil past
  where
    less : (at : ℕ) → at < now → nat_lt at time ≡ true
    less at h = grind (arith, nat_tests)

    not_less : (at : ℕ) → at ≡ time → nat_lt at time ≡ false
    not_less at h = grind (arith, nat_tests)

is_during : (now time : ℕ) → now ≤ time → (past events : List Event) → All (λ e. IsSound e.tuple × (e.tuple.at < now)) past → All (λ e. IsSound e.tuple × (e.tuple.at ≡ time)) events → events_during time (past ++ events) ≡ events
is_during now time le past events old new =
    filter-append (λ e. e.tuple.at == time) past events
    ∙ (λ i. filter_false (λ e. e.tuple.at == time) past (All-weaker (λ e. IsSound e.tuple × (e.tuple.at < now)) (λ e. (e.tuple.at == time) ≡ false) (λ e h. less e.tuple.at h.1) past old) i
    ++ filter_all (λ e. e.tuple.at == time) events (All-weaker (λ e. IsSound e.tuple × (e.tuple.at ≡ time)) (λ e. (e.tuple.at == time) ≡ true) (λ e h. same e.tuple.at h.1) events new) i)
  where
    less : (at : ℕ) → at < now → (at == time) ≡ false
    less at h = grind (arith, nat_tests)

    same : (at : ℕ) → at ≡ time → (at == time) ≡ true
    same at h = grind (arith, nat_tests)

-- the stores after an epoch stand for its events too
pub stands_closed : (net : Net) (lines : List BornLine) (order : List ℕ) (now time : ℕ) (stores kept : Stores) (past events : List Event) (news : Streams)
    → Serves net lines order → StoresStandFor net lines order now stores past → now ≤ time → All (λ e. IsSound e.tuple × (e.tuple.at ≡ time)) events
    → IsEpoch net order stores (heard_on events) news → ArePurged (time + 1) lines net (stores_after net news stores) kept
    → ((s : ℕ) → IsPermutation (news s) (during time (streams_over lines order (past ++ events) s))) × StoresStandFor net lines order (time + 1) kept (past ++ events)
stands_closed net lines order now time stores kept past events news serves s le new epoch purged = (
  net_gives net lines order (past ++ events) time now stores news serves whole le holds is_epoch,
  record {
    before =
        All-append (λ e. IsSound e.tuple × (e.tuple.at < time + 1)) past events
        (All-weaker (λ e. IsSound e.tuple × (e.tuple.at < now)) (λ e. IsSound e.tuple × (e.tuple.at < time + 1)) (λ e h. (h.0, earlier' e.tuple.at h.1)) past s.before)
        (All-weaker (λ e. IsSound e.tuple × (e.tuple.at ≡ time)) (λ e. IsSound e.tuple × (e.tuple.at < time + 1)) (λ e h. (h.0, just e.tuple.at h.1)) events new);
    holds =
        purged_all net lines (time + 1) (stores_after net news stores) kept (streams_over lines order (past ++ events))
        (net_keeps net lines order (past ++ events) time now stores news serves whole le holds is_epoch (time + 1) (omega arith)) purged;
  },
)
  where
    earlier' : (at : ℕ) → at < now → at < time + 1
    earlier' at h = omega arith

    just : (at : ℕ) → at ≡ time → at < time + 1
    just at h = omega arith

    until_now : (at : ℕ) → at < now → at ≤ time
    until_now at h = omega arith

    at_now : (at : ℕ) → at ≡ time → at ≤ time
    at_now at h = omega arith

    whole : All (λ e. IsPast time e.tuple) (past ++ events)
    whole =
        All-append (λ e. IsPast time e.tuple) past events
        (All-weaker (λ e. IsSound e.tuple × (e.tuple.at < now)) (λ e. IsPast time e.tuple) (λ e h. (h.0, until_now e.tuple.at h.1)) past s.before)
        (All-weaker (λ e. IsSound e.tuple × (e.tuple.at ≡ time)) (λ e. IsPast time e.tuple) (λ e h. (h.0, at_now e.tuple.at h.1)) events new)

    holds : AllHold net lines now stores (streams_over lines order (events_before time (past ++ events)))
    holds = subst (λ (h : List Event). AllHold net lines now stores (streams_over lines order h)) (sym (is_before now time le past events s.before new)) s.holds

    is_epoch : IsEpoch net order stores (heard_on (events_during time (past ++ events))) news
    is_epoch = subst (λ (h : List Event). IsEpoch net order stores (heard_on h) news) (sym (is_during now time le past events s.before new)) epoch

-- the tuples of the epoch alone, whatever is stored after it
pub closed_batch : (net : Net) (lines : List BornLine) (order : List ℕ) (now time : ℕ) (stores : Stores) (past events : List Event) (news : Streams)
    → Serves net lines order → StoresStandFor net lines order now stores past → now ≤ time → All (λ e. IsSound e.tuple × (e.tuple.at ≡ time)) events
    → IsEpoch net order stores (heard_on events) news
    → (s : ℕ) → IsPermutation (news s) (during time (streams_over lines order (past ++ events) s))
closed_batch net lines order now time stores past events news serves s le new epoch =
    (stands_closed net lines order now time stores (stores_after net news stores) past events news serves s le new epoch (λ number p h at. itself (IsReadAfter lines (After p h)) h.wait.choose (stores_after net news stores number))).0
  where
    itself : (IsRead : Option ℕ → Type 0) (p : List Pr) (store : List Instance) → Purged (time + 1) IsRead p store store
    itself IsRead p store = record {
      at_least = λ birth read. within_through _ _ _ (filter_inside (λ instance. is_alive (time + 1) p instance.tuple) (began_after birth store)) (filter_inside (λ instance. is_after birth instance.first) store);
      at_most = within_whole _ _ (IsPermutation-refl store);
    }

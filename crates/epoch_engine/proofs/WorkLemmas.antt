-- The tests that an epoch asks for, and those that its closing takes.
use Rattle.std.proofs.Common.{◌≡◌, sym, ap, refl, subst, ℕ, ◌+◌, ◌≤◌, get_or, List, [], append-nil, arith}
use Rattle.std.specs.Prelude.{Contains, IfSome, Option, Some, sum_by}
use Rattle.std.specs.List.{All}
use Rattle.std.proofs.lemmas.List.{get_or_default}
use Rattle.event_types.specs.Tuple.{TupleView}
use Rattle.semantics.specs.Denotation.{Streams}
use Rattle.semantics.specs.Histories.{Event, upto}
use Rattle.automaton.specs.Networks.{IsAt}
use Rattle.automaton.specs.Prefixes.{Prefix, Root, After}
use Rattle.automaton.specs.Waiting.{waiting}
use Rattle.automaton.specs.declared.line.Hop.{Hop}
use Rattle.epoch_laws.specs.BornLines.{BornLine, IsReadAfter, lines_in}
use Rattle.epoch_laws.specs.Histories.{events_before, streams_over}
use Rattle.epoch_laws.specs.Instances.{bindings_of}
use Rattle.epoch_laws.specs.Standing.{closed_part, last_time, next_time}
use Rattle.epoch_laws.specs.Stores.{IsWithin}
use Rattle.epoch_laws.proofs.Bags.{permuted_is}
use Rattle.epoch_laws.proofs.Standing.{upto_last}
use Rattle.epoch_laws.proofs.StoresStandFor.{stored_wait}
use Rattle.epoch_engine.specs.Work.{end_tests, state_tests, waiting_over, work_with}
use Rattle.epoch_engine.specs.EngineView.{EngineView, stores_in}
use Rattle.epoch_engine.specs.WorkLaws.{FewerAskForLess, IsConsistent, RisesByWork, StandsOpen, StoredAskForAll, WaitingAskForAll, closing_tests}
use Rattle.epoch_engine.proofs.ClosingTests.{closing_less}
use Rattle.epoch_engine.proofs.TestSums.{sum_less}
use Rattle.epoch_engine.proofs.WaitTests.{wait_fewer}

-- so has a state
pub state_fewer : (time : ℕ) (streams : Streams) (some more : Prefix → List TupleView) (p : Prefix) → ((q : Prefix) (h : Hop) → p ≡ After q h → IsWithin (some (After q h)) (more (After q h)))
    → state_tests time streams some p ≤ state_tests time streams more p
state_fewer time streams some more (Root s) within = omega arith
state_fewer time streams some more (After q h) within =
    let fewer = wait_fewer time streams h.wait (some (After q h)) (more (After q h)) (within q h refl) in omega (arith, fewer)

-- with fewer bindings an epoch asks for no more tests
pub fewer_ask_for_less : FewerAskForLess
fewer_ask_for_less states lines order stored history time within =
    let streams = streams_over lines order (upto time history) in
    let waits = waiting_over lines order (events_before time history) in
    let each : All (λ p. state_tests time streams stored p ≤ state_tests time streams waits p) states =
    λ k d lt.
    let p = get_or states k d in
    state_fewer time streams stored waits p (λ q h is. within q h (subst (Contains states) is (k, lt, get_or_default states k p d lt))) in
    let fewer = sum_less (state_tests time streams stored) (state_tests time streams waits) states each in omega (arith, fewer)

-- the tests of a closing, where at least what is stored is at the states
closing_within : (engine : EngineView) (lines : List BornLine) (states : List Prefix) (history : List Event) (time : ℕ) (stored : Prefix → List TupleView) → IsConsistent engine → StandsOpen engine lines states history time
    → ((k : ℕ) (p : Prefix) (h : Hop) → IsAt engine.network k (After p h) → IsWithin (bindings_of (stores_in engine k)) (stored (After p h))) → closing_tests engine ≤ work_with states lines engine.layout.order stored history time
closing_within engine lines states history time stored is has within =
    subst (λ (events : List Event). closing_tests engine ≤ sum_by (state_tests time (streams_over lines engine.layout.order events) stored) states + sum_by (end_tests time (streams_over lines engine.layout.order events)) (lines_in lines))
    (sym (upto_last history time has.stands.stands.never_falls last)) (closing_less engine lines states history time is has stored within)
  where
    last : last_time history ≡ Some time
    last = subst (λ (o : Option ℕ). IfSome o (λ t. last_time history ≡ Some t)) has.is_open has.stands.stands.open_is_last

-- with what the engine stores
pub stored_ask_for_all : StoredAskForAll
stored_ask_for_all engine lines states history time stored is has are =
    closing_within engine lines states history time stored is has (λ k p h at. subst (IsWithin (bindings_of (stores_in engine k))) (sym (are k p h at)) ([], permuted_is (append-nil (bindings_of (stores_in engine k)))))

-- with all that waits
pub waiting_ask_for_all : WaitingAskForAll
waiting_ask_for_all engine lines states history time is has =
    let order = engine.layout.order in
    let closed : closed_part engine.time history ≡ events_before time history = ap (λ (o : Option ℕ). closed_part o history) has.is_open in
    closing_within engine lines states history time (waiting_over lines order (events_before time history)) is has
    (λ k p h at. subst (λ (events : List Event). IsWithin (bindings_of (stores_in engine k)) (waiting (streams_over lines order events) p h)) closed (stored_wait (next_time engine.closed_time) (IsReadAfter lines (After p h)) (streams_over lines order (closed_part engine.time history)) p h (stores_in engine k) (has.stands.stands.stores_stand.holds k p h at)))

-- tests that are no more than those of the closing
pub rises_by_work : (engine : EngineView) (old new : ℕ) → IsConsistent engine → new ≤ old + closing_tests engine → RisesByWork engine old new
rises_by_work engine old new is few = record {
  stored = λ lines states history time stored has are. let asked = stored_ask_for_all engine lines states history time stored is has are in omega (arith, few, asked);
  waiting = λ lines states history time has. let asked = waiting_ask_for_all engine lines states history time is has in omega (arith, few, asked);
}

-- no tests at all
pub rises_not : (engine : EngineView) (old : ℕ) → RisesByWork engine old old
rises_not engine old = record { stored = λ lines states history time stored has are. omega arith; waiting = λ lines states history time has. omega arith }

-- The detection times of a history, and the report of a history that grows.
use Rattle.std.proofs.Common.{◌≡◌, ◌∙◌, sym, ap, refl, ℕ, ◌<◌, ◌≤◌, ◌==◌, Bool, true, false, not, nat_le, cond, length, List, [], ◌∷◌, ◌++◌, append-nil, arith}
use Rattle.std.specs.List.{All, filter, flat_map}
use Rattle.std.proofs.lemmas.Bool.Decides.{nat_tests}
use Rattle.std.proofs.lemmas.Grind.{flat_map-append}
use Rattle.std.proofs.lemmas.List.Elements.{filter-append, All-nil, All-cons, All-head, All-tail, All-weaker, All-filter}
use Rattle.event_types.specs.Order.{sorted}
use Rattle.semantics.specs.Histories.{Event, upto, times}
use Rattle.semantics.specs.Programs.{Program, env}
use Rattle.semantics.specs.Results.{results}
use Rattle.semantics.specs.Report.{epoch, line, report}
use Rattle.semantics.specs.Laws.{NeverFalls, Ascends, IsBefore}

-- whether a time is another than this one
abbrev differs : ℕ → ℕ → Bool
differs time other = not (other == time)

-- a filter whose test holds of all keeps all
pub filter_all : {X : Type 0} (test : X → Bool) (xs : List X) → All (λ x. test x ≡ true) xs → filter test xs ≡ xs
filter_all test [] all = refl
filter_all test (x ∷ xs) all =
    let first = All-head (λ x. test x ≡ true) x xs all in
    let rest = filter_all test xs (All-tail (λ x. test x ≡ true) x xs all) in
    ap (λ b. cond b (x ∷ filter test xs) (filter test xs)) first ∙ ap (λ ys. x ∷ ys) rest

-- a filter whose test holds of none keeps none
pub filter_none : {X : Type 0} (test : X → Bool) (xs : List X) → All (λ x. test x ≡ false) xs → filter test xs ≡ []
filter_none test [] all = refl
filter_none test (x ∷ xs) all =
    let first = All-head (λ x. test x ≡ false) x xs all in
    ap (λ b. cond b (x ∷ filter test xs) (filter test xs)) first ∙ filter_none test xs (All-tail (λ x. test x ≡ false) x xs all)

later_differs : (time other : ℕ) → time < other → differs time other ≡ true
later_differs time other lt = grind (arith, nat_tests)

same_differs : (time other : ℕ) → other ≡ time → differs time other ≡ false
same_differs time other e = grind (arith, nat_tests)

differs_later : (time other : ℕ) → time ≤ other → differs time other ≡ true → time < other
differs_later time other le e = grind (arith, nat_tests)

later_is_past : (time other : ℕ) → time < other → nat_le other time ≡ false
later_is_past time other lt = grind (arith, nat_tests)

-- what holds of each event's time holds of each time
times_all : (P : ℕ → Type 0) (history : List Event) → All (λ event. P event.tuple.at) history → All P (times history)
times_all P [] all = All-nil P
times_all P (event ∷ later) all =
    All-cons P event.tuple.at (filter (differs event.tuple.at) (times later)) (All-head (λ event. P event.tuple.at) event later all)
    (All-filter (differs event.tuple.at) P (times later) (times_all P later (All-tail (λ event. P event.tuple.at) event later all)))

-- what a filter keeps ascends where the list does
Ascends-filter : (test : ℕ → Bool) (ts : List ℕ) → Ascends ts → Ascends (filter test ts)
Ascends-filter test [] up = up
Ascends-filter test (t ∷ ts) up =
    elim (test t) as (λ b. Ascends (cond b (t ∷ filter test ts) (filter test ts))) [
      | true ↦ (All-filter test (λ late. t < late) ts up.0, Ascends-filter test ts up.1)
      | false ↦ Ascends-filter test ts up.1
    ]

-- the times that differ from one that is below none of them are above it
above : (time : ℕ) (ts : List ℕ) → All (λ t. time ≤ t) ts → All (λ t. time < t) (filter (differs time) ts)
above time [] all = All-nil (λ t. time < t)
above time (t ∷ ts) all = go (above time ts (All-tail (λ t. time ≤ t) t ts all)) (differs time t) refl
  where
    go : All (λ t. time < t) (filter (differs time) ts) → (b : Bool) → differs time t ≡ b → All (λ t. time < t) (cond b (t ∷ filter (differs time) ts) (filter (differs time) ts))
    go rest true e = All-cons (λ t. time < t) t (filter (differs time) ts) (differs_later time t (All-head (λ t. time ≤ t) t ts all) e) rest
    go rest false e = rest

-- the times of a history ascend
pub times_ascend : (history : List Event) → NeverFalls history → Ascends (times history)
times_ascend [] up = up
times_ascend (event ∷ later) up =
    (above event.tuple.at (times later) (times_all (λ t. event.tuple.at ≤ t) later up.0), Ascends-filter (differs event.tuple.at) (times later) (times_ascend later up.1))

-- the times of a history that grows by later events are the old ones, then those of the later events
pub times-append : (history later : List Event) → IsBefore history later → times (history ++ later) ≡ times history ++ times later
times-append [] later before = refl
times-append (event ∷ history) later before =
    let is_before = λ (early : Event). All (λ (late : Event). early.tuple.at < late.tuple.at) later in
    let rest = times-append history later (All-tail is_before event history before) in
    let apart = All-weaker (λ t. event.tuple.at < t) (λ t. differs event.tuple.at t ≡ true) (later_differs event.tuple.at) (times later) (times_all (λ t. event.tuple.at < t) later (All-head is_before event history before)) in
    ap (λ ts. event.tuple.at ∷ filter (differs event.tuple.at) ts) rest
    ∙ ap (λ ts. event.tuple.at ∷ ts) (filter-append (differs event.tuple.at) (times history) (times later))
    ∙ ap (λ ts. event.tuple.at ∷ (filter (differs event.tuple.at) (times history) ++ ts)) (filter_all (differs event.tuple.at) (times later) apart)

-- events of one time have that time
pub times_of_one : (time : ℕ) (event : Event) (events : List Event) → All (λ event. event.tuple.at ≡ time) (event ∷ events) → times (event ∷ events) ≡ time ∷ []
times_of_one time event events all =
    let first = All-head (λ event. event.tuple.at ≡ time) event events all in
    let same = All-weaker (λ t. t ≡ time) (λ t. differs event.tuple.at t ≡ false) (λ t e. same_differs event.tuple.at t (e ∙ sym first)) (times events) (times_all (λ t. t ≡ time) events (All-tail (λ event. event.tuple.at ≡ time) event events all)) in
    ap (λ ts. event.tuple.at ∷ ts) (filter_none (differs event.tuple.at) (times events) same) ∙ ap (λ t. t ∷ []) first

-- later events are left out
upto_later : (time : ℕ) (history later : List Event) → All (λ event. time < event.tuple.at) later → upto time (history ++ later) ≡ upto time history
upto_later time history later all =
    let none = All-weaker (λ (event : Event). time < event.tuple.at) (λ event. nat_le event.tuple.at time ≡ false) (λ event lt. later_is_past time event.tuple.at lt) later all in
    filter-append (λ event. nat_le event.tuple.at time) history later
    ∙ ap (λ events. upto time history ++ events) (filter_none (λ event. nat_le event.tuple.at time) later none)
    ∙ append-nil (upto time history)

-- the results at a time are unchanged by later events
pub results_stand : (program : Program) (history later : List Event) (stream time : ℕ) → All (λ event. time < event.tuple.at) later → results program (history ++ later) stream time ≡ results program history stream time
results_stand program history later stream time all =
    ap (λ (events : List Event). sorted (filter (λ tuple. tuple.at == time) (env program events stream))) (upto_later time history later all)

-- and so are the lines of an epoch
epoch_stands : (program : Program) (history later : List Event) (time : ℕ) → All (λ event. time < event.tuple.at) later → epoch program (history ++ later) time ≡ epoch program history time
epoch_stands program history later time all =
    ap (λ (events : List Event). flat_map (λ query. flat_map (line query.name) (sorted (filter (λ tuple. tuple.at == time) (env program events query.stream)))) program.queries) (upto_later time history later all)

-- two functions that agree on the items of a list
pub flat_map_same : {X Y : Type 0} (f g : X → List Y) (xs : List X) → All (λ x. f x ≡ g x) xs → flat_map f xs ≡ flat_map g xs
flat_map_same f g [] all = refl
flat_map_same f g (x ∷ xs) all =
    let one = All-head (λ x. f x ≡ g x) x xs all in
    let more = flat_map_same f g xs (All-tail (λ x. f x ≡ g x) x xs all) in
    λ i. one i ++ more i

-- later events add the lines of their epochs
pub report_grows : (program : Program) (history later : List Event) → IsBefore history later → report program (history ++ later) ≡ report program history ++ flat_map (epoch program (history ++ later)) (times later)
report_grows program history later before =
    let whole = epoch program (history ++ later) in
    let same = flat_map_same whole (epoch program history) (times history)
    (All-weaker (λ time. All (λ late. time < late.tuple.at) later) (λ time. whole time ≡ epoch program history time) (λ time. epoch_stands program history later time) (times history)
    (times_all (λ time. All (λ late. time < late.tuple.at) later) history before)) in
    ap (flat_map whole) (times-append history later before)
    ∙ flat_map-append whole (times history) (times later)
    ∙ ap (λ text. text ++ flat_map whole (times later)) same

-- a history below a time is before events of that time
below_is_before : (time : ℕ) (history events : List Event) → All (λ event. event.tuple.at < time) history → All (λ event. event.tuple.at ≡ time) events → IsBefore history events
below_is_before time history events below all =
    All-weaker (λ event. event.tuple.at < time) (λ event. All (λ late. event.tuple.at < late.tuple.at) events)
    (λ event lt. All-weaker (λ late. late.tuple.at ≡ time) (λ late. event.tuple.at < late.tuple.at) (λ late e. step event late lt e) events all) history below
  where
    step : (event late : Event) → event.tuple.at < time → late.tuple.at ≡ time → event.tuple.at < late.tuple.at
    step event late lt e = omega arith

-- events of one later time add the lines of its epoch
pub report_grows_by_epochs : (program : Program) (history events : List Event) (time : ℕ) → All (λ event. event.tuple.at < time) history → All (λ event. event.tuple.at ≡ time) events → 0 < length events
    → report program (history ++ events) ≡ report program history ++ epoch program (history ++ events) time
report_grows_by_epochs program history [] time below all some = absurd (omega arith)
report_grows_by_epochs program history (event ∷ events) time below all some =
    let whole = epoch program (history ++ event ∷ events) in
    report_grows program history (event ∷ events) (below_is_before time history (event ∷ events) below all)
    ∙ ap (λ ts. report program history ++ flat_map whole ts) (times_of_one time event events all)
    ∙ ap (λ text. report program history ++ text) (append-nil (whole time))

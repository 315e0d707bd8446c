-- Tuples whose detections never fall: which of them can't be among the nexts of a binding.
use Rattle.std.proofs.Common.{◌≡◌, ◌∙◌, sym, ap, refl, subst, ℕ, ◌<◌, ◌≤◌, ◌+◌, append-nil, append_assoc, drop, get_or, length, take, nat_le, nat_lt, Bool, true, false, ◌&&◌, cond, List, [], ◌∷◌, ◌++◌, arith}
use Rattle.std.specs.Prelude.{Option, Some, None, slice_get}
use Rattle.std.specs.List.{All, filter}
use Rattle.std.proofs.lemmas.Bool.{le-ltb, lt-leb}
use Rattle.std.proofs.lemmas.Bool.Decides.{nat_tests}
use Rattle.std.proofs.lemmas.List.{get_or-drop, length-drop, take-append-drop}
use Rattle.std.proofs.lemmas.List.Elements.{All-filter, All-head, All-tail, filter-append, filter_more}
use Rattle.std.proofs.lemmas.Option.{get_or_from_slice_get, slice_get_within}
use Rattle.event_types.specs.Tuple.{TupleView}
use Rattle.semantics.specs.Nexts.{is_eligible}
use Rattle.semantics.specs.Scalars.{Pr}
use Rattle.semantics.specs.Truth.{all_true}
use Rattle.semantics.proofs.ListLemmas.{filter-filter}
use Rattle.derivations.specs.DerivedTuples.{DerivedTuple, derived_eligible}
use Rattle.derivations.specs.Earliest.{IsPast, least_at, lesser_of}
use Rattle.derivations.specs.Rising.{Rises}
use Rattle.derivations.proofs.EarliestLemmas.{least_at-push}

not_lt : (m n : ℕ) → n ≤ m → nat_lt m n ≡ false
not_lt m n le = le-ltb m n le

not_le : (m n : ℕ) → n < m → nat_le m n ≡ false
not_le m n lt = lt-leb m n lt

-- where no item passes, none is kept
pub filter_none : {X : Type 0} (test : X → Bool) (xs : List X) → All (λ x. test x ≡ false) xs → filter test xs ≡ []
filter_none test [] all = refl
filter_none {X} test (x ∷ xs) all =
    ap (λ t. cond t (x ∷ filter test xs) (filter test xs)) (All-head (λ (y : X). test y ≡ false) x xs all) ∙ filter_none test xs (All-tail (λ (y : X). test y ≡ false) x xs all)

-- tuples that start by the binding's detection aren't eligible
pub early_not_eligible : (p : List Pr) (b : TupleView) (found : List DerivedTuple) → All (λ (x : DerivedTuple). x.tuple.from ≤ b.at) found → derived_eligible p b found ≡ []
early_not_eligible p b found early =
    filter_none (λ (x : DerivedTuple). is_eligible p b x.tuple) found (λ k d lt. ap (λ t. t && all_true p (get_or found k d).tuple (Some b)) (not_lt b.at (get_or found k d).tuple.from (early k d lt)))

-- nor are they among those that are detected by a time too
pub early_not_by : (p : List Pr) (b : TupleView) (time : ℕ) (found : List DerivedTuple) → All (λ (x : DerivedTuple). x.tuple.from ≤ b.at) found
    → filter (λ (x : DerivedTuple). is_eligible p b x.tuple && nat_le x.tuple.at time) found ≡ []
early_not_by p b time found early =
    sym (filter-filter (λ (x : DerivedTuple). nat_le x.tuple.at time) (λ (x : DerivedTuple). is_eligible p b x.tuple) found) ∙ ap (filter (λ (x : DerivedTuple). nat_le x.tuple.at time)) (early_not_eligible p b found early)

-- all from a place on are detected after a time, where the one at the place is
pub all_after : (found : List DerivedTuple) (i time : ℕ) (x : DerivedTuple) → Rises found → slice_get found i ≡ Some x → time < x.tuple.at → All (λ (y : DerivedTuple). time < y.tuple.at) (drop i found)
all_after found i time x rises is after k d lt =
    let long = length-drop i found in
    let there : i + k < length found = omega (arith, lt, long) in
    let here : x ≡ get_or found i d = sym (get_or_from_slice_get found i x d is) in
    let least : (get_or found i d).tuple.at ≤ (get_or found (i + k) d).tuple.at = rises i (i + k) d (omega arith) there in
    subst (λ (y : DerivedTuple). time < y.tuple.at) (sym (get_or-drop i found k d))
    (let time_is : x.tuple.at ≡ (get_or found i d).tuple.at = ap (λ (y : DerivedTuple). y.tuple.at) here in omega (arith, after, least, time_is))

-- later tuples don't change the least time
least_append : (time : ℕ) (found later : List DerivedTuple) → least_at found ≡ Some time → All (λ (y : DerivedTuple). time < y.tuple.at) later → least_at (found ++ later) ≡ Some time
least_append time found [] is all = ap least_at (append-nil found) ∙ is
least_append time found (y ∷ later) is all =
    ap least_at (sym (append_assoc found (y ∷ []) later))
    ∙ least_append time (found ++ y ∷ []) later
    (least_at-push found y ∙ ap (λ o. Some (lesser_of o y.tuple.at)) is ∙ ap Some (lesser (All-head (λ (z : DerivedTuple). time < z.tuple.at) y later all)))
    (All-tail (λ (z : DerivedTuple). time < z.tuple.at) y later all)
  where
    lesser : time < y.tuple.at → cond (nat_le time y.tuple.at) time y.tuple.at ≡ time
    lesser lt = grind (arith, nat_tests)

-- so the least time of the eligible ones is found before the first that is past it
pub least_stops : (p : List Pr) (b : TupleView) (found : List DerivedTuple) (i : ℕ) (x : DerivedTuple) (first : Option ℕ) → Rises found → slice_get found i ≡ Some x
    → first ≡ least_at (derived_eligible p b (take i found)) → IsPast first x.tuple.at → first ≡ least_at (derived_eligible p b found)
least_stops p b found i x None rises is so past = absurd past
least_stops p b found i x (Some time) rises is so past =
    sym (least_append time (derived_eligible p b (take i found)) (derived_eligible p b (drop i found)) (sym so)
    (All-filter (λ (y : DerivedTuple). is_eligible p b y.tuple) (λ (y : DerivedTuple). time < y.tuple.at) (drop i found) (all_after found i time x rises is past)))
    ∙ ap least_at (sym (filter-append (λ (y : DerivedTuple). is_eligible p b y.tuple) (take i found) (drop i found)) ∙ ap (derived_eligible p b) (take-append-drop i found))

-- and those that are detected by a time stand before the first that isn't
pub by_stops : (p : List Pr) (b : TupleView) (found : List DerivedTuple) (i time : ℕ) (x : DerivedTuple) → Rises found → slice_get found i ≡ Some x → time < x.tuple.at
    → filter (λ (y : DerivedTuple). is_eligible p b y.tuple && nat_le y.tuple.at time) (take i found) ≡ filter (λ (y : DerivedTuple). is_eligible p b y.tuple && nat_le y.tuple.at time) found
by_stops p b found i time x rises is after =
    sym (append-nil (filter test (take i found))) ∙ ap (λ ys. filter test (take i found) ++ ys) (sym (filter_none test (drop i found) none))
    ∙ sym (filter-append test (take i found) (drop i found)) ∙ ap (filter test) (take-append-drop i found)
  where
    test : DerivedTuple → Bool
    test y = is_eligible p b y.tuple && nat_le y.tuple.at time

    and_false : (t : Bool) → (t && false) ≡ false
    and_false true = refl
    and_false false = refl

    none : All (λ (y : DerivedTuple). test y ≡ false) (drop i found)
    none k d lt =
        ap (λ t. is_eligible p b (get_or (drop i found) k d).tuple && t) (not_le (get_or (drop i found) k d).tuple.at time (all_after found i time x rises is after k d lt))
        ∙ and_false (is_eligible p b (get_or (drop i found) k d).tuple)

-- one more of them is kept where it is eligible and detected by the time
pub by_step : (p : List Pr) (b : TupleView) (found : List DerivedTuple) (i time : ℕ) (x : DerivedTuple) (is_next : Bool) (nexts more : List DerivedTuple) → slice_get found i ≡ Some x
    → is_next ≡ (is_eligible p b x.tuple && nat_le x.tuple.at time) → nexts ≡ filter (λ (y : DerivedTuple). is_eligible p b y.tuple && nat_le y.tuple.at time) (take i found)
    → more ≡ nexts ++ cond is_next (x ∷ []) [] → more ≡ filter (λ (y : DerivedTuple). is_eligible p b y.tuple && nat_le y.tuple.at time) (take (i + 1) found)
by_step p b found i time x is_next nexts more at is so one =
    one ∙ (λ j. so j ++ cond (is j) (x ∷ []) [])
    ∙ sym (filter_more test found i x (slice_get_within found i x at) ∙ ap (λ y. filter test (take i found) ++ cond (test y) (y ∷ []) []) (get_or_from_slice_get found i x x at))
  where
    test : DerivedTuple → Bool
    test y = is_eligible p b y.tuple && nat_le y.tuple.at time

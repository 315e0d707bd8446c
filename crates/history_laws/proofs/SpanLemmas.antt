-- What a limit on DUR says of the spans of what is denoted.
use Rattle.std.proofs.Common.{◌≡◌, sym, refl, subst, ℕ, zero, suc, pos, ◌+◌, ◌<◌, ◌≤◌, ◌-ℤ◌, ◌==◌, ◌⊎◌, inl, inr, Bool, true, false, ◌&&◌, cond, nat_le, nat_lt, length, List, [], ◌∷◌, arith}
use Rattle.std.specs.Prelude.{None, Option, Some, int_lt}
use Rattle.std.specs.List.{All, filter}
use Rattle.std.specs.Ordering.{int_cmp, is_le}
use Rattle.std.specs.declared.cmp.Ordering.TheVariants.{Less, Equal, Greater}
use Rattle.std.proofs.lemmas.Bool.Decides.{nat_tests}
use Rattle.std.proofs.lemmas.Int.{ints}
use Rattle.std.proofs.lemmas.List.Elements.{All-append, All-contains, All-cons, All-filter, All-head, All-map, All-nil, All-tail, All-weaker, filter_passes}
use Rattle.std.proofs.lemmas.List.Sorted.{All-permutation, IsPermutation-sym}
use Rattle.std.proofs.lemmas.List.Sums.{AllPass-from_list_all}
use Rattle.event_types.specs.declared.comparison.Cmp.TheVariants as cmp
use Rattle.event_types.specs.declared.value.Value.TheVariants as value
use Rattle.event_types.specs.Order.{tuple_cmp}
use Rattle.event_types.specs.OrderLaws.{tuple_total}
use Rattle.event_types.specs.Tuple.{TupleView}
use Rattle.event_types.proofs.NumberLemmas.{same_number}
use Rattle.event_types.proofs.SortLemmas.{sort_permutes}
use Rattle.semantics.specs.Births.{is_after, streams_after}
use Rattle.semantics.specs.Denotation.{Streams, denote, joined, matches, selected}
use Rattle.semantics.specs.Expressions.{Ex, Read, Filter, Select, Union, Next, Fold}
use Rattle.semantics.specs.Histories.{Event, heard_on, upto}
use Rattle.semantics.specs.Nexts.{is_earliest, is_eligible, nexts}
use Rattle.semantics.specs.Programs.{Program, Query, declared_streams, env, published, with_stream}
use Rattle.semantics.specs.Results.{results}
use Rattle.semantics.specs.Runs.{goers, rebound, runs, runs_within}
use Rattle.semantics.specs.Scalars.{Pr, Sc, Test, Lit, Dur}
use Rattle.semantics.specs.Truth.{all_true, truth}
use Rattle.semantics.specs.Values.{span_start}
use Rattle.semantics.proofs.ListLemmas.{All-flat_map, every}
use Rattle.history_laws.specs.LateStarts.{SpansAtMost}
use Rattle.history_laws.specs.Spans.{AreLimited, HeardSpanAtMost, IsLimited, LimitsSpan}
use Rattle.history_laws.proofs.StreamLemmas.{heard_on-upto}

-- a span that is less than a number, and one that isn't more
less_within : (at start most span : ℕ) → most ≤ span → int_lt (pos at -ℤ pos start) (pos most) ≡ true → at ≤ start + span
less_within at start most span le e = grind (arith, ints)

not_more_within : (at start most span : ℕ) → most ≤ span → int_lt (pos most) (pos at -ℤ pos start) ≡ false → at ≤ start + span
not_more_within at start most span le e = grind (arith, ints)

at_most_within : (at start most span : ℕ) → most ≤ span → is_le (int_cmp (pos at -ℤ pos start) (pos most)) ≡ true → at ≤ start + span
at_most_within at start most span le e = go (int_lt (pos at -ℤ pos start) (pos most)) refl (int_lt (pos most) (pos at -ℤ pos start)) refl e
  where
    go : (b : Bool) → int_lt (pos at -ℤ pos start) (pos most) ≡ b → (c : Bool) → int_lt (pos most) (pos at -ℤ pos start) ≡ c → is_le (cond b Less (cond c Greater Equal)) ≡ true → at ≤ start + span
    go true is c more e = less_within at start most span le is
    go false is true more e = absurd (cc)
    go false is false more e = not_more_within at start most span le more

-- where a condition that limits the span holds, the event is detected within it
limit_met : (span : ℕ) (p : List Pr) → LimitsSpan span p → (event : TupleView) (binding : Option TupleView) → all_true p event binding ≡ true → event.at ≤ span_start event binding + span
limit_met span p (most, le, there) event binding e =
    at_most_within event.at (span_start event binding) most span le
    (All-contains (λ c. truth c event binding ≡ true) p (Test Dur cmp.Le (Lit (value.Int (pos most)))) (AllPass-from_list_all (λ c. truth c event binding) p e) there)

second_true : (x y : Bool) → (x && y) ≡ true → y ≡ true
second_true true y e = e
second_true false y e = absurd (cc)

-- each of the nexts meets the condition
nexts_meet : (p : List Pr) (b : TupleView) (rs : List TupleView) → All (λ r. all_true p r (Some b) ≡ true) (nexts p b rs)
nexts_meet p b rs =
    All-filter (is_earliest (filter (is_eligible p b) rs)) (λ r. all_true p r (Some b) ≡ true) (filter (is_eligible p b) rs)
    (All-weaker (λ r. is_eligible p b r ≡ true) (λ r. all_true p r (Some b) ≡ true) (λ r e. second_true (nat_lt b.at r.from) (all_true p r (Some b)) e) (filter (is_eligible p b) rs) (filter_passes (is_eligible p b) rs))

matches_span : (span : ℕ) (p : List Pr) → LimitsSpan span p → (rs : List TupleView) (b : TupleView) → All (SpansAtMost span) (matches p rs b)
matches_span span p limits rs b =
    All-map (SpansAtMost span) (joined b) (nexts p b rs)
    (All-weaker (λ r. all_true p r (Some b) ≡ true) (λ r. SpansAtMost span (joined b r)) (λ r e. limit_met span p limits r (Some b) e) (nexts p b rs) (nexts_meet p b rs))

-- each goer meets both conditions
goer_within : (span : ℕ) (p q : List Pr) → LimitsSpan span p ⊎ LimitsSpan span q → (rs : List TupleView) (b : TupleView) → All (λ r. r.at ≤ b.from + span) (goers p q rs b)
goer_within span p q (inl limits) rs b =
    All-filter (λ r. all_true q r (Some b)) (λ r. r.at ≤ b.from + span) (nexts p b rs)
    (All-weaker (λ r. all_true p r (Some b) ≡ true) (λ r. r.at ≤ b.from + span) (λ r e. limit_met span p limits r (Some b) e) (nexts p b rs) (nexts_meet p b rs))
goer_within span p q (inr limits) rs b =
    All-weaker (λ r. all_true q r (Some b) ≡ true) (λ r. r.at ≤ b.from + span) (λ r e. limit_met span q limits r (Some b) e) (goers p q rs b) (filter_passes (λ r. all_true q r (Some b)) (nexts p b rs))

-- so do the runs, by induction on their length
runs_span : (span : ℕ) (p q : List Pr) → LimitsSpan span p ⊎ LimitsSpan span q → (m : List Sc) (rs : List TupleView) (n : ℕ) (b : TupleView) → All (SpansAtMost span) (runs_within n p q m rs b)
runs_span span p q limits m rs zero b = All-nil (SpansAtMost span)
runs_span span p q limits m rs (suc n) b =
    All-flat_map (SpansAtMost span) (λ r. rebound m b r ∷ runs_within n p q m rs (rebound m b r)) (goers p q rs b)
    (All-weaker (λ r. r.at ≤ b.from + span) (λ r. All (SpansAtMost span) (rebound m b r ∷ runs_within n p q m rs (rebound m b r)))
    (λ r within. All-cons (SpansAtMost span) (rebound m b r) (runs_within n p q m rs (rebound m b r)) within (runs_span span p q limits m rs n (rebound m b r)))
    (goers p q rs b) (goer_within span p q limits rs b))

-- each limited stream spans at most so much
abbrev AreWithin : ℕ → (ℕ → Bool) → Streams → Type 0
AreWithin span is_limited streams = (stream : ℕ) → is_limited stream ≡ true → All (SpansAtMost span) (streams stream)

-- what a limited expression denotes, by induction on it
denoted_span : (span : ℕ) (is_limited : ℕ → Bool) (streams : Streams) → AreWithin span is_limited streams → (e : Ex) → IsLimited span is_limited e → All (SpansAtMost span) (denote e streams)
denoted_span span is_limited streams within (Read stream) limited = within stream limited
denoted_span span is_limited streams within (Filter p e) (inl limits) =
    All-weaker (λ t. all_true p t None ≡ true) (SpansAtMost span) (λ t holds. limit_met span p limits t None holds) (filter (λ t. all_true p t None) (denote e streams)) (filter_passes (λ t. all_true p t None) (denote e streams))
denoted_span span is_limited streams within (Filter p e) (inr limited) =
    All-filter (λ t. all_true p t None) (SpansAtMost span) (denote e streams) (denoted_span span is_limited streams within e limited)
denoted_span span is_limited streams within (Select m e) limited = All-map (SpansAtMost span) (selected m.parts) (denote e streams) (denoted_span span is_limited streams within e limited)
denoted_span span is_limited streams within (Union e f) limited =
    All-append (SpansAtMost span) (denote e streams) (denote f streams) (denoted_span span is_limited streams within e limited.0) (denoted_span span is_limited streams within f limited.1)
denoted_span span is_limited streams within (Next p e f) limits =
    All-flat_map (SpansAtMost span) (matches p (denote f streams)) (denote e streams) (every (λ b. All (SpansAtMost span) (matches p (denote f streams) b)) (matches_span span p limits (denote f streams)) (denote e streams))
denoted_span span is_limited streams within (Fold p q m e f) limits =
    All-flat_map (SpansAtMost span) (runs p q m.parts (denote f streams)) (denote e streams)
    (every (λ b. All (SpansAtMost span) (runs p q m.parts (denote f streams) b)) (runs_span span p q limits m.parts (denote f streams) (length (denote f streams))) (denote e streams))

-- a stream that is put at a number
with_within : (span : ℕ) (is_limited : ℕ → Bool) (streams : Streams) → AreWithin span is_limited streams → (number : ℕ) (tuples : List TupleView) → (is_limited number ≡ true → All (SpansAtMost span) tuples) → AreWithin span is_limited (with_stream streams number tuples)
with_within span is_limited streams within number tuples all stream limited = go (stream == number) refl
  where
    go : (b : Bool) → (stream == number) ≡ b → All (SpansAtMost span) (cond b tuples (streams stream))
    go true is = all (subst (λ (s : ℕ). is_limited s ≡ true) (same_number stream number is) limited)
    go false is = within stream limited

-- streams that are cut at a birth
after_within : (span : ℕ) (is_limited : ℕ → Bool) (birth : Option ℕ) (streams : Streams) → AreWithin span is_limited streams → AreWithin span is_limited (streams_after birth streams)
after_within span is_limited birth streams within stream limited = All-filter (λ tuple. is_after birth tuple.at) (SpansAtMost span) (streams stream) (within stream limited)

-- the streams of a program, by induction on the queries
published_within : (span : ℕ) (is_limited : ℕ → Bool) (order : List Query) → All (λ query. is_limited query.stream ≡ true → IsLimited span is_limited query.expr) order
    → (streams : Streams) → AreWithin span is_limited streams → AreWithin span is_limited (published streams order)
published_within span is_limited [] all streams within = within
published_within span is_limited (query ∷ order) all streams within =
    published_within span is_limited order (All-tail (λ q. is_limited q.stream ≡ true → IsLimited span is_limited q.expr) query order all) (with_stream streams query.stream (denote query.expr (streams_after query.birth streams)))
    (with_within span is_limited streams within query.stream (denote query.expr (streams_after query.birth streams))
    (λ limited. denoted_span span is_limited (streams_after query.birth streams) (after_within span is_limited query.birth streams within) query.expr (All-head (λ q. is_limited q.stream ≡ true → IsLimited span is_limited q.expr) query order all limited)))

below : (stream declared : ℕ) → nat_lt stream declared ≡ true → stream < declared
below stream declared is = grind (arith, nat_tests)

-- and so the results
pub results_span : (program : Program) (history : List Event) (span : ℕ) (is_limited : ℕ → Bool) → HeardSpanAtMost span is_limited program.declared history → AreLimited span is_limited program
    → (stream time : ℕ) → is_limited stream ≡ true → All (SpansAtMost span) (results program history stream time)
results_span program history span is_limited heard limited stream time is =
    All-permutation (SpansAtMost span) (filter (λ (tuple : TupleView). tuple.at == time) (env program (upto time history) stream)) (results program history stream time)
    (IsPermutation-sym (results program history stream time) (filter (λ (tuple : TupleView). tuple.at == time) (env program (upto time history) stream)) (sort_permutes tuple_cmp tuple_total (filter (λ (tuple : TupleView). tuple.at == time) (env program (upto time history) stream))))
    (All-filter (λ (tuple : TupleView). tuple.at == time) (SpansAtMost span) (env program (upto time history) stream)
    (published_within span is_limited program.order limited (declared_streams program.declared (upto time history)) declared stream is))
  where
    declared : AreWithin span is_limited (declared_streams program.declared (upto time history))
    declared s limits = go (nat_lt s program.declared) refl
      where
        go : (b : Bool) → nat_lt s program.declared ≡ b → All (SpansAtMost span) (cond b (heard_on (upto time history) s) [])
        go true is =
            subst (All (SpansAtMost span)) (sym (heard_on-upto time s history)) (All-filter (λ (tuple : TupleView). nat_le tuple.at time) (SpansAtMost span) (heard_on history s) (heard s (below s program.declared is) limits))
        go false is = All-nil (SpansAtMost span)

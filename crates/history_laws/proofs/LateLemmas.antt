-- What starts late is made of what starts late.
use Rattle.std.proofs.Common.{◌≡◌, ◌∙◌, sym, ap, refl, ℕ, ◌+◌, ◌<◌, ◌≤◌, ◌==◌, Bool, true, false, cond, get_or, nat_le, nat_lt, List, [], ◌++◌, map, arith}
use Rattle.std.specs.Prelude.{None}
use Rattle.std.specs.List.{All, filter, flat_map}
use Rattle.std.proofs.lemmas.Bool.Decides.{nat_tests}
use Rattle.std.proofs.lemmas.List.Elements.{filter-append}
use Rattle.event_types.specs.Order.{sorted}
use Rattle.event_types.specs.Tuple.{IsSound, TupleView}
use Rattle.semantics.specs.Denotation.{Streams, denote, matches, selected}
use Rattle.semantics.specs.Expressions.{Ex, Read, Filter, Select, Union, Next, Fold}
use Rattle.semantics.specs.Histories.{Event, heard_on, upto}
use Rattle.semantics.specs.Nexts.{is_eligible}
use Rattle.semantics.specs.Programs.{Program, declared_streams, published}
use Rattle.semantics.specs.Results.{results}
use Rattle.semantics.specs.Runs.{runs}
use Rattle.semantics.specs.Scalars.{Pr}
use Rattle.semantics.specs.Truth.{all_true}
use Rattle.semantics.proofs.ListLemmas.{every, filter_swap, filter-map}
use Rattle.semantics.proofs.ReportLemmas.{filter_all}
use Rattle.algebra.proofs.SoundLemmas.{denote_sound}
use Rattle.history_laws.specs.LateStarts.{AreSound, HearTheSameFrom, SpansAtMost, is_late, late}
use Rattle.history_laws.proofs.SiftLemmas.{eligible_later, matches_sifted, runs_sifted}
use Rattle.history_laws.proofs.StreamLemmas.{AllSound, Commutes, Sift, heard_on-upto, results_now, results_sifted, sifted}

-- what is eligible for a late binding is late
late_follows : (start : ℕ) (p : List Pr) (b r : TupleView) → IsSound b → is_late start b ≡ true → is_eligible p b r ≡ true → is_late start r ≡ true
late_follows start p b r sound late_too e = let later = eligible_later p b r e in grind (arith, nat_tests)

-- the late tuples that an expression denotes are those over the late tuples, by induction on it
pub late_denoted : (start : ℕ) (e : Ex) (streams : Streams) → AllSound streams → late start (denote e streams) ≡ denote e (λ stream. late start (streams stream))
late_denoted start (Read stream) streams all = refl
late_denoted start (Filter p e) streams all =
    filter_swap (is_late start) (λ (t : TupleView). all_true p t None) (denote e streams) ∙ ap (filter (λ (t : TupleView). all_true p t None)) (late_denoted start e streams all)
late_denoted start (Select m e) streams all =
    filter-map (is_late start) (selected m.parts) (denote e streams) ∙ ap (map (selected m.parts)) (late_denoted start e streams all)
late_denoted start (Union e f) streams all =
    filter-append (is_late start) (denote e streams) (denote f streams) ∙ (λ i. late_denoted start e streams all i ++ late_denoted start f streams all i)
late_denoted start (Next p e f) streams all =
    matches_sifted (is_late start) (is_late start) p (late_follows start p) (λ b r is. refl) (denote e streams) (denote f streams) (denote_sound streams all e)
    ∙ (λ i. flat_map (matches p (late_denoted start f streams all i)) (late_denoted start e streams all i))
late_denoted start (Fold p q m e f) streams all =
    runs_sifted (is_late start) (is_late start) p (late_follows start p) q m.parts (λ b r is. refl) (denote e streams) (denote f streams) (denote_sound streams all e) (denote_sound streams all f)
    ∙ (λ i. flat_map (runs p q m.parts (late_denoted start f streams all i)) (late_denoted start e streams all i))

-- a number that tests below another is below it
pub below : (stream declared : ℕ) → nat_lt stream declared ≡ true → stream < declared
below stream declared is = grind (arith, nat_tests)

-- results that start late depend on events that start late
pub late_results : (program : Program) (history others : List Event) (start : ℕ) → AreSound history → AreSound others → HearTheSameFrom start program.declared history others
    → (stream time : ℕ) → late start (results program history stream time) ≡ late start (results program others stream time)
late_results program history others start sound others_sound hear stream time =
    results_sifted keep program all history sound stream time
    ∙ ap (λ (s : Streams). sorted (filter (λ tuple. tuple.at == time) (published s program.order stream))) same
    ∙ sym (results_sifted keep program all others others_sound stream time)
  where
    keep : Sift
    keep s = is_late start

    all : All (Commutes keep) program.order
    all = every (Commutes keep) (λ query streams sound. late_denoted start query.expr streams sound) program.order

    early : (history : List Event) (s : ℕ) → late start (heard_on (upto time history) s) ≡ filter (λ tuple. nat_le tuple.at time) (late start (heard_on history s))
    early history s = ap (late start) (heard_on-upto time s history) ∙ filter_swap (is_late start) (λ (tuple : TupleView). nat_le tuple.at time) (heard_on history s)

    on : (s : ℕ) (b : Bool) → nat_lt s program.declared ≡ b → late start (cond b (heard_on (upto time history) s) []) ≡ late start (cond b (heard_on (upto time others) s) [])
    on s true is = early history s ∙ ap (filter (λ (tuple : TupleView). nat_le tuple.at time)) (hear s (below s program.declared is)) ∙ sym (early others s)
    on s false is = refl

    same : sifted keep (declared_streams program.declared (upto time history)) ≡ sifted keep (declared_streams program.declared (upto time others))
    same i s = on s (nat_lt s program.declared) refl i

-- a result that spans no more than has passed is late
is_late_by_then : (start span time : ℕ) → start + span ≤ time → (t : TupleView) → (t.at == time) ≡ true → t.at ≤ t.from + span → is_late start t ≡ true
is_late_by_then start span time passed t now spans = grind (arith, nat_tests)

all_late : (program : Program) (history : List Event) (start span stream time : ℕ) → start + span ≤ time → All (SpansAtMost span) (results program history stream time)
    → late start (results program history stream time) ≡ results program history stream time
all_late program history start span stream time passed spans =
    filter_all (is_late start) (results program history stream time) (λ k d lt. is_late_by_then start span time passed (get_or (results program history stream time) k d) (results_now program history stream time k d lt) (spans k d lt))

-- then all results are those of a history with the same late events
pub results_stand : (program : Program) (history others : List Event) (start span : ℕ) → AreSound history → AreSound others → HearTheSameFrom start program.declared history others
    → (stream time : ℕ) → start + span ≤ time → All (SpansAtMost span) (results program history stream time) → All (SpansAtMost span) (results program others stream time)
    → results program history stream time ≡ results program others stream time
results_stand program history others start span sound others_sound hear stream time passed spans others_span =
    sym (all_late program history start span stream time passed spans) ∙ late_results program history others start sound others_sound hear stream time ∙ all_late program others start span stream time passed others_span

-- The report of the same events in another order.
use Rattle.std.proofs.Common.{◌≡◌, ◌∙◌, sym, ap, refl, ℕ, ◌<◌, ◌≤◌, ◌==◌, Bool, not, nat_le, false, cond, List, [], ◌∷◌, map, arith}
use Rattle.std.specs.List.{filter, flat_map}
use Rattle.std.specs.List.Sorted.{IsPermutation}
use Rattle.std.specs.Ordering.{is_gt, nat_cmp}
use Rattle.std.proofs.lemmas.Cmp.{by_ranked, nat_cmp_total, ranked}
use Rattle.std.proofs.lemmas.List.Elements.{All-head}
use Rattle.std.proofs.lemmas.List.Sorted.{IsPermutation-map}
use Rattle.std.proofs.lemmas.Map.Lookups.{exact_unsigned}
use Rattle.event_types.specs.Order.{put, sort_by, tuple_cmp}
use Rattle.event_types.specs.OrderLaws.{tuple_exact, tuple_total}
use Rattle.event_types.specs.Tuple.{TupleView}
use Rattle.event_types.proofs.SortLemmas.{sort_permuted}
use Rattle.semantics.specs.Histories.{Event, times, upto}
use Rattle.semantics.specs.Laws.{NeverFalls}
use Rattle.semantics.specs.Programs.{Program, Query, declared_streams, env}
use Rattle.semantics.specs.Report.{epoch, line, lines_at, report}
use Rattle.semantics.specs.Results.{results}
use Rattle.scalar_expr.proofs.Bags.{filter_permuted, flat_map_each}
use Rattle.history_laws.specs.Epochs.{AreReorderedWithinEpochs}
use Rattle.history_laws.proofs.BagLemmas.{heard_permuted, published_permuted}

-- the results of a bag of events
pub results_permuted : (program : Program) (history others : List Event) → IsPermutation history others → (stream time : ℕ) → results program history stream time ≡ results program others stream time
results_permuted program history others h stream time =
    sort_permuted tuple_cmp tuple_total tuple_exact (filter now (env program (upto time history) stream)) (filter now (env program (upto time others) stream))
    (filter_permuted now (env program (upto time history) stream) (env program (upto time others) stream)
    (published_permuted (declared_streams program.declared (upto time history)) (declared_streams program.declared (upto time others))
    (heard_permuted program.declared (upto time history) (upto time others) (filter_permuted (λ event. nat_le event.tuple.at time) history others h)) program.order stream))
  where
    now : TupleView → Bool
    now tuple = tuple.at == time

-- the detection time of an event
abbrev at_of : Event → ℕ
at_of event = event.tuple.at

-- numbers, each where it comes first
abbrev each_once : List ℕ → List ℕ
each_once [] = []
each_once (t ∷ ts) = t ∷ filter (λ time. not (time == t)) (each_once ts)

times-each_once : (history : List Event) → times history ≡ each_once (map at_of history)
times-each_once [] = refl
times-each_once (event ∷ later) = ap (λ ts. event.tuple.at ∷ filter (λ time. not (time == event.tuple.at)) ts) (times-each_once later)

not_above : (m n : ℕ) → m ≤ n → is_gt (nat_cmp m n) ≡ false
not_above m n le =
    by_ranked (m < n) (m ≡ n) (n < m) (nat_cmp m n) (ranked m n (nat_cmp m n) refl) (λ e _. ap is_gt e) (λ e _. ap is_gt e) (λ e above. absurd (omega arith))

put_first : (m n : ℕ) (ns : List ℕ) → m ≤ n → put nat_cmp m (n ∷ ns) ≡ m ∷ n ∷ ns
put_first m n ns le = ap (λ b. cond b (n ∷ put nat_cmp m ns) (m ∷ n ∷ ns)) (not_above m n le)

-- detection times that never fall are sorted, by induction on the events
in_place : (history : List Event) → NeverFalls history → sort_by nat_cmp (map at_of history) ≡ map at_of history
in_place [] up = refl
in_place (event ∷ []) up = refl
in_place (event ∷ next ∷ later) up =
    ap (put nat_cmp event.tuple.at) (in_place (next ∷ later) up.1) ∙ put_first event.tuple.at next.tuple.at (map at_of later) (All-head (λ late. event.tuple.at ≤ late.tuple.at) next later up.0)

-- so histories of the same events have the same times
pub times_permuted : (history others : List Event) → AreReorderedWithinEpochs history others → times history ≡ times others
times_permuted history others same =
    times-each_once history
    ∙ ap each_once (sym (in_place history same.in_order) ∙ sort_permuted nat_cmp nat_cmp_total exact_unsigned (map at_of history) (map at_of others) (IsPermutation-map at_of history others same.same_events) ∙ in_place others same.others_in_order)
    ∙ sym (times-each_once others)

-- the lines of an epoch
epoch_permuted : (program : Program) (history others : List Event) → IsPermutation history others → (time : ℕ) → epoch program history time ≡ epoch program others time
epoch_permuted program history others h time =
    flat_map_each (lines_at program history time) (lines_at program others time) (λ (query : Query). ap (flat_map (line query.name)) (results_permuted program history others h query.stream time)) program.queries

-- and the report
pub report_permuted : (program : Program) (history others : List Event) → AreReorderedWithinEpochs history others → report program history ≡ report program others
report_permuted program history others same =
    flat_map_each (epoch program history) (epoch program others) (epoch_permuted program history others same.same_events) (times history) ∙ ap (flat_map (epoch program others)) (times_permuted history others same)

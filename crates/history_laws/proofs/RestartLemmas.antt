-- The report of a history that lacks its beginning.
use Rattle.std.proofs.Common.{◌≡◌, ◌∙◌, sym, ap, refl, ℕ, ◌+◌, ◌<◌, ◌≤◌, ◌==◌, Bool, true, false, not, ◌&&◌, cond, get_or, nat_le, List, [], ◌∷◌, ◌++◌, map, arith}
use Rattle.std.specs.List.{All, filter, flat_map}
use Rattle.std.proofs.lemmas.Bool.Decides.{nat_tests}
use Rattle.std.proofs.lemmas.List.{map-append}
use Rattle.std.proofs.lemmas.List.Elements.{All-filter, All-head, All-map, All-tail, All-weaker, filter-append, filter_agree, filter_passes}
use Rattle.event_types.specs.Tuple.{IsSound}
use Rattle.semantics.specs.Histories.{Event, heard_on, times}
use Rattle.semantics.specs.Programs.{Program, Query}
use Rattle.semantics.specs.Report.{epoch, line, lines_at}
use Rattle.semantics.specs.Results.{results}
use Rattle.semantics.proofs.ListLemmas.{All-left, All-right, filter-filter}
use Rattle.semantics.proofs.ReportLemmas.{filter_none, flat_map_same}
use Rattle.history_laws.specs.LateStarts.{AreSound, HearTheSameFrom, ResultsSpanAtMost, SpansAtMost, is_late, late, report_from}
use Rattle.history_laws.proofs.LateLemmas.{results_stand}
use Rattle.history_laws.proofs.SiftLemmas.{absorbed}

early_is_not_late : (start from at : ℕ) → from ≤ at → at < start → nat_le start from ≡ false
early_is_not_late start from at sound early = grind (arith, nat_tests)

-- what was heard before the time isn't late
pub past_hears : (start declared : ℕ) (past history : List Event) → AreSound past → All (λ event. event.tuple.at < start) past → HearTheSameFrom start declared (past ++ history) history
past_hears start declared past history sound early stream lt =
    ap (λ (events : List Event). late start (map (λ event. event.tuple) events)) (filter-append on past history)
    ∙ ap (late start) (map-append (λ (event : Event). event.tuple) (filter on past) (filter on history))
    ∙ filter-append (is_late start) (heard_on past stream) (heard_on history stream)
    ∙ ap (λ ts. ts ++ late start (heard_on history stream)) none
  where
    on : Event → Bool
    on event = event.stream == stream

    none : late start (heard_on past stream) ≡ []
    none =
        filter_none (is_late start) (heard_on past stream)
        (All-map (λ t. is_late start t ≡ false) (λ (event : Event). event.tuple) (filter on past)
        (All-filter on (λ event. is_late start event.tuple ≡ false) past (λ k d within. early_is_not_late start _ _ (sound k d within) (early k d within))))

early_differs : (from time other : ℕ) → time < from → nat_le from other ≡ true → not (other == time) ≡ true
early_differs from time other early is = grind (arith, nat_tests)

early_not_from : (from time : ℕ) → time < from → nat_le from time ≡ false
early_not_from from time early = grind (arith, nat_tests)

-- the times from one on are those of the later events, by induction on the earlier ones
times_from : (from : ℕ) (past history : List Event) → All (λ event. event.tuple.at < from) past → filter (λ time. nat_le from time) (times (past ++ history)) ≡ filter (λ time. nat_le from time) (times history)
times_from from [] history early = refl
times_from from (event ∷ past) history early =
    let first : event.tuple.at < from = All-head (λ event. event.tuple.at < from) event past early in
    let differs : ℕ → Bool = λ time. not (time == event.tuple.at) in
    let is_then : ℕ → Bool = λ time. nat_le from time in
    let later = times (past ++ history) in
    ap (λ b. cond b (event.tuple.at ∷ filter is_then (filter differs later)) (filter is_then (filter differs later))) (early_not_from from event.tuple.at first)
    ∙ filter-filter is_then differs later
    ∙ sym (filter_agree is_then (λ time. differs time && is_then time) (λ time. absorbed (is_then time) (differs time) (early_differs from event.tuple.at time first)) later)
    ∙ times_from from past history (All-tail (λ event. event.tuple.at < from) event past early)

-- the report from the time on, once the span has passed
pub report_stands : (program : Program) (past history : List Event) (start span : ℕ) → AreSound (past ++ history) → All (λ event. event.tuple.at < start) past
    → ResultsSpanAtMost span program (past ++ history) (start + span) → ResultsSpanAtMost span program history (start + span)
    → report_from (start + span) program (past ++ history) ≡ report_from (start + span) program history
report_stands program past history start span sound early spans others_span =
    ap (flat_map (epoch program (past ++ history))) (times_from (start + span) past history (All-weaker (λ event. event.tuple.at < start) (λ event. event.tuple.at < start + span) (λ event lt. omega arith) past early))
    ∙ flat_map_same (epoch program (past ++ history)) (epoch program history) (filter is_then (times history)) (All-weaker (λ time. is_then time ≡ true) (λ time. epoch program (past ++ history) time ≡ epoch program history time) one (filter is_then (times history)) (filter_passes is_then (times history)))
  where
    is_then : ℕ → Bool
    is_then = nat_le (start + span)

    passed : (time : ℕ) → is_then time ≡ true → start + span ≤ time
    passed time is = grind (arith, nat_tests)

    one : (time : ℕ) → is_then time ≡ true → epoch program (past ++ history) time ≡ epoch program history time
    one time is = flat_map_same (lines_at program (past ++ history) time) (lines_at program history time) program.queries (λ k d lt. of_query (get_or program.queries k d) (spans k d lt) (others_span k d lt))
      where
        of_query : (query : Query) → ((time : ℕ) → start + span ≤ time → All (SpansAtMost span) (results program (past ++ history) query.stream time)) → ((time : ℕ) → start + span ≤ time → All (SpansAtMost span) (results program history query.stream time)) → lines_at program (past ++ history) time query ≡ lines_at program history time query
        of_query query own_spans other_spans =
            ap (flat_map (line query.name)) (results_stand program (past ++ history) history start span sound (All-right (λ event. IsSound event.tuple) past history sound)
            (past_hears start program.declared past history (All-left (λ event. IsSound event.tuple) past history sound) early) query.stream time (passed time is) (own_spans time (passed time is)) (other_spans time (passed time is)))

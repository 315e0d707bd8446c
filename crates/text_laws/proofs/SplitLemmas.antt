-- Whole event texts whose lines are reordered, cut or split by a key.
use Rattle.std.proofs.Common.{◌≡◌, ◌∙◌, sym, ap, refl, subst, ℕ, ◌+◌, ◌<◌, Bool, true, false, cond, length, List, [], ◌∷◌, ◌++◌}
use Rattle.std.specs.Prelude.{Option, None, Result, Ok, Err}
use Rattle.std.specs.List.{All, filter, flat_map}
use Rattle.std.proofs.Math.Seq.{drop-append_seam}
use Rattle.std.proofs.lemmas.Grind.{flat_map-append}
use Rattle.std.proofs.lemmas.List.{map-append}
use Rattle.std.proofs.lemmas.List.Elements.{All-cons, All-drop, All-filter, All-nil, All-weaker, filter-append}
use Rattle.event_types.specs.declared.value.Value.{Value}
use Rattle.semantics.specs.Histories.{Event}
use Rattle.semantics.specs.Laws.{NeverFalls}
use Rattle.semantics.specs.Programs.{Query}
use Rattle.semantics.specs.Report.{line, lines_at}
use Rattle.semantics.specs.Results.{results}
use Rattle.semantics.specs.Values.{value_at}
use Rattle.semantics.proofs.ListLemmas.{All-flat_map, every}
use Rattle.stream_schema.specs.Streams.{Entry}
use Rattle.scalar_expr.proofs.Bags.{flat_map_permuted, permuted_from, permuted_to}
use Rattle.event_csv.specs.declared.event.Seen.{Seen}
use Rattle.event_csv.specs.declared.fault.LineFault.{LineFault}
use Rattle.event_csv.specs.Control.{is_control}
use Rattle.event_csv.specs.Event.{event}
use Rattle.courses.specs.EventLines.{events_in, found_of}
use Rattle.courses.specs.QuerySet.{QuerySet}
use Rattle.history_laws.specs.Keys.{events_with_keys, with_keys}
use Rattle.history_laws.specs.LateStarts.{AreSound, ResultsSpanAtMost, report_from}
use Rattle.history_laws.proofs.EpochLemmas.{report_permuted}
use Rattle.history_laws.proofs.KeyLemmas.{results_of_part}
use Rattle.history_laws.proofs.LateLemmas.{late_results}
use Rattle.history_laws.proofs.MissedLemmas.{spans_stay}
use Rattle.history_laws.proofs.RestartLemmas.{report_stands}
use Rattle.text_laws.specs.KeyParts.{PartsByAKeyReportTheirKeys, is_ours_in}
use Rattle.text_laws.specs.LineOrder.{LineOrderWithinEpochsChangesNoReport}
use Rattle.text_laws.specs.Restarts.{IsBefore, LateResultsDependOnLateLines, RestartReportsTheSame}
use Rattle.text_laws.specs.Wholes.{IsHeardWhole, events_of, line_texts}
use Rattle.text_laws.proofs.OrderLemmas.{InOrder, events_never_fall, kept_more, order_behind}
use Rattle.text_laws.proofs.SoundLemmas.{events_sound}
use Rattle.text_laws.proofs.TextLemmas.{closed-alone, events-founds, events_are, events_on, found_on, founds_on, order_from_whole, plain-from, plain-texts, whole_from_order}

-- the events of a whole text never fall
whole_never_falls : (set : QuerySet) (events : List ℕ) → IsHeardWhole set events → NeverFalls (events_of set events)
whole_never_falls set events whole =
    subst NeverFalls (events-founds set.streams (line_texts events) ∙ sym (events_are set events whole)) (events_never_fall None (founds_on set.streams (line_texts events)) (order_from_whole set events whole))

-- and are sound
whole_sound : (set : QuerySet) (events : List ℕ) → IsHeardWhole set events → AreSound (events_of set events)
whole_sound set events whole = subst AreSound (sym (events_are set events whole)) (events_sound set.streams (line_texts events))

-- lines of one detection time in another order
pub order_changes_nothing : LineOrderWithinEpochsChangesNoReport
order_changes_nothing set events others same =
    closed-alone set events true same.none_refused.plain
    ∙ report_permuted set.program (events_of set events) (events_of set others) (record {
      same_events =
          permuted_from (events_are set events same.none_refused)
          (permuted_to (flat_map_permuted (λ text. events_in (found_on set.streams text)) (line_texts events) (line_texts others) same.same_lines) (sym (events_are set others same.none_of_others_refused)));
      in_order = whole_never_falls set events same.none_refused;
      others_in_order = whole_never_falls set others same.none_of_others_refused;
    })
    ∙ sym (closed-alone set others true same.none_of_others_refused.plain)

-- late results over texts
pub late_over_texts : LateResultsDependOnLateLines
late_over_texts set events others start whole others_whole hear =
    late_results set.program (events_of set events) (events_of set others) start (whole_sound set events whole) (whole_sound set others others_whole) hear

-- an event of a line before the time
early_event : (start : ℕ) (found : Result Seen LineFault) → IsBefore start found → All (λ (event : Event). event.tuple.at < start) (events_in (found_of found))
early_event start (Ok seen) early = All-cons (λ (event : Event). event.tuple.at < start) _ [] early (All-nil (λ (event : Event). event.tuple.at < start))
early_event start (Err why) early = absurd early

-- a run that begins in the middle
pub restart_stands : RestartReportsTheSame
restart_stands set events others start span whole begins spans = (
  others_whole,
  ap (report_from (start + span) set.program) parts
      ∙ report_stands set.program (events_on set.streams begins.past) (events_of set others) start span (subst AreSound parts (whole_sound set events whole)) early
      all_span (spans_stay span set.program (events_on set.streams begins.past) (events_of set others) (start + span) (subst AreSound parts (whole_sound set events whole)) (subst NeverFalls parts (whole_never_falls set events whole)) all_span),
)
  where
    order : InOrder None (founds_on set.streams begins.past ++ founds_on set.streams (line_texts others))
    order = subst (InOrder None) (ap (founds_on set.streams) begins.lines_are ∙ map-append (found_on set.streams) begins.past (line_texts others)) (order_from_whole set events whole)

    others_plain : All (λ bytes. is_control bytes ≡ false) (line_texts others)
    others_plain =
        subst (All (λ bytes. is_control bytes ≡ false)) (drop-append_seam begins.past (line_texts others))
        (All-drop (λ bytes. is_control bytes ≡ false) (length begins.past) (begins.past ++ line_texts others) (subst (All (λ bytes. is_control bytes ≡ false)) begins.lines_are (plain-texts events whole.plain)))

    others_whole : IsHeardWhole set others
    others_whole = whole_from_order set others (plain-from others others_plain) (order_behind None (founds_on set.streams begins.past) (founds_on set.streams (line_texts others)) order)

    parts : events_of set events ≡ events_on set.streams begins.past ++ events_of set others
    parts =
        events_are set events whole
        ∙ ap (events_on set.streams) begins.lines_are
        ∙ flat_map-append (λ text. events_in (found_on set.streams text)) begins.past (line_texts others)
        ∙ ap (λ events. events_on set.streams begins.past ++ events) (sym (events_are set others others_whole))

    all_span : ResultsSpanAtMost span set.program (events_on set.streams begins.past ++ events_of set others) (start + span)
    all_span = subst (λ (history : List Event). ResultsSpanAtMost span set.program history (start + span)) parts spans

    early : All (λ (event : Event). event.tuple.at < start) (events_on set.streams begins.past)
    early =
        All-flat_map (λ (event : Event). event.tuple.at < start) (λ text. events_in (found_on set.streams text)) begins.past
        (All-weaker (λ text. IsBefore start (event set.streams text)) (λ text. All (λ (event : Event). event.tuple.at < start) (events_in (found_on set.streams text))) (λ text h. early_event start (event set.streams text) h) begins.past begins.past_is_early)

module _ (keys : ℕ → ℕ) (is_ours : Value → Bool) (streams : List Entry) where
  abbrev ours : List ℕ → Bool
  ours text = is_ours_in is_ours keys (event streams text)

  -- the lines of our keys are in order, by induction on the lines
  order_of_part : (seen : Option ℕ) (texts : List (List ℕ)) → InOrder seen (founds_on streams texts) → InOrder seen (founds_on streams (filter ours texts))
  order_of_part seen [] h = h
  order_of_part seen (text ∷ texts) h =
      let both = kept_more seen (found_on streams text) (founds_on streams texts) (founds_on streams (filter ours texts)) h (λ seen h. order_of_part seen texts h) in
      elim (ours text) as (λ b. InOrder seen (founds_on streams (cond b (text ∷ filter ours texts) (filter ours texts)))) [
        | true ↦ both.0
        | false ↦ both.1
      ]

  -- one line more
  more_events : (found : Result Seen LineFault) (text : List ℕ) (texts : List (List ℕ)) (kept : List Event) → event streams text ≡ found → events_on streams texts ≡ kept
      → events_on streams (cond (is_ours_in is_ours keys found) (text ∷ texts) texts) ≡ events_with_keys is_ours keys (events_in (found_of found)) ++ kept
  more_events (Ok seen) text texts kept is e =
      elim (is_ours (value_at seen.tuple (keys seen.stream))) as (λ b. events_on streams (cond b (text ∷ texts) texts) ≡ cond b (record { stream = seen.stream; tuple = seen.tuple } ∷ []) [] ++ kept) [
        | true ↦ λ i. events_in (found_of (is i)) ++ e i
        | false ↦ e
      ]
  more_events (Err why) text texts kept is e = λ i. events_in (found_of (is i)) ++ e i

  -- the events of the lines of our keys, by induction on the lines
  events_of_part : (texts : List (List ℕ)) → events_on streams (filter ours texts) ≡ events_with_keys is_ours keys (events_on streams texts)
  events_of_part [] = refl
  events_of_part (text ∷ texts) =
      more_events (event streams text) text (filter ours texts) (events_with_keys is_ours keys (events_on streams texts)) refl (events_of_part texts)
      ∙ sym (filter-append (λ (event : Event). is_ours (value_at event.tuple (keys event.stream))) (events_in (found_on streams text)) (events_on streams texts))

-- a part by a key
pub part_reports : PartsByAKeyReportTheirKeys
part_reports set keys is_ours events part keyed whole lines_are =
    record {
      none_refused = part_whole;
      results_are = same;
      lines_are = every (λ (query : Query). (time : ℕ) → lines_at set.program (events_of set part) time query ≡ flat_map (line query.name) (with_keys is_ours (keys query.stream) (results set.program (events_of set events) query.stream time)))
          (λ query time. ap (flat_map (line query.name)) (same query.stream time)) set.program.queries;
    }
  where
    part_whole : IsHeardWhole set part
    part_whole =
        whole_from_order set part
        (plain-from part (subst (All (λ bytes. is_control bytes ≡ false)) (sym lines_are) (All-filter (ours keys is_ours set.streams) (λ bytes. is_control bytes ≡ false) (line_texts events) (plain-texts events whole.plain))))
        (subst (λ texts. InOrder None (founds_on set.streams texts)) (sym lines_are) (order_of_part keys is_ours set.streams None (line_texts events) (order_from_whole set events whole)))

    parts : events_of set part ≡ events_with_keys is_ours keys (events_of set events)
    parts =
        events_are set part part_whole
        ∙ ap (events_on set.streams) lines_are
        ∙ events_of_part keys is_ours set.streams (line_texts events)
        ∙ ap (events_with_keys is_ours keys) (sym (events_are set events whole))

    same : (stream time : ℕ) → results set.program (events_of set part) stream time ≡ with_keys is_ours (keys stream) (results set.program (events_of set events) stream time)
    same stream time = ap (λ (history : List Event). results set.program history stream time) parts ∙ results_of_part keys is_ours set.program (events_of set events) (whole_sound set events whole) keyed stream time

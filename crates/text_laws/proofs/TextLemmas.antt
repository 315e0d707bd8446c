-- The events of a whole event text without control lines, none of whose lines is refused.
use Rattle.std.proofs.Common.{◌≡◌, ◌∙◌, sym, ap, refl, subst, ℕ, Bool, false, true, cond, List, [], ◌∷◌, ◌++◌}
use Rattle.std.specs.Prelude.{None, is_none, map}
use Rattle.std.specs.List.{All, flat_map}
use Rattle.std.proofs.lemmas.List.Elements.{All-cons, All-head, All-map, All-nil, All-tail}
use Rattle.semantics.specs.Histories.{Event}
use Rattle.semantics.specs.Report.{report}
use Rattle.stream_schema.specs.Streams.{Entry}
use Rattle.event_csv.specs.Control.{is_control}
use Rattle.event_csv.specs.Event.{event}
use Rattle.event_csv.specs.Lines.{Line, lines}
use Rattle.courses.specs.Course.{events_in}
use Rattle.courses.specs.EventLines.{before_last, closed, found_of, heard, reading_of, readings}
use Rattle.courses.specs.EventLines as lines_of
use Rattle.courses.specs.Laws.{HasNoControlLine}
use Rattle.courses.specs.QuerySet.{QuerySet}
use Rattle.courses.specs.Reports.{closed_in, report_of_closed}
use Rattle.courses.proofs.EventLinesLemmas.{report_alone, texts_of_events}
use Rattle.courses.proofs.ReportLemmas.{events_alone}
use Rattle.text_laws.specs.Wholes.{IsHeardWhole, events_of, line_texts}
use Rattle.text_laws.proofs.OrderLemmas.{Found, InOrder, all_heard, events_found, founds_in, none_refused, order_of_heard}

-- what is found on a line, by its bytes
abbrev pub found_on : List Entry → List ℕ → Found
found_on streams text = found_of (event streams text)

-- what is found on lines
abbrev pub founds_on : List Entry → List (List ℕ) → List Found
founds_on streams texts = map (found_on streams) texts

-- the events of lines
abbrev pub events_on : List Entry → List (List ℕ) → List Event
events_on streams texts = flat_map (λ text. lines_of.events_in (found_on streams text)) texts

founds-readings : (streams : List Entry) (text : List Line) → founds_in (map (reading_of streams) text) ≡ founds_on streams (map (λ (line : Line). line.bytes) text)
founds-readings streams [] = refl
founds-readings streams (line ∷ text) = ap (λ founds. found_on streams line.bytes ∷ founds) (founds-readings streams text)

-- the events that are found are those of the lines, by induction on them
pub events-founds : (streams : List Entry) (texts : List (List ℕ)) → events_found (founds_on streams texts) ≡ events_on streams texts
events-founds streams [] = refl
events-founds streams (text ∷ texts) = ap (λ events. lines_of.events_in (found_on streams text) ++ events) (events-founds streams texts)

-- what is so of the bytes of each line is so of each line, by induction on them
lines-from : (text : List Line) → All (λ bytes. is_control bytes ≡ false) (map (λ (line : Line). line.bytes) text) → All (λ line. is_control line.bytes ≡ false) text
lines-from [] all = All-nil (λ (line : Line). is_control line.bytes ≡ false)
lines-from (line ∷ text) all =
    All-cons (λ (l : Line). is_control l.bytes ≡ false) line text (All-head (λ bytes. is_control bytes ≡ false) line.bytes (map (λ (l : Line). l.bytes) text) all)
    (lines-from text (All-tail (λ bytes. is_control bytes ≡ false) line.bytes (map (λ (l : Line). l.bytes) text) all))

-- no text of a line is that of a control line
pub plain-texts : (events : List ℕ) → HasNoControlLine events true → All (λ bytes. is_control bytes ≡ false) (line_texts events)
plain-texts events plain = All-map (λ bytes. is_control bytes ≡ false) (λ (line : Line). line.bytes) (lines events true) plain

pub plain-from : (events : List ℕ) → All (λ bytes. is_control bytes ≡ false) (line_texts events) → HasNoControlLine events true
plain-from events all = lines-from (lines events true) all

-- its lines are in order
pub order_from_whole : (set : QuerySet) (events : List ℕ) → IsHeardWhole set events → InOrder None (founds_on set.streams (line_texts events))
order_from_whole set events whole =
    subst (InOrder None) (founds-readings set.streams (lines events true)) (order_of_heard None (readings set.streams events true) (sym (texts_of_events set events true whole.plain).0 ∙ whole.none_refused))

-- and where they are, none is refused
pub whole_from_order : (set : QuerySet) (events : List ℕ) → HasNoControlLine events true → InOrder None (founds_on set.streams (line_texts events)) → IsHeardWhole set events
whole_from_order set events plain order = record {
  plain = plain;
  none_refused =
      (texts_of_events set events true plain).0 ∙ none_refused None (readings set.streams events true) (subst (InOrder None) (sym (founds-readings set.streams (lines events true))) order);
}

-- its events are those of its lines
pub events_are : (set : QuerySet) (events : List ℕ) → IsHeardWhole set events → events_of set events ≡ events_on set.streams (line_texts events)
events_are set events whole =
    let text = readings set.streams events true in
    let same = texts_of_events set events true whole.plain in
    ap events_in same.2 ∙ events_alone (closed text true)
    ∙ ap (λ refusal. cond (is_none refusal) (heard text) (before_last (heard text))) (sym same.0 ∙ whole.none_refused)
    ∙ all_heard None text (order_of_heard None text (sym same.0 ∙ whole.none_refused))
    ∙ ap events_found (founds-readings set.streams (lines events true))
    ∙ events-founds set.streams (line_texts events)

-- the report of a text without control lines is that of the events that it closes
pub closed-alone : (set : QuerySet) (events : List ℕ) (ended : Bool) → HasNoControlLine events ended → report_of_closed set events ended ≡ report set.program (events_in (closed_in set events ended))
closed-alone set events ended plain =
    report_alone set events ended plain
    ∙ ap (report set.program) (sym (ap events_in (texts_of_events set events ended plain).2 ∙ events_alone (closed (readings set.streams events ended) ended)))

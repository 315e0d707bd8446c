-- Event texts without control lines are courses of events alone.
use Rattle.std.proofs.Common.{◌≡◌, ◌∙◌, sym, ap, subst, refl, ℕ, ◌≤◌, ◌==◌, nat_lt, Bool, true, false, not, ◌&&◌, cond, is_some, is_none, List, [], ◌∷◌, ◌++◌, map, Option, Some, None, Result, Ok, Err, arith}
use Rattle.std.specs.List.{All, filter}
use Rattle.std.specs.Option.{option_or}
use Rattle.std.specs.Str.{is_utf8}
use Rattle.std.proofs.lemmas.Bool.Decides.{nat_tests}
use Rattle.std.proofs.lemmas.List.Elements.{All-head, All-tail}
use Rattle.semantics.specs.Histories.{Event}
use Rattle.semantics.specs.Report.{report}
use Rattle.epoch_laws.specs.Standing.{closed_part, last_time}
use Rattle.stream_schema.specs.Streams.{Entry}
use Rattle.event_csv.specs.Control.{control_of, is_control}
use Rattle.event_csv.specs.Event.{event, record_event}
use Rattle.event_csv.specs.Fields.{line_fields}
use Rattle.event_csv.specs.Lines.{Line, is_long, lines}
use Rattle.event_csv.specs.declared.event.Seen.{Seen}
use Rattle.event_csv.specs.declared.fault.LineFault.{LineFault}
use Rattle.event_csv.specs.declared.fault.LineFault.TheVariants as line
use Rattle.courses.specs.declared.refusal.Refusal.{Refusal}
use Rattle.courses.specs.ControlLines.{EntryFault, OfLine, control_entry, entry_of, event_entry}
use Rattle.courses.specs.Course.{CourseEntry, Hears, Moment, after, events_in, start}
use Rattle.courses.specs.EventLines.{Reading, before_last, closed, control_here, found_here, found_of, heard, heard_of, last_after, reading_here, reading_of, readings, readings_here, refused}
use Rattle.courses.specs.EventLines as plain
use Rattle.courses.specs.Heard.{disorder, entries_in, heard_from, is_before_last, refusal_of, refused_from, without_open}
use Rattle.courses.specs.Laws.{HasNoControlLine, heard_alone}
use Rattle.courses.specs.QuerySet.{QuerySet}
use Rattle.courses.specs.Reports.{closed_in, course_report, heard_in, refused_in, report_of_closed}
use Rattle.courses.proofs.HeardLemmas.{heard_in_time}
use Rattle.courses.proofs.MomentLemmas.{events_low}
use Rattle.courses.proofs.ReportLemmas.{alone, events_alone}

-- a line that doesn't begin with > says what it says as an event line
pub event_line : (set : QuerySet) (bytes : List ℕ) → is_control bytes ≡ false → entry_of set bytes ≡ event_entry (event set.streams bytes)
event_line set bytes plain_line = by_length (is_long bytes) refl
  where
    by_length : (b : Bool) → is_long bytes ≡ b
        → cond b (Err (OfLine line.LineTooLong)) (cond (is_control bytes) (control_entry set (control_of bytes)) (event_entry (event set.streams bytes))) ≡ event_entry (event set.streams bytes)
    by_length true e = sym (ap (λ b. event_entry (cond b (Err line.LineTooLong) (cond (is_utf8 bytes) (record_event set.streams (line_fields bytes)) (Err line.NotUtf8)))) e)
    by_length false e = ap (λ b. cond b (control_entry set (control_of bytes)) (event_entry (event set.streams bytes))) plain_line

-- the moment after events alone, of which the last was detected at the time that was seen
abbrev pub moment_at : QuerySet → Option ℕ → Moment
moment_at set seen = record { set = set; seen = seen; is_open = is_some seen }

abbrev IsPlainLine : Line → Type 0
IsPlainLine l = is_control l.bytes ≡ false

module _ (set : QuerySet) where
  -- one line more is refused as an event line is
  refused_more : (number : ℕ) (seen : Option ℕ) (found : Result Seen LineFault) (rest : List Line)
      → ((last : Option ℕ) → refused_from (moment_at set last) rest ≡ plain.refused_from last (map (reading_of set.streams) rest))
      → option_or (refusal_of number (moment_at set seen) (event_entry found)) (refused_from (after (moment_at set seen) (entries_in (event_entry found))) rest)
      ≡ option_or (plain.refusal_of number seen (found_of found)) (plain.refused_from (last_after (found_of found)) (map (reading_of set.streams) rest))
  refused_more number seen (Ok e) rest same = ap (λ o. option_or (disorder number (is_some seen) seen e.tuple.at) o) (same (Some e.tuple.at))
  refused_more number seen (Err why) rest same = refl

  -- and so are all: an induction on the lines
  refused_plain : (ls : List Line) → All IsPlainLine ls → (seen : Option ℕ) → refused_from (moment_at set seen) ls ≡ plain.refused_from seen (map (reading_of set.streams) ls)
  refused_plain [] all seen = refl
  refused_plain (l ∷ ls) all seen =
      ap (λ (entry : Result CourseEntry EntryFault). option_or (refusal_of l.number (moment_at set seen) entry) (refused_from (after (moment_at set seen) (entries_in entry)) ls)) (event_line set l.bytes (All-head IsPlainLine l ls all))
      ∙ refused_more l.number seen (event set.streams l.bytes) ls (λ last. refused_plain ls (All-tail IsPlainLine l ls all) last)

  heard_more : (number : ℕ) (seen : Option ℕ) (found : Result Seen LineFault) (rest : List Line)
      → ((last : Option ℕ) → heard_from (moment_at set last) rest ≡ heard_alone (plain.heard_from last (map (reading_of set.streams) rest)))
      → cond (is_some (refusal_of number (moment_at set seen) (event_entry found))) [] (entries_in (event_entry found) ++ heard_from (after (moment_at set seen) (entries_in (event_entry found))) rest)
      ≡ heard_alone (cond (is_some (plain.refusal_of number seen (found_of found))) [] (plain.events_in (found_of found) ++ plain.heard_from (last_after (found_of found)) (map (reading_of set.streams) rest)))
  heard_more number seen (Ok e) rest same = by_refusal (disorder number (is_some seen) seen e.tuple.at)
    where
      by_refusal : (o : Option Refusal)
          → cond (is_some o) [] (Hears (heard_of e) ∷ heard_from (moment_at set (Some e.tuple.at)) rest) ≡ heard_alone (cond (is_some o) [] (heard_of e ∷ plain.heard_from (Some e.tuple.at) (map (reading_of set.streams) rest)))
      by_refusal None = ap (λ h. Hears (heard_of e) ∷ h) (same (Some e.tuple.at))
      by_refusal (Some refusal) = refl
  heard_more number seen (Err why) rest same = refl

  heard_plain : (ls : List Line) → All IsPlainLine ls → (seen : Option ℕ) → heard_from (moment_at set seen) ls ≡ heard_alone (plain.heard_from seen (map (reading_of set.streams) ls))
  heard_plain [] all seen = refl
  heard_plain (l ∷ ls) all seen =
      ap (λ (entry : Result CourseEntry EntryFault). cond (is_some (refusal_of l.number (moment_at set seen) entry)) [] (entries_in entry ++ heard_from (after (moment_at set seen) (entries_in entry)) ls)) (event_line set l.bytes (All-head IsPlainLine l ls all))
      ∙ heard_more l.number seen (event set.streams l.bytes) ls (λ last. heard_plain ls (All-tail IsPlainLine l ls all) last)

  -- the moment after a history
  pub after_alone : (history : List Event) (seen : Option ℕ) → after (moment_at set seen) (heard_alone history) ≡ moment_at set (option_or (last_time history) seen)
  after_alone [] seen = refl
  after_alone (event ∷ []) seen = refl
  after_alone (event ∷ next ∷ later) seen = after_alone (next ∷ later) (Some event.tuple.at) ∙ ap (moment_at set) (some_last next later (Some event.tuple.at) seen)
    where
      some_last : (next : Event) (later : List Event) (o p : Option ℕ) → option_or (last_time (next ∷ later)) o ≡ option_or (last_time (next ∷ later)) p
      some_last next [] o p = refl
      some_last next (third ∷ later) o p = some_last third later o p

  -- what isn't of the last time is earlier
  earlier_alone : (last : ℕ) (history : List Event) → All (λ event. event.tuple.at ≤ last) history → filter (is_before_last (Some last)) (heard_alone history) ≡ heard_alone (filter (λ event. nat_lt event.tuple.at last) history)
  earlier_alone last [] low = refl
  earlier_alone last (event ∷ history) low = by_test (nat_lt event.tuple.at last) (tests event.tuple.at last (All-head (λ (event : Event). event.tuple.at ≤ last) event history low)) (earlier_alone last history (All-tail (λ (event : Event). event.tuple.at ≤ last) event history low))
    where
      tests : (at last : ℕ) → at ≤ last → not (at == last) ≡ nat_lt at last
      tests at last up = grind (arith, nat_tests)

      by_test : (b : Bool) → not (event.tuple.at == last) ≡ b → filter (is_before_last (Some last)) (heard_alone history) ≡ heard_alone (filter (λ event. nat_lt event.tuple.at last) history)
          → cond (not (event.tuple.at == last)) (Hears event ∷ filter (is_before_last (Some last)) (heard_alone history)) (filter (is_before_last (Some last)) (heard_alone history))
          ≡ heard_alone (cond b (event ∷ filter (λ event. nat_lt event.tuple.at last) history) (filter (λ event. nat_lt event.tuple.at last) history))
      by_test true e rest = λ i. cond (e i) (Hears event ∷ rest i) (rest i)
      by_test false e rest = λ i. cond (e i) (Hears event ∷ rest i) (rest i)

  -- the closed epochs are those before the last event's
  closed_alone : (history : List Event) (last : Option ℕ) → last_time history ≡ last → ((time : ℕ) → last ≡ Some time → All (λ event. event.tuple.at ≤ time) history)
      → without_open (moment_at set last) (heard_alone history) ≡ heard_alone (before_last history)
  closed_alone history None e low = sym (ap (λ o. heard_alone (closed_part o history)) e)
  closed_alone history (Some time) e low = earlier_alone time history (low time refl) ∙ sym (ap (λ o. heard_alone (closed_part o history)) e)

option_or-none : (o : Option ℕ) → option_or o None ≡ o
option_or-none None = refl
option_or-none (Some x) = refl

-- over event texts without control lines the first refused line, what is heard and what is closed are those of event lines
pub texts_of_events : (set : QuerySet) (text : List ℕ) (ended : Bool) → HasNoControlLine text ended
    → (refused_in set text ended ≡ refused (readings set.streams text ended)) × (heard_in set text ended ≡ heard_alone (heard (readings set.streams text ended)))
    × (closed_in set text ended ≡ heard_alone (closed (readings set.streams text ended) ended))
texts_of_events set text ended none =
    let ls = lines text ended in
    let refused_is = refused_plain set ls none None in
    let heard_is = heard_plain set ls none None in
    let history = heard (readings set.streams text ended) in
    let then : after (start set) (heard_from (start set) ls) ≡ moment_at set (last_time history) = ap (after (start set)) heard_is ∙ after_alone set history None ∙ ap (moment_at set) (option_or-none (last_time history)) in
    let low : (time : ℕ) → last_time history ≡ Some time → All (λ event. event.tuple.at ≤ time) history =
    λ time e. subst (λ events. All (λ event. event.tuple.at ≤ time) events) (ap events_in heard_is ∙ events_alone history) (events_low (start set) (heard_from (start set) ls) time (heard_in_time ls (start set)) (ap (λ (m : Moment). m.seen) then ∙ e)) in (
      refused_is,
      heard_is,
      (λ i. cond (ended && is_none (refused_is i)) (heard_is i) (without_open (then i) (heard_is i)))
          ∙ ap (cond (ended && is_none (refused (readings set.streams text ended))) (heard_alone history)) (closed_alone set history (last_time history) refl low)
          ∙ either (ended && is_none (refused (readings set.streams text ended))) history (before_last history),
    )
  where
    either : (b : Bool) (all some : List Event) → cond b (heard_alone all) (heard_alone some) ≡ heard_alone (cond b all some)
    either true all some = refl
    either false all some = refl

-- so the report of such a text is that of the history that it closes
pub report_alone : (set : QuerySet) (text : List ℕ) (ended : Bool) → HasNoControlLine text ended → report_of_closed set text ended ≡ report set.program (closed (readings set.streams text ended) ended)
report_alone set text ended none = ap (course_report set) (texts_of_events set text ended none).2 ∙ alone set (closed (readings set.streams text ended) ended)

-- a line that doesn't begin with > is read alike where no control line is taken
found_alike : (streams : List Entry) (bytes : List ℕ) → is_control bytes ≡ false → found_here streams bytes ≡ found_of (event streams bytes)
found_alike streams bytes plain_line = by_length (is_long bytes) refl
  where
    by_length : (b : Bool) → is_long bytes ≡ b
        → cond b (Err (OfLine line.LineTooLong)) (cond (is_control bytes) (control_here bytes) (found_of (event streams bytes))) ≡ found_of (event streams bytes)
    by_length true e = sym (ap (λ b. found_of (cond b (Err line.LineTooLong) (cond (is_utf8 bytes) (record_event streams (line_fields bytes)) (Err line.NotUtf8)))) e)
    by_length false e = ap (λ b. cond b (control_here bytes) (found_of (event streams bytes))) plain_line

-- and so are all, by induction on them
read_alike : (streams : List Entry) (ls : List Line) → All IsPlainLine ls → map (reading_here streams) ls ≡ map (reading_of streams) ls
read_alike streams [] all = refl
read_alike streams (l ∷ ls) all = λ i. record { number = l.number; found = found_alike streams l.bytes (All-head IsPlainLine l ls all) i } ∷ read_alike streams ls (All-tail IsPlainLine l ls all) i

pub texts_read_alike : (streams : List Entry) (text : List ℕ) (ended : Bool) → HasNoControlLine text ended → readings_here streams text ended ≡ readings streams text ended
texts_read_alike streams text ended none = read_alike streams (lines text ended) none

-- What a line of an event text says over two sets of queries, of which one is part of the other.
use Rattle.std.proofs.Common.{◌≡◌, ◌∙◌, ℕ, List, Bool, true, false, cond, refl, sym, ap, subst}
use Rattle.std.specs.Prelude.{Option, Some, None, Result, Ok, Err, Contains}
use Rattle.std.specs.Str.{bytes_eq}
use Rattle.std.proofs.lemmas.Slice.Eq.{bytes_eq-Decides}
use Rattle.semantics.specs.Programs.{Query}
use Rattle.stream_schema.specs.Streams.{Entry}
use Rattle.cel_lexer.specs.Names.{is_name}
use Rattle.event_csv.specs.declared.event.Seen.{Seen}
use Rattle.event_csv.specs.declared.fault.LineFault.{LineFault}
use Rattle.event_csv.specs.declared.control.ControlError.{ControlError}
use Rattle.event_csv.specs.declared.control.ControlError.TheVariants as control_error
use Rattle.event_csv.specs.declared.fault.LineFault.TheVariants as fault
use Rattle.event_csv.specs.Control.{Asked, control_of, is_control}
use Rattle.event_csv.specs.Event.{event}
use Rattle.event_csv.specs.Lines.{is_long}
use Rattle.event_csv.proofs.UndeclaredFacts.{undeclared_change_no_event}
use Rattle.catalogue.specs.Adding.{AddedVerdict, JudgesAdded, NotTaken, Taken}
use Rattle.courses.specs.ControlLines.{EntryFault, OfControl, OfLine, added_entry, control_entry, dropped_entry, dropped_unless_read, entry_of, event_entry, first_reader, query_named, verdict_of}
use Rattle.courses.specs.declared.fault.ControlFault.TheVariants as control_fault
use Rattle.courses.specs.Course.{Adds, CourseEntry, Drops, Hears, Moment, after_entry}
use Rattle.courses.specs.Heard.{refusal_of}
use Rattle.courses.specs.QuerySet.{with_added}
use Rattle.courses.proofs.VerdictLemmas.{verdict_judges}
use Rattle.independence.specs.Courses.{AreOneEntry}
use Rattle.independence.specs.Enlarging.{AreReadAlike}
use Rattle.independence.proofs.RenamedLemmas.{BeginWith}
use Rattle.independence.proofs.InsideLemmas.{IsInside, Tables, inside-dropped, inside-taken}
use Rattle.independence.proofs.TakenLemmas.{found-there}

-- a table that begins with the declared streams reads event lines by them
pub read-front : (declared streams : List Entry) → BeginWith declared streams → (bytes : List ℕ) → event streams bytes ≡ event declared bytes
read-front declared streams begins bytes = ap (λ es. event es bytes) begins.parts ∙ undeclared_change_no_event declared begins.more bytes begins.undeclared

-- each event line is read alike over the declared streams
abbrev pub ReadAlike : Tables → Tables → Type 0
ReadAlike a b = (bytes : List ℕ) → AreReadAlike a.streams b.streams (event a.declared bytes) (event b.declared bytes)

-- each event over the first declared streams is the same one over the second
abbrev pub TakeAlike : Tables → Tables → Type 0
TakeAlike a b = (bytes : List ℕ) (seen : Seen) → event a.declared bytes ≡ Ok seen → AreReadAlike a.streams b.streams (Ok seen) (event b.declared bytes)

-- what a line says at two moments is one entry, and the moments after it are along each other
pub record IsStep (a b : Tables) (Along : Moment → Moment → Type 0) (m n : Moment) (found other : Result CourseEntry EntryFault) : Type 0 where
  pub entry : CourseEntry
  pub twin : CourseEntry
  pub is : found ≡ Ok entry
  pub is_too : other ≡ Ok twin
  pub one : AreOneEntry a.streams b.streams entry twin
  pub along : Along (after_entry m entry) (after_entry n twin)

module _ (a b : Tables) (first : ℕ → ℕ) where
  -- so it is at two moments, at which the same time was seen
  pub record IsAlong (m n : Moment) : Type 0 where
    pub inside : IsInside a b first m.set n.set
    pub seen : m.seen ≡ n.seen
    pub is_open : m.is_open ≡ n.is_open

  module _ (m n : Moment) (along : IsAlong m n) (line : ℕ) where
    -- an event line, which is read alike
    pub event-step : (found other : Result Seen LineFault) → AreReadAlike a.streams b.streams found other → refusal_of line m (event_entry found) ≡ None → IsStep a b IsAlong m n (event_entry found) (event_entry other)
    event-step (Ok seen) (Ok other) alike none = record {
      entry = Hears (record { stream = seen.stream; tuple = seen.tuple });
      twin = Hears (record { stream = other.stream; tuple = other.tuple });
      is = refl;
      is_too = refl;
      one = record { streams_are = alike.0; tuples_are = alike.1 };
      along = record { inside = along.inside; seen = ap (λ tuple. Some tuple.at) alike.1; is_open = refl };
    }
    event-step (Ok seen) (Err why) alike none = absurd alike
    event-step (Err why) (Ok other) alike none = absurd alike
    event-step (Err why) (Err other) alike none = cc

    -- an event line, whose event is the same one
    taken-step : (found other : Result Seen LineFault) → ((seen : Seen) → found ≡ Ok seen → AreReadAlike a.streams b.streams (Ok seen) other) → refusal_of line m (event_entry found) ≡ None → IsStep a b IsAlong m n (event_entry found) (event_entry other)
    taken-step (Ok seen) other alike none = event-step (Ok seen) other (alike seen refl) none
    taken-step (Err why) other alike none = cc

    -- a line that adds a query to both
    adding-step : (text : List ℕ) (verdict other : AddedVerdict) → JudgesAdded m.set.streams text verdict → JudgesAdded n.set.streams text other
        → refusal_of line m (added_entry verdict) ≡ None → refusal_of line n (added_entry other) ≡ None → IsStep a b IsAlong m n (added_entry verdict) (added_entry other)
    adding-step text (Taken added) (Taken twin) judges judges_too none none_too =
        let both = inside-taken a b first m.set n.set along.inside text added twin m.seen judges judges_too in
        record {
          entry = Adds added;
          twin = Adds twin;
          is = refl;
          is_too = refl;
          one = both.0;
          along = record {
            inside = subst (λ birth. IsInside a b first (with_added m.set added m.seen) (with_added n.set twin birth)) along.seen both.1;
            seen = along.seen;
            is_open = refl;
          };
        }
    adding-step text (NotTaken at why) other judges judges_too none none_too = cc
    adding-step text (Taken added) (NotTaken at why) judges judges_too none none_too = cc

    -- a line that drops queries of one name, which none reads
    unread-step : (query twin : Query) (reader other_reader : Option Query) → Contains m.set.program.queries query → Contains n.set.program.queries twin → query.name ≡ twin.name
        → first_reader m.set query.stream ≡ reader → first_reader n.set twin.stream ≡ other_reader
        → refusal_of line m (dropped_unless_read query reader) ≡ None → refusal_of line n (dropped_unless_read twin other_reader) ≡ None → IsStep a b IsAlong m n (dropped_unless_read query reader) (dropped_unless_read twin other_reader)
    unread-step query twin None None there there_too same is is_too none none_too = record {
      entry = Drops query;
      twin = Drops twin;
      is = refl;
      is_too = refl;
      one = same;
      along = record { inside = inside-dropped a b first m.set n.set along.inside query twin there there_too same is is_too; seen = along.seen; is_open = refl };
    }
    unread-step query twin (Some reader) other_reader there there_too same is is_too none none_too = cc
    unread-step query twin None (Some reader) there there_too same is is_too none none_too = cc

    -- a line that drops a query by its name
    dropping-step : (name : List ℕ) (found other : Option Query) → query_named m.set name ≡ found → query_named n.set name ≡ other
        → refusal_of line m (dropped_entry m.set name found) ≡ None → refusal_of line n (dropped_entry n.set name other) ≡ None → IsStep a b IsAlong m n (dropped_entry m.set name found) (dropped_entry n.set name other)
    dropping-step name (Some query) (Some twin) is is_too none none_too =
        let there = found-there (λ (q : Query). bytes_eq q.name name) m.set.program.queries query is in
        let there_too = found-there (λ (q : Query). bytes_eq q.name name) n.set.program.queries twin is_too in
        unread-step query twin (first_reader m.set query.stream) (first_reader n.set twin.stream) there.0 there_too.0
        ((bytes_eq-Decides query.name name).0 there.1 ∙ sym ((bytes_eq-Decides twin.name name).0 there_too.1)) refl refl none none_too
    dropping-step name None other is is_too none none_too = cc
    dropping-step name (Some query) None is is_too none none_too = cc

    -- a control line
    control-step : (asked : Result Asked ControlError) → refusal_of line m (control_entry m.set asked) ≡ None → refusal_of line n (control_entry n.set asked) ≡ None → IsStep a b IsAlong m n (control_entry m.set asked) (control_entry n.set asked)
    control-step (Ok (Asked.Adding text)) none none_too =
        adding-step text (verdict_of m.set.streams text) (verdict_of n.set.streams text) (verdict_judges m.set.streams text) (verdict_judges n.set.streams text) none none_too
    control-step (Ok (Asked.Removing name)) none none_too = by-name (is_name name) none none_too
      where
        by-name : (is : Bool) → refusal_of line m (cond is (dropped_entry m.set name (query_named m.set name)) (Err (OfControl control_fault.BadForm))) ≡ None
            → refusal_of line n (cond is (dropped_entry n.set name (query_named n.set name)) (Err (OfControl control_fault.BadForm))) ≡ None
            → IsStep a b IsAlong m n (cond is (dropped_entry m.set name (query_named m.set name)) (Err (OfControl control_fault.BadForm))) (cond is (dropped_entry n.set name (query_named n.set name)) (Err (OfControl control_fault.BadForm)))
        by-name true none none_too = dropping-step name (query_named m.set name) (query_named n.set name) refl refl none none_too
        by-name false none none_too = cc
    control-step (Err control_error.NotUtf8) none none_too = cc
    control-step (Err control_error.BadForm) none none_too = cc

    -- a line of any bytes, where each event over the first declared streams is the same one over the second
    pub line-step : TakeAlike a b → (bytes : List ℕ) → refusal_of line m (entry_of m.set bytes) ≡ None → refusal_of line n (entry_of n.set bytes) ≡ None → IsStep a b IsAlong m n (entry_of m.set bytes) (entry_of n.set bytes)
    line-step alike bytes = by-tests (is_long bytes) (is_control bytes)
      where
        by-tests : (long control : Bool)
            → refusal_of line m (cond long (Err (OfLine fault.LineTooLong)) (cond control (control_entry m.set (control_of bytes)) (event_entry (event m.set.streams bytes)))) ≡ None
            → refusal_of line n (cond long (Err (OfLine fault.LineTooLong)) (cond control (control_entry n.set (control_of bytes)) (event_entry (event n.set.streams bytes)))) ≡ None
            → IsStep a b IsAlong m n (cond long (Err (OfLine fault.LineTooLong)) (cond control (control_entry m.set (control_of bytes)) (event_entry (event m.set.streams bytes))))
            (cond long (Err (OfLine fault.LineTooLong)) (cond control (control_entry n.set (control_of bytes)) (event_entry (event n.set.streams bytes))))
        by-tests true control none none_too = cc
        by-tests false true none none_too = control-step (control_of bytes) none none_too
        by-tests false false none none_too =
            let front = read-front a.declared m.set.streams along.inside.kept.begins bytes in
            let front_too = read-front b.declared n.set.streams along.inside.kept_too.begins bytes in
            taken-step (event m.set.streams bytes) (event n.set.streams bytes) (λ seen is. subst (AreReadAlike a.streams b.streams (Ok seen)) (sym front_too) (alike bytes seen (sym front ∙ is))) none

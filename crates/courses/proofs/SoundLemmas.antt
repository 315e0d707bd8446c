-- What is heard after a sound course is sound, and what a sound course has.
use Rattle.std.proofs.Common.{◌≡◌, ◌∙◌, sym, ap, refl, subst, ℕ, suc, ◌<◌, Bool, true, false, cond, List, [], ◌∷◌, ◌++◌, Option, Some, None, Result, Ok, Err, is_some, arith}
use Rattle.std.specs.Prelude.{Contains}
use Rattle.std.specs.Bool.{⊤}
use Rattle.std.specs.List.{All, find}
use Rattle.std.specs.Option.{option_map}
use Rattle.std.specs.Str.{bytes_eq}
use Rattle.std.proofs.lemmas.List.Elements.{All-cons, All-nil}
use Rattle.std.proofs.lemmas.Option.{get_or_from_slice_get, slice_get-map}
use Rattle.cel_lexer.specs.Names.{is_name}
use Rattle.event_types.specs.Tuple.{IsSound}
use Rattle.semantics.specs.Histories.{Event}
use Rattle.semantics.specs.Kinds.{HasKinds}
use Rattle.semantics.specs.Programs.{Query}
use Rattle.stream_schema.specs.Schema.{kinds_of}
use Rattle.stream_schema.specs.Streams.{Entry, schemas_of}
use Rattle.cel_types.specs.SourceLaws.{kinds_in}
use Rattle.catalogue.specs.Adding.{AddedVerdict, JudgesAdded, Taken, NotTaken}
use Rattle.event_csv.specs.Control.{Asked, control_of, is_control}
use Rattle.event_csv.specs.Event.{event}
use Rattle.event_csv.specs.Lines.{Line, is_long}
use Rattle.event_csv.specs.declared.control.ControlError.{ControlError}
use Rattle.event_csv.specs.declared.control.ControlError.TheVariants as error
use Rattle.event_csv.specs.declared.event.Seen.{Seen}
use Rattle.event_csv.specs.declared.fault.LineFault.{LineFault}
use Rattle.event_csv.specs.declared.fault.LineFault.TheVariants as line
use Rattle.courses.specs.declared.fault.ControlFault.TheVariants as fault
use Rattle.courses.specs.declared.refusal.Refusal.{Refusal}
use Rattle.courses.specs.ControlLines.{EntryFault, OfControl, OfLine, added_entry, control_entry, dropped_entry, dropped_unless_read, entry_of, event_entry, first_reader, query_named, verdict_of}
use Rattle.courses.specs.Course.{Adds, Course, CourseEntry, Drops, Hears, Moment, after, after_entry, events_in, start}
use Rattle.courses.specs.DeclaredFirst.{HasDeclaredFirst}
use Rattle.courses.specs.Heard.{entries_in, heard_after, heard_from, refusal_of}
use Rattle.courses.specs.QuerySet.{QuerySet}
use Rattle.courses.specs.Sound.{IsSoundCourse, MayCome, MayComeInTurn}
use Rattle.courses.proofs.DeclaredLemmas.{course_declared, course_first, course_kinds, entry_first}
use Rattle.courses.proofs.FitsLemmas.{event_fits}
use Rattle.courses.proofs.MomentLemmas.{AreInTime, any_number}
use Rattle.courses.proofs.VerdictLemmas.{verdict_judges}

-- the entries of a sound course come in time
pub in_time : (m : Moment) (course : Course) → MayComeInTurn m course → AreInTime m course
in_time m [] sound = tt
in_time m (Hears event ∷ course) sound = (sound.0.timely, in_time (after_entry m (Hears event)) course sound.1)
in_time m (Adds added ∷ course) sound = (tt, in_time (after_entry m (Adds added)) course sound.1)
in_time m (Drops query ∷ course) sound = (tt, in_time (after_entry m (Drops query)) course sound.1)

-- its events are sound
pub events_sound : (m : Moment) (course : Course) → MayComeInTurn m course → All (λ event. IsSound event.tuple) (events_in course)
events_sound m [] sound = All-nil (λ (event : Event). IsSound event.tuple)
events_sound m (Hears event ∷ course) sound = All-cons (λ (event : Event). IsSound event.tuple) event (events_in course) sound.0.sound (events_sound (after_entry m (Hears event)) course sound.1)
events_sound m (Adds added ∷ course) sound = events_sound (after_entry m (Adds added)) course sound.1
events_sound m (Drops query ∷ course) sound = events_sound (after_entry m (Drops query)) course sound.1

-- two sound courses, one behind the other
pub sound-append : (m : Moment) (xs ys : Course) → MayComeInTurn m xs → MayComeInTurn (after m xs) ys → MayComeInTurn m (xs ++ ys)
sound-append m [] ys first rest = rest
sound-append m (entry ∷ xs) ys first rest = (first.0, sound-append (after_entry m entry) xs ys first.1 rest)

-- what was found is there
found_there : {X : Type 0} (test : X → Bool) (xs : List X) (x : X) → find test xs ≡ Some x → Contains xs x
found_there test [] x e = cc
found_there test (y ∷ xs) x e = by_test (test y) e (λ f. found_there test xs x f)
  where
    behind : Contains xs x → Contains (y ∷ xs) x
    behind (k, within, same) = (suc k, omega (arith, within), same)

    by_test : (b : Bool) → cond b (Some y) (find test xs) ≡ Some x → (find test xs ≡ Some x → Contains xs x) → Contains (y ∷ xs) x
    by_test true f rest = let same : y ≡ x = cc in (0, omega arith, same)
    by_test false f rest = behind (rest f)

-- what a line says may come at a moment; a fault says nothing
abbrev MayComeFound : Moment → Result CourseEntry EntryFault → Type 0
MayComeFound m (Ok entry) = MayCome m entry
MayComeFound m (Err why) = ⊤

module _ (m : Moment) (number : ℕ) (first : HasDeclaredFirst m.set) where
  abbrev set : QuerySet
  set = m.set

  abbrev ComesUnrefused : Result CourseEntry EntryFault → Type 0
  ComesUnrefused found = refusal_of number m found ≡ None → MayComeFound m found

  event_comes : (bytes : List ℕ) (found : Result Seen LineFault) → event set.streams bytes ≡ found → ComesUnrefused (event_entry found)
  event_comes bytes (Err why) e none = tt
  event_comes bytes (Ok seen) e none =
      let fits = event_fits set.streams bytes seen e in
      let kinds : kinds_in set.streams seen.stream ≡ kinds_of fits.entry.schema =
      ap kinds_of (get_or_from_slice_get (schemas_of set.streams) seen.stream fits.entry.schema [] (slice_get-map (λ (entry : Entry). entry.schema) set.streams seen.stream ∙ ap (option_map (λ (entry : Entry). entry.schema)) fits.there)) in
      record {
        timely = any_number number 0 m.is_open m.seen seen.tuple.at none;
        declared = first.told seen.stream fits.entry fits.there fits.declared;
        kinds = subst (λ kinds. HasKinds kinds seen.tuple) (sym kinds) fits.kinds;
        sound = fits.sound;
      }

  added_comes : (text : List ℕ) (verdict : AddedVerdict) → verdict_of set.streams text ≡ verdict → ComesUnrefused (added_entry verdict)
  added_comes text (Taken added) e none = record { text = text; taken = subst (JudgesAdded set.streams text) e (verdict_judges set.streams text) }
  added_comes text (NotTaken at why) e none = tt

  dropped_comes : (query : Query) → Contains set.program.queries query → (reader : Option Query) → first_reader set query.stream ≡ reader → ComesUnrefused (dropped_unless_read query reader)
  dropped_comes query there None e none = record { there = there; unread = e }
  dropped_comes query there (Some reader) e none = tt

  named_comes : (name : List ℕ) (found : Option Query) → query_named set name ≡ found → ComesUnrefused (dropped_entry set name found)
  named_comes name None e none = tt
  named_comes name (Some query) e none = dropped_comes query (found_there (λ (other : Query). bytes_eq other.name name) set.program.queries query e) (first_reader set query.stream) refl none

  control_comes : (asked : Result Asked ControlError) → ComesUnrefused (control_entry set asked)
  control_comes (Ok (Asked.Adding text)) none = added_comes text (verdict_of set.streams text) refl none
  control_comes (Ok (Asked.Removing name)) none = by_name (is_name name) none
    where
      by_name : (b : Bool) → ComesUnrefused (cond b (dropped_entry set name (query_named set name)) (Err (OfControl fault.BadForm)))
      by_name true none = named_comes name (query_named set name) refl none
      by_name false none = tt
  control_comes (Err error.NotUtf8) none = tt
  control_comes (Err error.BadForm) none = tt

  -- what a line says that isn't refused may come
  pub line_comes : (bytes : List ℕ) → ComesUnrefused (entry_of set bytes)
  line_comes bytes none = by_length (is_long bytes) (is_control bytes) none
    where
      by_length : (long control : Bool) → ComesUnrefused (cond long (Err (OfLine line.LineTooLong)) (cond control (control_entry set (control_of bytes)) (event_entry (event set.streams bytes))))
      by_length true control none = tt
      by_length false true none = control_comes (control_of bytes) none
      by_length false false none = event_comes bytes (event set.streams bytes) refl none

-- what is heard of lines may come one after another: an induction on them
pub heard_sound : (lines : List Line) (m : Moment) → HasDeclaredFirst m.set → MayComeInTurn m (heard_from m lines)
heard_sound [] m first = tt
heard_sound (l ∷ lines) m first = by_found (entry_of m.set l.bytes) (line_comes m l.number first l.bytes) (λ n declared. heard_sound lines n declared)
  where
    by_found : (found : Result CourseEntry EntryFault) → (refusal_of l.number m found ≡ None → MayComeFound m found) → ((n : Moment) → HasDeclaredFirst n.set → MayComeInTurn n (heard_from n lines))
        → MayComeInTurn m (cond (is_some (refusal_of l.number m found)) [] (entries_in found ++ heard_from (after m (entries_in found)) lines))
    by_found (Ok entry) comes rest = by_refusal (refusal_of l.number m (Ok entry)) refl
      where
        by_refusal : (o : Option Refusal) → refusal_of l.number m (Ok entry) ≡ o → MayComeInTurn m (cond (is_some o) [] (entry ∷ heard_from (after_entry m entry) lines))
        by_refusal None e = (comes e, rest (after_entry m entry) (entry_first m entry first))
        by_refusal (Some refusal) e = tt
    by_found (Err (OfLine why)) comes rest = tt
    by_found (Err (OfControl why)) comes rest = tt

-- what is heard after a sound course is sound
pub heard_is_sound : (set : QuerySet) (past : Course) (lines : List Line) → HasDeclaredFirst set → IsSoundCourse set past → IsSoundCourse set (heard_after set past lines)
heard_is_sound set past lines first sound = sound-append (start set) past (heard_from (after (start set) past) lines) sound (heard_sound lines (after (start set) past) (course_first (start set) past first))

-- the event's stream is declared, and its tuple has the kinds of the stream
pub record IsOfSet (set : QuerySet) (event : Event) : Type 0 where
  pub declared : event.stream < set.program.declared
  pub kinds : HasKinds (kinds_in set.streams event.stream) event.tuple

-- so it is with the queries that are there after more entries
of_set_then : (m : Moment) (course : Course) (event : Event) → HasDeclaredFirst m.set → IsOfSet m.set event → IsOfSet (after m course).set event
of_set_then m course event first is = record {
  declared = omega (arith, is.declared, course_declared m course);
  kinds = subst (λ kinds. HasKinds kinds event.tuple) (sym (course_kinds m course first event.stream is.declared)) is.kinds;
}

-- the events of a sound course are of the queries that are there in the end: an induction on the course
pub events_of_set : (m : Moment) (course : Course) → HasDeclaredFirst m.set → MayComeInTurn m course → All (IsOfSet (after m course).set) (events_in course)
events_of_set m [] first sound = All-nil (IsOfSet m.set)
events_of_set m (Hears event ∷ course) first sound =
    let n = after_entry m (Hears event) in
    All-cons (IsOfSet (after n course).set) event (events_in course) (of_set_then n course event first (record { declared = sound.0.declared; kinds = sound.0.kinds })) (events_of_set n course first sound.1)
events_of_set m (Adds added ∷ course) first sound = events_of_set (after_entry m (Adds added)) course (entry_first m (Adds added) first) sound.1
events_of_set m (Drops query ∷ course) first sound = events_of_set (after_entry m (Drops query)) course (entry_first m (Drops query) first) sound.1

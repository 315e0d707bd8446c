-- What a line of an event text says over two sets of queries of which each is within the other.
use Rattle.std.proofs.Common.{◌≡◌, ℕ, List, [], ◌∷◌, Bool, true, false, cond, refl, sym, ap, subst}
use Rattle.std.specs.Prelude.{Option, Some, None, Result, Ok, Err, Contains}
use Rattle.std.specs.List.{AllZip}
use Rattle.std.specs.Str.{bytes_eq}
use Rattle.semantics.specs.Histories.{Event}
use Rattle.semantics.specs.Programs.{Query}
use Rattle.cel_lexer.specs.Names.{is_name}
use Rattle.cel_parser.proofs.QueryLemmas.{one-query-reading}
use Rattle.event_csv.specs.declared.event.Seen.{Seen}
use Rattle.event_csv.specs.declared.fault.LineFault.{LineFault}
use Rattle.event_csv.specs.declared.control.ControlError.{ControlError}
use Rattle.event_csv.specs.declared.control.ControlError.TheVariants as control_error
use Rattle.event_csv.specs.declared.fault.LineFault.TheVariants as fault
use Rattle.event_csv.specs.Control.{Asked, control_of, is_control}
use Rattle.event_csv.specs.Event.{event}
use Rattle.event_csv.specs.Lines.{Line, is_long}
use Rattle.catalogue.specs.Adding.{AddedQuery, AddedVerdict, JudgesAdded, NotTaken, Taken}
use Rattle.catalogue.proofs.AddingLemmas.{one_added_verdict}
use Rattle.courses.specs.ControlLines.{EntryFault, OfControl, OfLine, added_entry, control_entry, dropped_entry, dropped_unless_read, entry_of, event_entry, first_reader, query_named, verdict_of}
use Rattle.courses.specs.declared.fault.ControlFault.TheVariants as control_fault
use Rattle.courses.specs.Course.{Adds, Course, CourseEntry, Drops, Hears, Moment, after_entry}
use Rattle.courses.specs.Heard.{disorder, refusal_of}
use Rattle.courses.specs.QuerySet.{with_added}
use Rattle.courses.specs.Sound.{MayComeInTurn}
use Rattle.courses.proofs.VerdictLemmas.{verdict_judges}
use Rattle.independence.specs.Courses.{AreOneEntry}
use Rattle.independence.specs.Enlarging.{AreReadAlike}
use Rattle.independence.proofs.AlongLemmas.{ReadAlike, read-front}
use Rattle.independence.proofs.BothLemmas.{AreBothInside, AreNamesakes, both-back, both-dropped, both-stated, reader-same}
use Rattle.independence.proofs.CourseLemmas.{GoAlong, HearAlike, StartAlike, one-more}
use Rattle.independence.proofs.InsideLemmas.{Tables}
use Rattle.independence.proofs.TakenLemmas.{IsTaken, found-there, taken-is}
use Rattle.independence.proofs.VerdictLemmas.{refused-too}
use Rattle.independence.proofs.ZipLemmas.{FoundAlike, zip-find, zip-weaker}

-- what a line says at two moments is one entry, behind which they are along each other, or one fault
data SayAlike (a b : Tables) (Along : Moment → Moment → Type 0) (m n : Moment) : Result CourseEntry EntryFault → Result CourseEntry EntryFault → Type 0 where
  entries : {entry twin : CourseEntry} → AreOneEntry a.streams b.streams entry twin → Along (after_entry m entry) (after_entry n twin) → SayAlike a b Along m n (Ok entry) (Ok twin)
  faults : {why : EntryFault} → SayAlike a b Along m n (Err why) (Err why)

module _ (a b : Tables) (first last : ℕ → ℕ) where
  -- at both moments the same time was seen, and each set is within the other
  pub record AreAlike (m n : Moment) : Type 0 where
    pub sets : AreBothInside a b first last m.set n.set
    pub seen : m.seen ≡ n.seen
    pub is_open : m.is_open ≡ n.is_open

  -- behind one event
  alike-heard : (m n : Moment) → AreAlike m n → (event other : Event) → event.tuple ≡ other.tuple → AreAlike (after_entry m (Hears event)) (after_entry n (Hears other))
  alike-heard m n alike event other same = record { sets = alike.sets; seen = ap (λ tuple. Some tuple.at) same; is_open = refl }

  -- behind queries of one statement that are added
  alike-added : (m n : Moment) → AreAlike m n → (text other_text : List ℕ) (added twin : AddedQuery) → IsTaken m.set.streams text added → IsTaken n.set.streams other_text twin → added.statement ≡ twin.statement
      → AreAlike (after_entry m (Adds added)) (after_entry n (Adds twin))
  alike-added m n alike text other_text added twin is is_too same = record {
    sets =
        subst (λ birth. AreBothInside a b first last (with_added m.set added m.seen) (with_added n.set twin birth)) alike.seen
        (both-stated a b first last m.set n.set alike.sets text other_text added twin m.seen is is_too same);
    seen = alike.seen;
    is_open = refl;
  }

  -- and behind queries of one name that are dropped
  alike-dropped : (m n : Moment) → AreAlike m n → (query twin : Query) → Contains m.set.program.queries query → Contains n.set.program.queries twin → query.name ≡ twin.name
      → first_reader m.set query.stream ≡ None → first_reader n.set twin.stream ≡ None → AreAlike (after_entry m (Drops query)) (after_entry n (Drops twin))
  alike-dropped m n alike query twin there there_too same none none_too = record {
    sets = both-dropped a b first last m.set n.set alike.sets query twin there there_too same none none_too;
    seen = alike.seen;
    is_open = refl;
  }

  -- the refusal of what is said alike
  entry-refused : (number : ℕ) (m n : Moment) → AreAlike m n → (entry twin : CourseEntry) → AreOneEntry a.streams b.streams entry twin → refusal_of number m (Ok entry) ≡ refusal_of number n (Ok twin)
  entry-refused number m n alike (Hears event) (Hears other) one = λ i. disorder number (alike.is_open i) (alike.seen i) (one.tuples_are i).at
  entry-refused number m n alike (Adds added) (Adds twin) one = refl
  entry-refused number m n alike (Drops query) (Drops twin) one = refl
  entry-refused number m n alike (Hears event) (Adds twin) one = absurd one
  entry-refused number m n alike (Hears event) (Drops twin) one = absurd one
  entry-refused number m n alike (Adds added) (Hears twin) one = absurd one
  entry-refused number m n alike (Adds added) (Drops twin) one = absurd one
  entry-refused number m n alike (Drops query) (Hears twin) one = absurd one
  entry-refused number m n alike (Drops query) (Adds twin) one = absurd one

  fault-refused : (number : ℕ) (m n : Moment) (why : EntryFault) → StartAlike a b AreAlike number m n (Err why) (Err why)
  fault-refused number m n (OfLine why) = record { refused_is = refl; step = λ none. cc }
  fault-refused number m n (OfControl why) = record { refused_is = refl; step = λ none. cc }

  start-alike : (number : ℕ) (m n : Moment) → AreAlike m n → (found other : Result CourseEntry EntryFault) → SayAlike a b AreAlike m n found other → StartAlike a b AreAlike number m n found other
  start-alike number m n alike _ _ (entries {entry = entry} {twin = twin} one behind) = record {
    refused_is = entry-refused number m n alike entry twin one;
    step = λ none. record { entry = entry; twin = twin; is = refl; is_too = refl; one = one; along = behind };
  }
  start-alike number m n alike _ _ (faults {why = why}) = fault-refused number m n why

  module _ (m n : Moment) (alike : AreAlike m n) where
    abbrev Say : Result CourseEntry EntryFault → Result CourseEntry EntryFault → Type 0
    Say found other = SayAlike a b AreAlike m n found other

    -- an event line
    say-event : (found other : Result Seen LineFault) → AreReadAlike a.streams b.streams found other → Say (event_entry found) (event_entry other)
    say-event (Ok seen) (Ok other) read = entries (record { streams_are = read.0; tuples_are = read.1 }) (alike-heard m n alike (record { stream = seen.stream; tuple = seen.tuple }) (record { stream = other.stream; tuple = other.tuple }) read.1)
    say-event (Ok seen) (Err why) read = absurd read
    say-event (Err why) (Ok other) read = absurd read
    say-event (Err why) (Err other) read = subst (λ f. Say (Err (OfLine why)) (Err (OfLine f))) read faults

    -- the text of an added query
    say-added : (text : List ℕ) (verdict other : AddedVerdict) → JudgesAdded m.set.streams text verdict → JudgesAdded n.set.streams text other → Say (added_entry verdict) (added_entry other)
    say-added text (Taken added) (Taken twin) judges judges_too =
        let is = taken-is m.set.streams text added judges in
        let is_too = taken-is n.set.streams text twin judges_too in
        let same = (one-query-reading text added.statement twin.statement is.line is_too.line is.one is_too.one).statements in
        entries same (alike-added m n alike text text added twin is is_too same)
    say-added text (NotTaken line why) other judges judges_too =
        subst (λ verdict. Say (added_entry (NotTaken line why)) (added_entry verdict))
        (one_added_verdict n.set.streams text (NotTaken line why) other (refused-too a b first last m.set n.set alike.sets text line why judges) judges_too) faults
    say-added text (Taken added) (NotTaken line why) judges judges_too =
        let both = both-back a b first last m.set n.set alike.sets in
        let one = one_added_verdict m.set.streams text (Taken added) (NotTaken line why) judges (refused-too b a last first n.set m.set both text line why judges_too) in absurd cc

    -- queries of one name, with the first that reads them or none
    say-unread : (query twin : Query) (reader other_reader : Option Query) → Contains m.set.program.queries query → Contains n.set.program.queries twin → query.name ≡ twin.name
        → first_reader m.set query.stream ≡ reader → first_reader n.set twin.stream ≡ other_reader → FoundAlike AreNamesakes reader other_reader → Say (dropped_unless_read query reader) (dropped_unless_read twin other_reader)
    say-unread query twin None None there there_too same is is_too found = entries same (alike-dropped m n alike query twin there there_too same is is_too)
    say-unread query twin (Some reader) (Some other) there there_too same is is_too found =
        subst (λ (p : List ℕ × List ℕ). Say (Err (OfControl (control_fault.InUse query.name reader.name))) (Err (OfControl (control_fault.InUse p.0 p.1)))) (λ i. (same i, found i)) faults
    say-unread query twin None (Some other) there there_too same is is_too found = absurd found
    say-unread query twin (Some reader) None there there_too same is is_too found = absurd found

    -- a name
    say-named : (name : List ℕ) (found other : Option Query) → query_named m.set name ≡ found → query_named n.set name ≡ other → FoundAlike AreNamesakes found other → Say (dropped_entry m.set name found) (dropped_entry n.set name other)
    say-named name None None is is_too one = faults
    say-named name (Some query) (Some twin) is is_too one =
        let there = (found-there (λ (q : Query). bytes_eq q.name name) m.set.program.queries query is).0 in
        let there_too = (found-there (λ (q : Query). bytes_eq q.name name) n.set.program.queries twin is_too).0 in
        say-unread query twin (first_reader m.set query.stream) (first_reader n.set twin.stream) there there_too one refl refl (reader-same a b first last m.set n.set alike.sets query twin there there_too one)
    say-named name None (Some twin) is is_too one = absurd one
    say-named name (Some query) None is is_too one = absurd one

    -- the queries of a name
    named-alike : (name : List ℕ) → FoundAlike AreNamesakes (query_named m.set name) (query_named n.set name)
    named-alike name =
        zip-find AreNamesakes (λ (q : Query). bytes_eq q.name name) (λ (r : Query). bytes_eq r.name name) m.set.program.queries n.set.program.queries
        (zip-weaker AreNamesakes (λ q r. AreNamesakes q r × (bytes_eq q.name name ≡ bytes_eq r.name name)) m.set.program.queries n.set.program.queries (λ q r there there_too same. (same, ap (λ x. bytes_eq x name) same)) alike.sets.names)

    -- a control line
    say-control : (asked : Result Asked ControlError) → Say (control_entry m.set asked) (control_entry n.set asked)
    say-control (Ok (Asked.Adding text)) = say-added text (verdict_of m.set.streams text) (verdict_of n.set.streams text) (verdict_judges m.set.streams text) (verdict_judges n.set.streams text)
    say-control (Ok (Asked.Removing name)) = by-name (is_name name)
      where
        by-name : (is : Bool) → Say (cond is (dropped_entry m.set name (query_named m.set name)) (Err (OfControl control_fault.BadForm))) (cond is (dropped_entry n.set name (query_named n.set name)) (Err (OfControl control_fault.BadForm)))
        by-name true = say-named name (query_named m.set name) (query_named n.set name) refl refl (named-alike name)
        by-name false = faults
    say-control (Err control_error.NotUtf8) = faults
    say-control (Err control_error.BadForm) = faults

    -- a line of any bytes, where event lines are read alike
    say-line : ReadAlike a b → (bytes : List ℕ) → Say (entry_of m.set bytes) (entry_of n.set bytes)
    say-line read bytes = by-tests (is_long bytes) (is_control bytes)
      where
        by-tests : (long control : Bool)
            → Say (cond long (Err (OfLine fault.LineTooLong)) (cond control (control_entry m.set (control_of bytes)) (event_entry (event m.set.streams bytes))))
            (cond long (Err (OfLine fault.LineTooLong)) (cond control (control_entry n.set (control_of bytes)) (event_entry (event n.set.streams bytes))))
        by-tests true control = faults
        by-tests false true = say-control (control_of bytes)
        by-tests false false =
            say-event (event m.set.streams bytes) (event n.set.streams bytes)
            (subst (λ (p : Result Seen LineFault × Result Seen LineFault). AreReadAlike a.streams b.streams p.0 p.1)
            (λ i. (sym (read-front a.declared m.set.streams alike.sets.there.kept.begins bytes) i, sym (read-front b.declared n.set.streams alike.sets.there.kept_too.begins bytes) i)) (read bytes))

  -- lines are heard alike, by induction on them
  pub hear-both : ReadAlike a b → (lines : List Line) (m n : Moment) → AreAlike m n → HearAlike a b AreAlike m n lines
  hear-both read [] m n alike = record { refused_is = refl; heard_are = alike }
  hear-both read (line ∷ lines) m n alike =
      one-more a b AreAlike line lines m n alike (start-alike line.number m n alike (entry_of m.set line.bytes) (entry_of n.set line.bytes) (say-line m n alike read line.bytes)) (λ p q then is is_too. hear-both read lines p q then)

  -- sound courses of the same entries go along, by induction on them
  pub courses-along : (m n : Moment) (course other : Course) → AreAlike m n → MayComeInTurn m course → MayComeInTurn n other → AllZip (AreOneEntry a.streams b.streams) course other → GoAlong a b AreAlike m n course other
  courses-along m n [] [] alike sound sound_too same = alike
  courses-along m n [] (y ∷ other) alike sound sound_too same = absurd same
  courses-along m n (x ∷ course) [] alike sound sound_too same = absurd same
  courses-along m n (Hears event ∷ course) (Hears twin ∷ other) alike sound sound_too same =
      (alike, same.0, courses-along (after_entry m (Hears event)) (after_entry n (Hears twin)) course other (alike-heard m n alike event twin same.0.tuples_are) sound.1 sound_too.1 same.1)
  courses-along m n (Adds added ∷ course) (Adds twin ∷ other) alike sound sound_too same =
      let is = taken-is m.set.streams sound.0.text added sound.0.taken in
      let is_too = taken-is n.set.streams sound_too.0.text twin sound_too.0.taken in
      (alike, same.0, courses-along (after_entry m (Adds added)) (after_entry n (Adds twin)) course other (alike-added m n alike sound.0.text sound_too.0.text added twin is is_too same.0) sound.1 sound_too.1 same.1)
  courses-along m n (Drops query ∷ course) (Drops twin ∷ other) alike sound sound_too same = (
    alike,
    same.0,
    courses-along (after_entry m (Drops query)) (after_entry n (Drops twin)) course other
        (alike-dropped m n alike query twin sound.0.there sound_too.0.there same.0 sound.0.unread sound_too.0.unread) sound.1 sound_too.1 same.1,
  )
  courses-along m n (Hears event ∷ course) (Adds twin ∷ other) alike sound sound_too same = absurd same.0
  courses-along m n (Hears event ∷ course) (Drops twin ∷ other) alike sound sound_too same = absurd same.0
  courses-along m n (Adds added ∷ course) (Hears twin ∷ other) alike sound sound_too same = absurd same.0
  courses-along m n (Adds added ∷ course) (Drops twin ∷ other) alike sound sound_too same = absurd same.0
  courses-along m n (Drops query ∷ course) (Hears twin ∷ other) alike sound sound_too same = absurd same.0
  courses-along m n (Drops query ∷ course) (Adds twin ∷ other) alike sound sound_too same = absurd same.0

-- Each query of a set, and each that a control line adds, has the same lines where queries are added.
use Rattle.std.proofs.Common.{◌≡◌, ◌∙◌, ℕ, ◌-◌, ◌<◌, List, [], Bool, get_or, length, refl, sym, ap, subst, inl, inr}
use Rattle.std.specs.Prelude.{Result, Ok, Some, slice_get, Contains}
use Rattle.std.specs.List.{All}
use Rattle.std.proofs.lemmas.List.Elements.{All-contains}
use Rattle.std.proofs.lemmas.Option.{slice_get-get_or}
use Rattle.semantics.specs.Histories.{Event, heard_on}
use Rattle.semantics.specs.Programs.{Program}
use Rattle.splitter.specs.Chains.{end_of}
use Rattle.stream_schema.specs.Streams.{Entry, hidden_entries, number_of}
use Rattle.cel_grammar.specs.Trees as tree
use Rattle.event_csv.specs.declared.event.Seen.{Seen}
use Rattle.event_csv.specs.declared.fault.LineFault.{LineFault}
use Rattle.event_csv.specs.Event.{event}
use Rattle.event_csv.specs.Lines.{lines}
use Rattle.event_csv.proofs.UndeclaredFacts.{undeclared_change_no_event}
use Rattle.catalogue.specs.Judgement.{Accepts, Judged, program_of}
use Rattle.courses.specs.Course.{Moment, events_in, start}
use Rattle.courses.specs.QuerySet.{set_of}
use Rattle.courses.specs.Reports.{closed_in, heard_in, refused_in}
use Rattle.courses.proofs.HeardLemmas.{heard_in_time}
use Rattle.independence.specs.Courses.{AddedQueriesChangeNoCourse, CourseAlike, HaveTwinsAt}
use Rattle.independence.specs.Enlarging.{AddQueries, AreReadAlike, Enlarge}
use Rattle.independence.specs.Hearing.{AreTheSameEvents}
use Rattle.independence.specs.Independence.{HasTwin}
use Rattle.independence.specs.Reports.{AddedQueriesChangeNoReport}
use Rattle.independence.proofs.AcceptedLemmas.{IsOfDeclaration, Stands, accepted-stands, declared-at, declared-number, entry_of}
use Rattle.independence.proofs.AlongLemmas.{IsAlong, ReadAlike, TakeAlike}
use Rattle.independence.proofs.InsideLemmas.{Tables}
use Rattle.independence.proofs.ClosedLemmas.{at-time, ended-along, same-events}
use Rattle.independence.proofs.CourseLemmas.{AreFit, GoAlong, HearAlike, along-entries, hear-alike}
use Rattle.independence.proofs.EnlargedLemmas.{lines_are_read_alike, lines_stay}
use Rattle.independence.proofs.EnlargingLemmas.{heard-same, named-number, same_times}
use Rattle.independence.proofs.EventLemmas.{taken-alike}
use Rattle.independence.proofs.FirstLemmas.{first, kept-first, within-first}
use Rattle.independence.proofs.KeptLemmas.{kept-hidden}
use Rattle.independence.proofs.PublishedLemmas.{contains-at}
use Rattle.independence.proofs.RenamedLemmas.{hidden-all}
use Rattle.independence.proofs.ResultLemmas.{twins-inside}
use Rattle.independence.proofs.SharedLemmas.{number-in}
use Rattle.independence.proofs.TableLemmas.{number-at}
use Rattle.independence.proofs.TwinLemmas.{within-hidden}

-- the tables of an accepted text
abbrev told : Judged → Tables
told judged = record { declared = judged.declared; streams = judged.streams }

module _ (text other_text : List ℕ) (a b : Judged) (accepts : Accepts text a) (accepts_too : Accepts other_text b) (enlarges : Enlarge a.statements b.statements) where
  abbrev number : ℕ → ℕ
  number = first text other_text a b accepts accepts_too enlarges

  s : Stands a
  s = accepted-stands text a accepts

  t : Stands b
  t = accepted-stands other_text b accepts_too

  -- the hidden streams of an accepted text
  abbrev hidden : Judged → List Entry
  hidden judged = hidden_entries (length judged.streams) (end_of (program_of judged) - length judged.streams)

  -- at first the one set is within the other
  pub along-start : IsAlong (told a) (told b) number (start (set_of a)) (start (set_of b))
  along-start =
      let kept = kept-first text a accepts in
      let kept_too = kept-first other_text b accepts_too in
      let all = hidden-all (length a.streams) (end_of (program_of a) - length a.streams) in
      record {
        inside = record {
          number = number;
          kept = kept-hidden a.declared a.streams (program_of a) kept (hidden a) all;
          kept_too = kept-hidden b.declared b.streams (program_of b) kept_too (hidden b) (hidden-all (length b.streams) (end_of (program_of b) - length b.streams));
          within = within-hidden number number a.declared b.declared a.streams b.streams (program_of a) (program_of b) kept kept_too (within-first text other_text a b accepts accepts_too enlarges) (hidden a) (hidden b) all;
        };
        seen = refl;
        is_open = refl;
      }

  -- the declared streams tell the event of a line
  by-declared : (bytes : List ℕ) → event a.streams bytes ≡ event a.declared bytes
  by-declared bytes = ap (λ es. event es bytes) s.parts ∙ undeclared_change_no_event a.declared s.more bytes s.undeclared

  by-declared-too : (bytes : List ℕ) → event b.streams bytes ≡ event b.declared bytes
  by-declared-too bytes = ap (λ es. event es bytes) t.parts ∙ undeclared_change_no_event b.declared t.more bytes t.undeclared

  -- each event line is read alike over the declared streams, where none is declared beside
  pub declared-alike : AddQueries a.statements b.statements → ReadAlike (told a) (told b)
  declared-alike adds bytes =
      subst (λ (p : Result Seen LineFault × Result Seen LineFault). AreReadAlike a.streams b.streams p.0 p.1) (λ i. (by-declared bytes i, by-declared-too bytes i)) (lines_are_read_alike text other_text a b bytes accepts accepts_too adds)

  -- and each event over those of the first text is the same one over those of the second
  pub declared-taken : TakeAlike (told a) (told b)
  declared-taken bytes seen is = subst (AreReadAlike a.streams b.streams (Ok seen)) (by-declared-too bytes) (taken-alike a b s t enlarges bytes seen (by-declared bytes ∙ is))

  module _ (history others : List Event) (same : AreTheSameEvents a.streams b.streams history others) where
    -- on each declared stream the same tuples were heard
    heard-alike : (n : ℕ) → n < length a.declared → heard_on history n ≡ heard_on others (number n)
    heard-alike n less =
        let e : Entry = get_or a.declared n (entry_of [] []) in
        let at : slice_get a.declared n ≡ Some e = slice_get-get_or a.declared n (entry_of [] []) less in
        let is = All-contains (IsOfDeclaration a.statements) a.declared e s.declarations (contains-at a.declared n e at) in
        let stands = All-contains (Contains b.statements) a.statements (tree.Stream e.name is.columns) enlarges is.stands in
        let (m, schema, is_too, inside, there, found) = declared-number b t e.name is.columns stands in
        let own : number_of e.name a.streams ≡ Some n = number-at a.streams s.apart n e (declared-at a s n e at) in
        heard-same a.streams b.streams e.name n m (λ k at_k. named-number a.streams s.apart e.name k n at_k own) (λ k at_k. named-number b.streams t.apart e.name k m at_k found) own found history others same
        ∙ ap (heard_on others) (sym (number-in a.streams b.streams n m e (declared-at a s n e at) found))

  module _ (events : List ℕ) (ended : Bool) (fit : AreFit (told a) (told b) number (start (set_of a)) (start (set_of b)) (lines events ended)) where
    abbrev Along : Moment → Moment → Type 0
    Along = IsAlong (told a) (told b) number

    heard : HearAlike (told a) (told b) Along (start (set_of a)) (start (set_of b)) (lines events ended)
    heard = hear-alike (told a) (told b) number (lines events ended) (start (set_of a)) (start (set_of b)) along-start fit

    closed-along : GoAlong (told a) (told b) Along (start (set_of a)) (start (set_of b)) (closed_in (set_of a) events ended) (closed_in (set_of b) events ended)
    closed-along =
        ended-along (told a) (told b) Along (λ m n along. (along.seen, along.is_open)) (start (set_of a)) (start (set_of b)) (heard_in (set_of a) events ended) (heard_in (set_of b) events ended) heard.heard_are
        (heard_in_time (lines events ended) (start (set_of a))) (heard_in_time (lines events ended) (start (set_of b))) ended (refused_in (set_of a) events ended) (refused_in (set_of b) events ended) heard.refused_is

    pub refused-same : refused_in (set_of a) events ended ≡ refused_in (set_of b) events ended
    refused-same = heard.refused_is

    pub heard-events : AreTheSameEvents a.streams b.streams (events_in (heard_in (set_of a) events ended)) (events_in (heard_in (set_of b) events ended))
    heard-events =
        same-events (told a) (told b) (heard_in (set_of a) events ended) (heard_in (set_of b) events ended)
        (along-entries (told a) (told b) Along (start (set_of a)) (start (set_of b)) (heard_in (set_of a) events ended) (heard_in (set_of b) events ended) heard.heard_are)

    pub closed-events : AreTheSameEvents a.streams b.streams (events_in (closed_in (set_of a) events ended)) (events_in (closed_in (set_of b) events ended))
    closed-events =
        same-events (told a) (told b) (closed_in (set_of a) events ended) (closed_in (set_of b) events ended)
        (along-entries (told a) (told b) Along (start (set_of a)) (start (set_of b)) (closed_in (set_of a) events ended) (closed_in (set_of b) events ended) closed-along)

    pub twins-at : (time : ℕ) → HaveTwinsAt a b (closed_in (set_of a) events ended) (closed_in (set_of b) events ended) time
    twins-at time =
        let at = at-time (told a) (told b) Along (start (set_of a)) (start (set_of b)) (closed_in (set_of a) events ended) (closed_in (set_of b) events ended) closed-along time in
        subst (λ (p : Program × Program). All (HasTwin p.0 p.1 (events_in (closed_in (set_of a) events ended)) (events_in (closed_in (set_of b) events ended))) p.0.queries) (λ i. (sym at.program_is i, sym at.other_is i))
        (twins-inside (told a) (told b) number (events_in (closed_in (set_of a) events ended)) (events_in (closed_in (set_of b) events ended))
        (heard-alike (events_in (closed_in (set_of a) events ended)) (events_in (closed_in (set_of b) events ended)) closed-events) at.moment.set at.twin.set at.along.inside)

    pub courses-same : CourseAlike a b events ended
    courses-same = record {
      heard_are = along-entries (told a) (told b) Along (start (set_of a)) (start (set_of b)) (heard_in (set_of a) events ended) (heard_in (set_of b) events ended) heard.heard_are;
      closed_are = along-entries (told a) (told b) Along (start (set_of a)) (start (set_of b)) (closed_in (set_of a) events ended) (closed_in (set_of b) events ended) closed-along;
      epochs_are = same_times a.streams b.streams (events_in (closed_in (set_of a) events ended)) (events_in (closed_in (set_of b) events ended)) closed-events;
      lines_are = twins-at;
    }

-- added queries change no report
pub reports_stay : AddedQueriesChangeNoReport
reports_stay text other_text judged other events ended accepts accepts_too adds plain =
    let fit = inl (declared-alike text other_text judged other accepts accepts_too adds.all_stand adds, plain) in
    let closed = closed-events text other_text judged other accepts accepts_too adds.all_stand events ended fit in
    record {
      refused_is = refused-same text other_text judged other accepts accepts_too adds.all_stand events ended fit;
      heard_are = heard-events text other_text judged other accepts accepts_too adds.all_stand events ended fit;
      closed_are = closed;
      epochs_are = same_times judged.streams other.streams (events_in (closed_in (set_of judged) events ended)) (events_in (closed_in (set_of other) events ended)) closed;
      lines_are = lines_stay text other_text judged other (events_in (closed_in (set_of judged) events ended)) (events_in (closed_in (set_of other) events ended)) accepts accepts_too adds.all_stand closed;
    }

-- nor a course
pub courses_stay : AddedQueriesChangeNoCourse
courses_stay text other_text judged other events ended accepts accepts_too enlarges none none_too =
    courses-same text other_text judged other accepts accepts_too enlarges events ended (inr (declared-taken text other_text judged other accepts accepts_too enlarges, none, none_too))

-- Sets that differ in the numbers of their streams alone report the same.
use Rattle.std.proofs.Common.{◌≡◌, ◌∙◌, ℕ, List, Bool, refl, sym, ap}
use Rattle.std.specs.List.{AllZip, flat_map}
use Rattle.std.proofs.lemmas.List.Elements.{All-contains}
use Rattle.semantics.specs.Histories.{Event, times}
use Rattle.semantics.specs.Report.{epoch, lines_at}
use Rattle.event_csv.specs.Lines.{Line}
use Rattle.courses.specs.Course.{Course, Moment, after, events_in, start}
use Rattle.courses.specs.Heard.{closed_after, heard_after, heard_from, refused_after}
use Rattle.courses.specs.QuerySet.{QuerySet}
use Rattle.courses.specs.Reports.{course_epoch, course_report}
use Rattle.courses.specs.Sound.{IsSoundCourse}
use Rattle.courses.proofs.HeardLemmas.{heard_in_time}
use Rattle.courses.proofs.MomentLemmas.{in_time-append}
use Rattle.courses.proofs.SoundLemmas.{in_time}
use Rattle.independence.specs.Courses.{AreOneEntry}
use Rattle.independence.specs.Hearing.{AreTheSameEvents}
use Rattle.independence.specs.Independence.{HasTwin}
use Rattle.independence.specs.Renumbered.{DifferInNumbersAlone, NumbersChangeNoReport, ReportTheSame}
use Rattle.independence.proofs.AlikeLemmas.{AreAlike, courses-along, hear-both}
use Rattle.independence.proofs.BothLemmas.{AreNamesakes}
use Rattle.independence.proofs.ClosedLemmas.{at-time, ended-along, same-events}
use Rattle.independence.proofs.CourseLemmas.{GoAlong, HearAlike, along-append, along-end, along-entries}
use Rattle.independence.proofs.EnlargingLemmas.{same_times}
use Rattle.independence.proofs.InsideLemmas.{Tables}
use Rattle.independence.proofs.KeptLemmas.{one-named}
use Rattle.independence.proofs.ReachedLemmas.{Holds, holds}
use Rattle.independence.proofs.ResultLemmas.{twins-inside}
use Rattle.independence.proofs.StartLemmas.{both-moved, heard-moved, read-moved, tables_of}
use Rattle.independence.proofs.ZipLemmas.{zip-joined, zip-weaker}

module _ (set other : QuerySet) (is : Holds set) (is_too : Holds other) (differ : DifferInNumbersAlone set other) where
  abbrev a : Tables
  a = tables_of set is

  abbrev b : Tables
  b = tables_of other is_too

  abbrev Along : Moment → Moment → Type 0
  Along = AreAlike a b differ.number differ.number_back

  -- at first they are alike
  start-along : Along (start set) (start other)
  start-along = record { sets = both-moved set other is is_too differ; seen = refl; is_open = refl }

  -- at moments that are alike an epoch has the same lines
  epoch-along : (history others : List Event) → AreTheSameEvents set.streams other.streams history others → (m n : Moment) → Along m n → (time : ℕ) → epoch m.set.program history time ≡ epoch n.set.program others time
  epoch-along history others same m n along time =
      let all = twins-inside a b differ.number history others (heard-moved set other is is_too differ.number differ.there history others same) m.set n.set along.sets.there in
      zip-joined (lines_at m.set.program history time) (lines_at n.set.program others time) m.set.program.queries n.set.program.queries
      (zip-weaker AreNamesakes (λ q r. lines_at m.set.program history time q ≡ lines_at n.set.program others time r) m.set.program.queries n.set.program.queries
      (λ q r stands stands_too named.
      let has = All-contains (HasTwin m.set.program n.set.program history others) m.set.program.queries q all stands in
      let one = one-named is_too.declared n.set.streams n.set.program along.sets.there.kept_too has.twin r has.stands stands_too (has.same_name ∙ named) in
      sym (has.same_lines time) ∙ ap (lines_at n.set.program others time) one) along.sets.names)

  -- courses that go along have the same report
  report-along : (course other_course : Course) → GoAlong a b Along (start set) (start other) course other_course → course_report set course ≡ course_report other other_course
  report-along course other_course along = λ i. flat_map (λ time. epoch-same time i) (times-same i)
    where
      events-same : AreTheSameEvents set.streams other.streams (events_in course) (events_in other_course)
      events-same = same-events a b course other_course (along-entries a b Along (start set) (start other) course other_course along)

      times-same : times (events_in course) ≡ times (events_in other_course)
      times-same = same_times set.streams other.streams (events_in course) (events_in other_course) events-same

      epoch-same : (time : ℕ) → course_epoch set course time ≡ course_epoch other other_course time
      epoch-same time =
          let at = at-time a b Along (start set) (start other) course other_course along time in
          ap (λ program. epoch program (events_in course) time) at.program_is ∙ epoch-along (events_in course) (events_in other_course) events-same at.moment at.twin at.along time
          ∙ ap (λ program. epoch program (events_in other_course) time) (sym at.other_is)

  module _ (past other_past : Course) (lines : List Line) (sound : IsSoundCourse set past) (sound_too : IsSoundCourse other other_past) (same : AllZip (AreOneEntry set.streams other.streams) past other_past) where
    past-along : GoAlong a b Along (start set) (start other) past other_past
    past-along = courses-along a b differ.number differ.number_back (start set) (start other) past other_past start-along sound sound_too same

    -- what a text says behind the courses is heard alike
    heard : HearAlike a b Along (after (start set) past) (after (start other) other_past) lines
    heard =
        hear-both a b differ.number differ.number_back (read-moved set other is is_too differ) lines (after (start set) past) (after (start other) other_past)
        (along-end a b Along (start set) (start other) past other_past past-along)

    all-along : GoAlong a b Along (start set) (start other) (heard_after set past lines) (heard_after other other_past lines)
    all-along =
        along-append a b Along (start set) (start other) past other_past (heard_from (after (start set) past) lines) (heard_from (after (start other) other_past) lines) past-along heard.heard_are

    closed-along : (ended : Bool) → GoAlong a b Along (start set) (start other) (closed_after set past lines ended) (closed_after other other_past lines ended)
    closed-along ended =
        ended-along a b Along (λ m n along. (along.seen, along.is_open)) (start set) (start other) (heard_after set past lines) (heard_after other other_past lines) all-along
        (in_time-append (start set) past (heard_from (after (start set) past) lines) (in_time (start set) past sound) (heard_in_time lines (after (start set) past)))
        (in_time-append (start other) other_past (heard_from (after (start other) other_past) lines) (in_time (start other) other_past sound_too) (heard_in_time lines (after (start other) other_past)))
        ended (refused_after set past lines) (refused_after other other_past lines) heard.refused_is

    pub reports-same : (ended : Bool) → ReportTheSame set other past other_past lines ended
    reports-same ended = record {
      refused_is = heard.refused_is;
      heard_are = along-entries a b Along (start set) (start other) (heard_after set past lines) (heard_after other other_past lines) all-along;
      closed_are = along-entries a b Along (start set) (start other) (closed_after set past lines ended) (closed_after other other_past lines ended) (closed-along ended);
      report_is = report-along (closed_after set past lines ended) (closed_after other other_past lines ended) (closed-along ended);
    }

-- the numbers of streams change nothing
pub numbers_change_nothing : NumbersChangeNoReport
numbers_change_nothing set other past other_past lines ended reached reached_too differ sound sound_too same = reports-same set other (holds set reached) (holds other reached_too) differ past other_past lines sound sound_too same ended

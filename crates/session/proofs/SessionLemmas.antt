-- What a session stands for, once more bytes have come.
use Rattle.std.specs.Option.{IfSome, option_or}
use Rattle.std.proofs.Common.{◌≡◌, ◌∙◌, sym, ap, refl, subst, ℕ, ◌+◌, ◌-◌, ◌≤◌, Bool, false, is_some, List, [], ◌∷◌, ◌++◌, length, take, Option, Some, None, append_assoc, append-nil, arith}
use Rattle.std.proofs.Math.Seq.{take-append-add}
use Rattle.std.proofs.lemmas.List.Sums.{sum_by-append}
use Rattle.semantics.specs.Histories.{Event}
use Rattle.epoch_engine.specs.EngineStandsFor as engines
use Rattle.epoch_engine.specs.EngineView as engine
use Rattle.cay_host.specs.Output.{Wrote, WrotePart}
use Rattle.cay_host.specs.Told.{Told}
use Rattle.catalogue.specs.Standing.{IsLayoutOver}
use Rattle.change_laws.specs.AtOne.{AreAtOne}
use Rattle.epoch_laws.specs.Standing.{closed_part, last_time}
use Rattle.epoch_laws.specs.BornLines.{BornLine}
use Rattle.birth_laws.specs.BornChains.{born_lines}
use Rattle.event_csv.specs.Fed.{Fed, IsPart, fed_more, line_feeds_in, unread_lines, unfed}
use Rattle.event_csv.specs.Lines.{Line, lines, lines_from}
use Rattle.event_csv.proofs.LineFacts.{lines_from-nil, strip_bom-short}
use Rattle.courses.specs.Course.{Adds, Course, Drops, Hears, Moment, after, after_entry, events_in, set_after, start}
use Rattle.courses.specs.Heard.{closed_after, heard_after, heard_from, refused_after, refused_from}
use Rattle.courses.specs.QuerySet.{QuerySet, set_in}
use Rattle.courses.specs.Reports.{course_report}
use Rattle.courses.specs.Sound.{IsSoundCourse}
use Rattle.courses.proofs.HeardLemmas.{GoOnAfter, closed_on, go_on_after, heard_in_time}
use Rattle.courses.proofs.MomentLemmas.{AreInTime, after-append, events_in-append, in_time-append}
use Rattle.courses.proofs.SoundLemmas.{in_time}
use Rattle.session.specs.declared.fault.SessionFault.{SessionFault}
use Rattle.session.specs.declared.fault.SessionFault.TheVariants as fault
use Rattle.session.specs.Feeds.{StopsAt}
use Rattle.session.specs.WroteFront.{Beyond, WroteFront}
use Rattle.session.specs.SessionView.{AreDeclared, HasGiven, HasHeard, SessionStandsFor, SessionView, heard_of, moment_of, program_in, refused_of, report_of}
use Rattle.session.specs.Standing.{StandsFor, moment_at, seen_by}
use Rattle.session.specs.HandsOutSomeLines.{HandsOutSomeLines}
use Rattle.session.specs.Owes.{Stage, Stops, left_of, rows_left}
use Rattle.session.proofs.ClosingLemmas.{rows_left_after}
use Rattle.session.proofs.PartsLemmas.{Parts, parts_of}

-- a limit cuts the later bytes
pub cut_within : (text piece : List ℕ) (limit : ℕ) → length text ≤ limit → take limit (text ++ piece) ≡ text ++ take (limit - length text) piece
cut_within text piece limit h =
    let whole : limit ≡ length text + (limit - length text) = omega arith in
    ap (λ n. take n (text ++ piece)) whole ∙ take-append-add text piece (limit - length text)

module _ (text piece : List ℕ) (feed new : Fed) (given : HasGiven text feed) (gone : HandsOutSomeLines (fed_more feed piece) new) (part : IsPart new) where
  lines_on : (more : List ℕ) (ended : Bool) → lines ((text ++ piece) ++ more) ended ≡ (lines text false ++ gone.lines) ++ unread_lines (fed_more new more) ended
  lines_on more ended =
      ap (λ t. lines t ended) (append_assoc text piece more)
      ∙ given.gives (piece ++ more) ended
      ∙ ap (λ r. lines text false ++ unread_lines (record feed { rest = r }) ended) (sym (append_assoc feed.rest piece more))
      ∙ ap (λ ls. lines text false ++ ls) (gone.gives more ended)
      ∙ sym (append_assoc (lines text false) gone.lines (unread_lines (fed_more new more) ended))

  all_given : lines text false ++ gone.lines ≡ lines (text ++ piece) false
  all_given =
      sym (append-nil (lines text false ++ gone.lines))
      ∙ ap (λ ls. (lines text false ++ gone.lines) ++ ls) (sym part.none ∙ ap (λ r. unread_lines (record new { rest = r }) false) (sym (append-nil new.rest)))
      ∙ sym (lines_on [] false)
      ∙ ap (λ t. lines t false) (append-nil (text ++ piece))

  feeds_on : (one two : List ℕ) → line_feeds_in (one ++ two) ≡ line_feeds_in one + line_feeds_in two
  feeds_on one two = sum_by-append _ one two

  -- the feed has given the lines of the longer text
  pub given_more : HasGiven (text ++ piece) new
  given_more = record {
    gives = λ more ended. lines_on more ended ∙ ap (λ ls. ls ++ unread_lines (fed_more new more) ended) all_given;
    none_held = part.no_feed;
    line_feeds =
        let one = feeds_on feed.rest piece in
        let two = feeds_on text piece in
        let before = given.line_feeds in
        gone.feeds ∙ omega (arith, one, two, before);
  }

some_last : (event : Event) (events : List Event) (seen : Option ℕ) → option_or (last_time (event ∷ events)) seen ≡ last_time (event ∷ events)
some_last event [] seen = refl
some_last event (next ∷ events) seen = some_last next events seen

later_last : (event : Event) (events : List Event) (seen : Option ℕ) → option_or (last_time events) (Some event.tuple.at) ≡ option_or (last_time (event ∷ events)) seen
later_last event [] seen = refl
later_last event (next ∷ events) seen = some_last next events (Some event.tuple.at) ∙ sym (some_last next events seen)

-- the time that was seen last is that of the last event: by induction on the course
pub seen_is_last : (m : Moment) (course : Course) → (after m course).seen ≡ option_or (last_time (events_in course)) m.seen
seen_is_last m [] = refl
seen_is_last m (Hears event ∷ course) = seen_is_last (after_entry m (Hears event)) course ∙ later_last event (events_in course) m.seen
seen_is_last m (Adds added ∷ course) = seen_is_last (after_entry m (Adds added)) course
seen_is_last m (Drops query ∷ course) = seen_is_last (after_entry m (Drops query)) course

or_none : (o : Option ℕ) → option_or o None ≡ o
or_none None = refl
or_none (Some n) = refl

-- the time that an engine heard last is that of the history's last event
pub seen_by_last : (now : engine.EngineView) (ls : List BornLine) (history : List Event) → engines.EngineStandsFor now ls history → seen_by now ≡ last_time history
seen_by_last now ls history stands = by_time now.time refl
  where
    by_time : (o : Option ℕ) → now.time ≡ o → option_or now.time now.closed_time ≡ last_time history
    by_time (Some time) e = ap (λ o. option_or o now.closed_time) e ∙ sym (subst (λ o. IfSome o (λ t. last_time history ≡ Some t)) e stands.stands.open_is_last)
    by_time None e = ap (λ o. option_or o now.closed_time) e ∙ sym (subst (λ o. last_time (closed_part o history) ≡ now.closed_time) e stands.stands.closed_is_last)

module _ (session : SessionView) (set : QuerySet) (past : Course) (text : List ℕ) (stands : SessionStandsFor session set past text) where
  -- all that was heard, and its events
  abbrev pub so_far : Course
  so_far = heard_of set past text false

  abbrev pub events_so_far : List Event
  events_so_far = events_in so_far

  -- the moment at which the session is
  abbrev pub now_at : Moment
  now_at = moment_at session.catalogue session.engine

  -- it is that behind all that was heard
  pub moment_is : now_at ≡ moment_of set so_far
  moment_is =
      let seen : seen_by session.engine ≡ (moment_of set so_far).seen =
      seen_by_last session.engine (born_lines (program_in session)) events_so_far stands.heard.works.engine ∙ sym (or_none (last_time events_so_far)) ∙ sym (seen_is_last (start set) so_far) in
      λ i. record { set = stands.heard.holds i; seen = seen i; is_open = stands.heard.opened i }

  -- what was heard came in time
  so_far_in_time : AreInTime (start set) so_far
  so_far_in_time = in_time-append (start set) past (heard_from (after (start set) past) (lines text false)) (in_time (start set) past stands.sound) (heard_in_time (lines text false) (after (start set) past))

  pub parts : Parts set so_far (moment_of set so_far)
  parts = parts_of set so_far so_far_in_time

  -- the engine stands for it
  pub engine_stands : StandsFor session.catalogue events_so_far session.engine
  engine_stands = record { declared = stands.heard.declared; engine = stands.heard.works.engine }

  module _ (piece : List ℕ) (ended : Bool) where
    -- the lines that are left once more bytes have come
    abbrev pub later : List Line
    later = unread_lines (fed_more session.feed piece) ended

    on : GoOnAfter set past (lines text false) later
    on = go_on_after set past (lines text false) later stands.none_refused

    lines_are : lines (text ++ piece) ended ≡ lines text false ++ later
    lines_are = stands.feed.gives piece ended

    -- the first refused line of the longer text is that of the later lines
    pub refused_on : refused_of set past (text ++ piece) ended ≡ refused_from now_at later
    refused_on = ap (refused_after set past) lines_are ∙ on.refused ∙ ap (λ m. refused_from m later) (sym moment_is)

    -- what is heard of the longer text is what was heard so far and what the later lines bring
    pub heard_on : heard_of set past (text ++ piece) ended ≡ so_far ++ heard_from now_at later
    heard_on = ap (heard_after set past) lines_are ∙ on.heard ∙ ap (λ m. so_far ++ heard_from m later) (sym moment_is)

    -- the moment behind it is that behind the later lines
    pub moment_on : moment_of set (heard_of set past (text ++ piece) ended) ≡ after now_at (heard_from now_at later)
    moment_on = ap (after (start set)) heard_on ∙ after-append (start set) so_far (heard_from now_at later) ∙ ap (λ m. after m (heard_from now_at later)) (sym moment_is)

    -- so are its events
    pub events_on : events_in (heard_of set past (text ++ piece) ended) ≡ events_so_far ++ events_in (heard_from now_at later)
    events_on = ap events_in heard_on ∙ events_in-append so_far (heard_from now_at later)

    -- the entries of its closed epochs are those that are closed of what was heard so far and of the later lines
    pub closed_longer : closed_after set past (lines (text ++ piece) ended) ended ≡ closed_after set so_far later ended
    closed_longer = ap (λ ls. closed_after set past ls ended) lines_are ∙ closed_on set past (lines text false) later ended on

    -- its report is longer by the rows of the epochs that these close
    pub report_on : report_of set past (text ++ piece) ended ≡ report_of set past text false ++ rows_left now_at ended later events_so_far
    report_on =
        ap (course_report set) closed_longer
        ∙ sym (rows_left_after set ended later so_far parts)
        ∙ ap (λ m. report_of set past text false ++ rows_left m ended later events_so_far) (sym moment_is)

    module _ (stage : Stage) (at : stage.moment ≡ now_at) (heard : stage.history ≡ events_so_far) (none_owed : stage.rows ≡ []) (a b : Told) where
      -- what was written of the rows is what the report has beyond the earlier one
      pub beyond : (W : List ℕ → Told → Told → Type 0) → W (left_of ended later stage) a b → Beyond W (report_of set past text false) (report_of set past (text ++ piece) ended) a b
      beyond W w = record {
        more = rows_left now_at ended later events_so_far;
        goes_on = report_on;
        wrote = subst (λ t. W t a b) (λ i. none_owed i ++ rows_left (at i) ended later (heard i)) w;
      }

      same_refused : refused_from stage.moment later ≡ refused_of set past (text ++ piece) ended
      same_refused = ap (λ m. refused_from m later) at ∙ sym refused_on

      -- the work on the later lines stopped
      pub stops_at : (stop : SessionFault) → Stops ended later stage a b stop → StopsAt set past text (text ++ piece) ended a b stop
      stops_at (fault.Refused refusal) stops = (sym same_refused ∙ stops.0, beyond Wrote stops.1)
      stops_at (fault.TooMuch limit) stops = absurd stops
      stops_at fault.WriteFault stops = (stops.0, beyond WrotePart stops.1)
      stops_at fault.Memory stops = beyond WroteFront stops

      -- the work on them was done
      pub done_at : refused_from stage.moment later ≡ None → Wrote (left_of ended later stage) a b
          → (refused_of set past (text ++ piece) ended ≡ None) × Beyond Wrote (report_of set past text false) (report_of set past (text ++ piece) ended) a b
      done_at none wrote = (sym same_refused ∙ none, beyond Wrote wrote)

-- an empty text has no lines
no_lines : (ended : Bool) → lines [] ended ≡ []
no_lines ended = ap (λ t. lines_from 0 false t ended) (strip_bom-short [] (omega arith)) ∙ lines_from-nil 0 false ended

-- a feed that was given nothing holds no line
pub unfed_part : IsPart unfed
unfed_part = record { none = no_lines false; short = omega arith; no_feed = refl }

-- a session that was fed nothing stands for the course that its engine and its catalogue have heard
pub begins : (session : SessionView) (set : QuerySet) (past : Course) → session.ended ≡ false → session.fed ≡ 0 → session.feed ≡ unfed → IsSoundCourse set past → set_in session.catalogue ≡ set_after set past → AreDeclared session.catalogue (events_in past)
    → AreAtOne session.catalogue session.engine → IsLayoutOver session.catalogue.streams (program_in session) session.engine.layout → engines.EngineStandsFor session.engine (born_lines (program_in session)) (events_in past) → is_some session.engine.time ≡ (moment_of set past).is_open
    → SessionStandsFor session set past []
begins session set past going fed feed sound holds declared at_one layout stands opened =
    let same : past ≡ heard_of set past [] false = sym (append-nil past) ∙ ap (heard_after set past) (sym (no_lines false)) in
    record {
      going = going;
      within = omega arith;
      sound = sound;
      none_refused = ap (refused_after set past) (no_lines false);
      heard = subst (HasHeard session set) same (record { holds = holds; at_one = at_one; declared = declared; works = record { layout = layout; engine = stands }; opened = opened });
      counted = fed;
      feed = subst (HasGiven []) (sym feed) (record { gives = λ more ended. ap (λ ls. ls ++ unread_lines (fed_more unfed more) ended) (sym (no_lines false)); line_feeds = refl; none_held = refl });
    }

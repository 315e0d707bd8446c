-- What closed epochs bring, one after another; so the report is written.
use Rattle.std.proofs.Common.{◌≡◌, ◌∙◌, sym, ap, refl, ℕ, ◌<◌, Bool, true, false, cond, ◌&&◌, nat_lt, is_some, is_none, List, [], ◌∷◌, ◌++◌, Option, Some, None, Result, Ok, Err, length, append-nil, append_assoc}
use Rattle.std.specs.List.{All}
use Rattle.std.specs.Option.{option_or}
use Rattle.std.proofs.lemmas.Bool.{ltb-true}
use Rattle.semantics.specs.Histories.{Event}
use Rattle.semantics.specs.Programs.{Program}
use Rattle.semantics.specs.Report.{epoch}
use Rattle.event_csv.specs.Lines.{Line}
use Rattle.courses.specs.declared.refusal.Refusal.{Refusal}
use Rattle.courses.specs.declared.refusal.Refusal.TheVariants.{HasControlFault, HasFault}
use Rattle.courses.specs.ControlLines.{EntryFault, OfControl, OfLine, entry_of}
use Rattle.courses.specs.Course.{Adds, Course, CourseEntry, Drops, Hears, Moment, after, after_entry, events_in, set_after, start}
use Rattle.courses.specs.Heard.{after_line, closed_after, entries_in, heard_from, refusal_at, refusal_of, refused_from, without_open}
use Rattle.courses.specs.Laws.{heard_alone}
use Rattle.courses.specs.QuerySet.{QuerySet}
use Rattle.courses.specs.Reports.{course_report}
use Rattle.courses.proofs.MomentLemmas.{IsInTime, after-append, any_number, events_in-append}
use Rattle.courses.proofs.ReportLemmas.{by_epochs, control_entries}
use Rattle.session.specs.Owes.{closes, epoch_rows, is_later, open_time, rows_left}
use Rattle.session.proofs.PartsLemmas.{IsEarlier, IsOf, Parted, Parts, Resting, all_events, event_without, parted_early, parted_without, parts_more, rest_early, rest_without, same_time, same_without}

-- what lines still bring, where an epoch that is closed brings a part and parts are joined
module _ {M : Type 0} (none : M) (join : M → M → M) (part : Program → List Event → ℕ → M) (ended : Bool) where
  -- what an epoch brings, where one is open and these events were heard
  abbrev pub opened : Program → List Event → Option ℕ → M
  opened program history None = none
  opened program history (Some time) = part program history time

  -- what the epoch brings that is open at a moment
  abbrev pub open_part : Moment → List Event → M
  open_part m history = opened m.set.program history (open_time m)

  -- what all closings bring that are still to come of the lines from a moment on
  abbrev pub brought : Moment → List Line → List Event → M
  brought m [] history = cond ended (open_part m history) none
  brought m (line ∷ lines) history =
      cond (is_some (refusal_at m line)) none
      (join (cond (closes m (entry_of m.set line.bytes)) (open_part m history) none) (brought (after_line m line) lines (history ++ events_in (entries_in (entry_of m.set line.bytes)))))

-- events of one later time bring a part more, for the queries that are there before them
abbrev pub GrowsByParts : {M : Type 0} (join : M → M → M) (whole : QuerySet → Course → M) (part : Program → List Event → ℕ → M) → Type 0
GrowsByParts join whole part =
    (set : QuerySet) (before : Course) (now : List Event) (time : ℕ) → All (IsEarlier time) (events_in before) → All (IsOf time) now → 0 < length now
    → whole set (before ++ heard_alone now) ≡ join (whole set before) (part (set_after set before).program (events_in before ++ now) time)

-- entries that are no events bring nothing
abbrev pub StaysByControl : {M : Type 0} (whole : QuerySet → Course → M) → Type 0
StaysByControl whole = (set : QuerySet) (course entries : Course) → events_in entries ≡ [] → whole set (course ++ entries) ≡ whole set course

-- an entry that isn't refused comes in time
in_time : (number : ℕ) (m : Moment) (entry : CourseEntry) → refusal_of number m (Ok entry) ≡ None → IsInTime m entry
in_time number m (Hears event) e = any_number number 0 m.is_open m.seen event.tuple.at e
in_time number m (Adds added) e = tt
in_time number m (Drops query) e = tt

and-false : (b : Bool) → (b && false) ≡ false
and-false true = refl
and-false false = refl

module _ {M : Type 0} (none : M) (join : M → M → M) (join-none : (m : M) → join m none ≡ m) (join-join : (l m n : M) → join (join l m) n ≡ join l (join m n))
    (whole : QuerySet → Course → M) (part : Program → List Event → ℕ → M) (law : GrowsByParts join whole part) (stays : StaysByControl whole) (ended : Bool) (set : QuerySet) where
  abbrev open_brings : Moment → List Event → M
  open_brings = open_part none join part ended

  abbrev to_come : Moment → List Line → List Event → M
  to_come = brought none join part ended

  -- what the closed epochs of a course brought, and the open one, are what all its epochs bring
  whole_is : (past : Course) (m : Moment) → Parts set past m → whole set past ≡ join (whole set (without_open m past)) (open_brings m (events_in past))
  whole_is past m (Resting r) =
      sym (join-none (whole set past)) ∙ (λ i. join (whole set (sym (rest_without past m r.closed) i)) (opened none join part ended m.set.program (events_in past) (cond (sym r.closed i) m.seen None)))
  whole_is past m (Parted p) =
      let all = all_events p in
      ap (whole set) p.all ∙ law set p.before p.now p.time p.early p.same p.some
      ∙ (λ i. join (whole set (sym (parted_without set past m p) i)) (part (sym p.set_is i).program (sym all i) p.time))
      ∙ (λ i. join (whole set (without_open m past)) (opened none join part ended m.set.program (events_in past) (cond (sym p.is_open i) (sym p.seen i) None)))

  -- an entry that is no event closes the open epoch
  control_step : (past : Course) (m : Moment) (entry : CourseEntry) → Parts set past m → events_in (entry ∷ []) ≡ [] → (after_entry m entry).is_open ≡ false
      → whole set (without_open (after_entry m entry) (past ++ entry ∷ [])) ≡ join (whole set (without_open m past)) (open_brings m (events_in past))
  control_step past m entry parts no_event closed =
      ap (whole set) (rest_without (past ++ entry ∷ []) (after_entry m entry) closed) ∙ stays set past (entry ∷ []) no_event ∙ whole_is past m parts

  -- what an entry brings that comes in time is what it closes
  step : (past : Course) (m : Moment) (entry : CourseEntry) → Parts set past m → IsInTime m entry
      → whole set (without_open (after_entry m entry) (past ++ entry ∷ [])) ≡ join (whole set (without_open m past)) (cond (closes m (Ok entry)) (open_brings m (events_in past)) none)
  step past m (Adds added) parts timely = control_step past m (Adds added) parts refl refl
  step past m (Drops query) parts timely = control_step past m (Drops query) parts refl refl
  step past m (Hears event) (Resting r) timely =
      ap (whole set) (event_without past m event (rest_early past m event r timely) ∙ sym (rest_without past m r.closed))
      ∙ sym (join-none (whole set (without_open m past)))
      ∙ (λ i. join (whole set (without_open m past)) (cond (is_later (cond (sym r.closed i) m.seen None) event.tuple.at) (open_brings m (events_in past)) none))
  step past m (Hears event) (Parted p) timely = by_later (nat_lt p.time event.tuple.at) refl
    where
      closing : (b : Bool) → nat_lt p.time event.tuple.at ≡ b → cond b (open_brings m (events_in past)) none ≡ cond (closes m (Ok (Hears event))) (open_brings m (events_in past)) none
      closing b e = ap (λ c. cond c (open_brings m (events_in past)) none) (sym e ∙ (λ i. is_later (cond (sym p.is_open i) (sym p.seen i) None) event.tuple.at))

      by_later : (b : Bool) → nat_lt p.time event.tuple.at ≡ b
          → whole set (without_open (after_entry m (Hears event)) (past ++ Hears event ∷ [])) ≡ join (whole set (without_open m past)) (cond (closes m (Ok (Hears event))) (open_brings m (events_in past)) none)
      by_later true e =
          ap (whole set) (event_without past m event (parted_early set past m event.tuple.at p (ltb-true _ _ e))) ∙ whole_is past m (Parted p) ∙ ap (join (whole set (without_open m past))) (closing true e)
      by_later false e =
          ap (whole set) (same_without set past m event p (same_time set past m event p timely e)) ∙ sym (join-none (whole set (without_open m past))) ∙ ap (join (whole set (without_open m past))) (closing false e)

  -- what is closed of a course and of the lines behind it
  abbrev closed_then : List Line → Course → Moment → Course
  closed_then lines past m =
      cond (ended && is_none (refused_from m lines)) (past ++ heard_from m lines) (without_open (after m (heard_from m lines)) (past ++ heard_from m lines))

  abbrev Law : List Line → Type 0
  Law lines = (past : Course) (m : Moment) → m ≡ after (start set) past → Parts set past m → join (whole set (without_open m past)) (to_come m lines (events_in past)) ≡ whole set (closed_then lines past m)

  -- nothing more is heard
  none_more : (past : Course) (m : Moment) → join (whole set (without_open m past)) none ≡ whole set (without_open m (past ++ []))
  none_more past m = join-none _ ∙ ap (λ c. whole set (without_open m c)) (sym (append-nil past))

  end_law : (past : Course) (m : Moment) → Parts set past m → (b : Bool) → join (whole set (without_open m past)) (cond b (open_brings m (events_in past)) none) ≡ whole set (cond (b && true) (past ++ []) (without_open m (past ++ [])))
  end_law past m parts true = sym (whole_is past m parts) ∙ ap (whole set) (sym (append-nil past))
  end_law past m parts false = none_more past m

  -- what is to be shown of a line that says this, by its refusal
  abbrev Goal : Course → Moment → List Line → Result CourseEntry EntryFault → Option Refusal → Type 0
  Goal past m lines found refusal =
      let n = after m (entries_in found) in
      let heard : Course = cond (is_some refusal) [] (entries_in found ++ heard_from n lines) in
      join (whole set (without_open m past)) (cond (is_some refusal) none (join (cond (closes m found) (open_brings m (events_in past)) none) (to_come n lines (events_in past ++ events_in (entries_in found)))))
      ≡ whole set (cond (ended && is_none (option_or refusal (refused_from n lines))) (past ++ heard) (without_open (after m heard) (past ++ heard)))

  refused_law : (past : Course) (m : Moment) (lines : List Line) (found : Result CourseEntry EntryFault) (refusal : Refusal) → Goal past m lines found (Some refusal)
  refused_law past m lines found refusal = none_more past m ∙ ap (λ b. whole set (cond b (past ++ []) (without_open m (past ++ [])))) (sym (and-false ended))

  entry_law : (past : Course) (m : Moment) (lines : List Line) (entry : CourseEntry) → Law lines → m ≡ after (start set) past → Parts set past m → IsInTime m entry → Goal past m lines (Ok entry) None
  entry_law past m lines entry ih is parts timely =
      let n = after_entry m entry in
      let more = past ++ entry ∷ [] in
      let hs = heard_from n lines in
      let moment : n ≡ after (start set) more = ap (λ k. after_entry k entry) is ∙ sym (after-append (start set) past (entry ∷ [])) in
      sym (join-join (whole set (without_open m past)) (cond (closes m (Ok entry)) (open_brings m (events_in past)) none) (to_come n lines (events_in past ++ events_in (entry ∷ []))))
      ∙ ap (λ w. join w (to_come n lines (events_in past ++ events_in (entry ∷ [])))) (sym (step past m entry parts timely))
      ∙ ap (λ events. join (whole set (without_open n more)) (to_come n lines events)) (sym (events_in-append past (entry ∷ [])))
      ∙ ih more n moment (parts_more set past m entry is parts timely)
      ∙ ap (λ c. whole set (cond (ended && is_none (refused_from n lines)) c (without_open (after n hs) c))) (append_assoc past (entry ∷ []) hs)

  line_law : (past : Course) (m : Moment) (number : ℕ) (lines : List Line) → Law lines → m ≡ after (start set) past → Parts set past m → (found : Result CourseEntry EntryFault) → Goal past m lines found (refusal_of number m found)
  line_law past m number lines ih is parts (Err (OfLine why)) = refused_law past m lines (Err (OfLine why)) (HasFault number why)
  line_law past m number lines ih is parts (Err (OfControl why)) = refused_law past m lines (Err (OfControl why)) (HasControlFault number why)
  line_law past m number lines ih is parts (Ok entry) = by_refusal (refusal_of number m (Ok entry)) refl
    where
      by_refusal : (o : Option Refusal) → refusal_of number m (Ok entry) ≡ o → Goal past m lines (Ok entry) o
      by_refusal None e = entry_law past m lines entry ih is parts (in_time number m entry e)
      by_refusal (Some refusal) e = refused_law past m lines (Ok entry) refusal

  -- by induction on the lines: what the closed epochs brought and what is to come is what all closed epochs bring
  pub brought_after : (lines : List Line) → Law lines
  brought_after [] past m is parts = end_law past m parts ended
  brought_after (line ∷ lines) past m is parts = line_law past m line.number lines (brought_after lines) is parts (entry_of m.set line.bytes)

module _ (set : QuerySet) (ended : Bool) where
  abbrev rows_brought : Moment → List Line → List Event → List ℕ
  rows_brought = brought [] (λ xs ys. xs ++ ys) epoch ended

  open_rows_are : (program : Program) (history : List Event) (time : Option ℕ) → epoch_rows program history time ≡ opened [] (λ xs ys. xs ++ ys) epoch ended program history time
  open_rows_are program history None = refl
  open_rows_are program history (Some time) = refl

  -- the rows that are to come, epoch by epoch, by induction on the lines
  rows_are_brought : (m : Moment) (lines : List Line) (history : List Event) → rows_left m ended lines history ≡ rows_brought m lines history
  rows_are_brought m [] history = ap (λ rows. cond ended rows []) (open_rows_are m.set.program history (open_time m))
  rows_are_brought m (line ∷ lines) history =
      λ i. cond (is_some (refusal_at m line)) []
      (cond (closes m (entry_of m.set line.bytes)) (open_rows_are m.set.program history (open_time m) i) [] ++ rows_are_brought (after_line m line) lines (history ++ events_in (entries_in (entry_of m.set line.bytes))) i)

  -- the report of what is closed of a course, and the rows that come after it, are the report of what is closed then
  pub rows_left_after : (lines : List Line) (past : Course) → Parts set past (after (start set) past)
      → course_report set (without_open (after (start set) past) past) ++ rows_left (after (start set) past) ended lines (events_in past) ≡ course_report set (closed_after set past lines ended)
  rows_left_after lines past parts =
      let m = after (start set) past in
      ap (λ rows. course_report set (without_open m past) ++ rows) (rows_are_brought m lines (events_in past))
      ∙ brought_after [] (λ xs ys. xs ++ ys) append-nil append_assoc course_report epoch by_epochs control_entries ended set lines past m refl parts
      ∙ ap (λ n. course_report set (cond (ended && is_none (refused_from m lines)) (past ++ heard_from m lines) (without_open n (past ++ heard_from m lines)))) (sym (after-append (start set) past (heard_from m lines)))

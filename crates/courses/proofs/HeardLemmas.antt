-- What is heard of lines that come after others, and which of them is refused.
use Rattle.std.proofs.Common.{◌≡◌, ◌∙◌, sym, ap, refl, Bool, cond, ◌&&◌, is_some, is_none, List, [], ◌∷◌, ◌++◌, Option, Some, None, Result, Ok, Err, append_assoc, append-nil}
use Rattle.std.specs.Option.{option_or}
use Rattle.event_csv.specs.Lines.{Line}
use Rattle.courses.specs.declared.refusal.Refusal.{Refusal}
use Rattle.courses.specs.ControlLines.{EntryFault, OfControl, OfLine, entry_of}
use Rattle.courses.specs.Course.{Adds, Course, CourseEntry, Drops, Hears, Moment, after, after_entry, set_after, start}
use Rattle.courses.specs.Heard.{closed_after, disorder, entries_in, heard_after, heard_from, refusal_at, refusal_of, refused_after, refused_from, without_open}
use Rattle.courses.specs.QuerySet.{QuerySet}
use Rattle.courses.proofs.MomentLemmas.{AreInTime, after-append, any_number}

-- where neither of two lines is refused, the first isn't
pub first_none : (o p : Option Refusal) → option_or o p ≡ None → o ≡ None
first_none None p e = refl
first_none (Some refusal) p e = cc

-- what is heard of a line with these entries, which may be refused, and of those behind it
abbrev heard_by : Moment → Option Refusal → Course → List Line → Course
heard_by m o entries lines = cond (is_some o) [] (entries ++ heard_from (after m entries) lines)

-- the later lines are refused, and heard, as after the earlier ones
pub record GoOn (m : Moment) (lines more : List Line) : Type 0 where
  pub refused : refused_from m (lines ++ more) ≡ refused_from (after m (heard_from m lines)) more
  pub heard : heard_from m (lines ++ more) ≡ heard_from m lines ++ heard_from (after m (heard_from m lines)) more

-- the same behind one more line
record GoOnBehind (m : Moment) (o : Option Refusal) (entries : Course) (lines more : List Line) : Type 0 where
  refused : option_or o (refused_from (after m entries) (lines ++ more)) ≡ refused_from (after m (heard_by m o entries lines)) more
  heard : heard_by m o entries (lines ++ more) ≡ heard_by m o entries lines ++ heard_from (after m (heard_by m o entries lines)) more

go_on_line : (m : Moment) (o : Option Refusal) (entries : Course) (lines more : List Line)
    → option_or o (refused_from (after m entries) lines) ≡ None → ((n : Moment) → refused_from n lines ≡ None → GoOn n lines more) → GoOnBehind m o entries lines more
go_on_line m None entries lines more e rest =
    let n = after m entries in
    let then = rest n e in
    let moments : after n (heard_from n lines) ≡ after m (entries ++ heard_from n lines) = sym (after-append m entries (heard_from n lines)) in
    record {
      refused = then.refused ∙ ap (λ k. refused_from k more) moments;
      heard = ap (λ h. entries ++ h) then.heard ∙ sym (append_assoc entries (heard_from n lines) (heard_from (after n (heard_from n lines)) more))
          ∙ ap (λ k. (entries ++ heard_from n lines) ++ heard_from k more) moments;
    }
go_on_line m (Some refusal) entries lines more e rest = cc

-- by induction on the earlier lines
pub go_on : (lines more : List Line) (m : Moment) → refused_from m lines ≡ None → GoOn m lines more
go_on [] more m none = record { refused = refl; heard = refl }
go_on (line ∷ lines) more m none =
    let behind = go_on_line m (refusal_at m line) (entries_in (entry_of m.set line.bytes)) lines more none (λ n e. go_on lines more n e) in record { refused = behind.refused; heard = behind.heard }

-- the later lines are refused, heard and closed as after a course that goes on by the earlier ones
pub record GoOnAfter (set : QuerySet) (past : Course) (lines more : List Line) : Type 0 where
  pub refused : refused_after set past (lines ++ more) ≡ refused_after set (heard_after set past lines) more
  pub heard : heard_after set past (lines ++ more) ≡ heard_after set (heard_after set past lines) more

pub go_on_after : (set : QuerySet) (past : Course) (lines more : List Line) → refused_after set past lines ≡ None → GoOnAfter set past lines more
go_on_after set past lines more none =
    let m = after (start set) past in
    let then = go_on lines more m none in
    let moments : after m (heard_from m lines) ≡ after (start set) (past ++ heard_from m lines) = sym (after-append (start set) past (heard_from m lines)) in
    record {
      refused = then.refused ∙ ap (λ k. refused_from k more) moments;
      heard = ap (λ h. past ++ h) then.heard ∙ sym (append_assoc past (heard_from m lines) (heard_from (after m (heard_from m lines)) more)) ∙ ap (λ k. (past ++ heard_from m lines) ++ heard_from k more) moments;
    }

-- and the same epochs are closed
pub closed_on : (set : QuerySet) (past : Course) (lines more : List Line) (ended : Bool) → GoOnAfter set past lines more → closed_after set past (lines ++ more) ended ≡ closed_after set (heard_after set past lines) more ended
closed_on set past lines more ended on = λ i. cond (ended && is_none (on.refused i)) (on.heard i) (without_open (after (start set) (on.heard i)) (on.heard i))

-- what is heard of one line that isn't refused
heard_line : (m : Moment) (line : Line) (entry : CourseEntry) → refusal_at m line ≡ None → entry_of m.set line.bytes ≡ Ok entry → heard_from m (line ∷ []) ≡ entry ∷ []
heard_line m line entry none e = λ i. cond (is_some (none i)) [] (entries_in (e i) ++ [])

refused_line : (m : Moment) (line : Line) → refusal_at m line ≡ None → refused_from m (line ∷ []) ≡ None
refused_line m line none = ap (λ o. option_or o None) none

-- a line that isn't refused stands at the end of the course
pub one_more : (set : QuerySet) (past : Course) (line : Line) (lines : List Line) (entry : CourseEntry) → refusal_at (after (start set) past) line ≡ None → entry_of (set_after set past) line.bytes ≡ Ok entry
    → (refused_after set past (line ∷ lines) ≡ refused_after set (past ++ entry ∷ []) lines) × (heard_after set past (line ∷ lines) ≡ heard_after set (past ++ entry ∷ []) lines)
one_more set past line lines entry none e =
    let m = after (start set) past in
    let on = go_on_after set past (line ∷ []) lines (refused_line m line none) in
    let heard : heard_after set past (line ∷ []) ≡ past ++ entry ∷ [] = ap (λ h. past ++ h) (heard_line m line entry none e) in
    (on.refused ∙ ap (λ h. refused_after set h lines) heard, on.heard ∙ ap (λ h. heard_after set h lines) heard)

-- a line that is refused is the first one, and nothing of it and of those behind it is heard
pub refused_here : (set : QuerySet) (past : Course) (line : Line) (lines : List Line) (refusal : Refusal) → refusal_at (after (start set) past) line ≡ Some refusal
    → (refused_after set past (line ∷ lines) ≡ Some refusal) × (heard_after set past (line ∷ lines) ≡ past)
refused_here set past line lines refusal e =
    let m = after (start set) past in
    (ap (λ o. option_or o (refused_from (after m (entries_in (entry_of m.set line.bytes))) lines)) e, ap (λ o. past ++ heard_by m o (entries_in (entry_of m.set line.bytes)) lines) e ∙ append-nil past)

-- a refused line stays refused
pub stays_refused : (m : Moment) (first more : List Line) (refusal : Refusal) → refused_from m first ≡ Some refusal → refused_from m (first ++ more) ≡ Some refusal
stays_refused m [] more refusal e = cc
stays_refused m (line ∷ first) more refusal e = by_refusal (refusal_at m line) (after m (entries_in (entry_of m.set line.bytes))) e (λ n f. stays_refused n first more refusal f)
  where
    by_refusal : (o : Option Refusal) (n : Moment) → option_or o (refused_from n first) ≡ Some refusal → ((n : Moment) → refused_from n first ≡ Some refusal → refused_from n (first ++ more) ≡ Some refusal)
        → option_or o (refused_from n (first ++ more)) ≡ Some refusal
    by_refusal None n e rest = rest n e
    by_refusal (Some x) n e rest = e

-- and nothing behind it is heard
pub stays_heard : (m : Moment) (first more : List Line) (refusal : Refusal) → refused_from m first ≡ Some refusal → heard_from m (first ++ more) ≡ heard_from m first
stays_heard m [] more refusal e = cc
stays_heard m (line ∷ first) more refusal e = by_refusal (refusal_at m line) (entries_in (entry_of m.set line.bytes)) e (λ n f. stays_heard n first more refusal f)
  where
    by_refusal : (o : Option Refusal) (entries : Course) → option_or o (refused_from (after m entries) first) ≡ Some refusal → ((n : Moment) → refused_from n first ≡ Some refusal → heard_from n (first ++ more) ≡ heard_from n first)
        → heard_by m o entries (first ++ more) ≡ heard_by m o entries first
    by_refusal None entries e rest = ap (λ h. entries ++ h) (rest (after m entries) e)
    by_refusal (Some x) entries e rest = refl

-- what is heard comes in time: an induction on the lines
pub heard_in_time : (lines : List Line) (m : Moment) → AreInTime m (heard_from m lines)
heard_in_time [] m = tt
heard_in_time (line ∷ lines) m = by_found (entry_of m.set line.bytes) (λ n. heard_in_time lines n)
  where
    by_found : (found : Result CourseEntry EntryFault) → ((n : Moment) → AreInTime n (heard_from n lines)) → AreInTime m (heard_by m (refusal_of line.number m found) (entries_in found) lines)
    by_found (Ok (Hears event)) rest = by_late (disorder line.number m.is_open m.seen event.tuple.at) refl
      where
        by_late : (o : Option Refusal) → disorder line.number m.is_open m.seen event.tuple.at ≡ o → AreInTime m (heard_by m o (Hears event ∷ []) lines)
        by_late None e = (any_number line.number 0 m.is_open m.seen event.tuple.at e, rest (after_entry m (Hears event)))
        by_late (Some refusal) e = tt
    by_found (Ok (Adds added)) rest = (tt, rest (after_entry m (Adds added)))
    by_found (Ok (Drops query)) rest = (tt, rest (after_entry m (Drops query)))
    by_found (Err (OfLine why)) rest = tt
    by_found (Err (OfControl why)) rest = tt

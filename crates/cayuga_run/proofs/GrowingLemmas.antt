-- What more bytes of an event text leave as it was: a refused line, and the report before it.
use Rattle.std.proofs.Common.{◌≡◌, ◌∙◌, sym, ap, refl, ℕ, List, [], ◌++◌, Bool, true, false, cond, ◌&&◌, is_none, Some}
use Rattle.event_csv.specs.Lines.{Line, lines}
use Rattle.courses.specs.declared.refusal.Refusal.{Refusal}
use Rattle.courses.specs.Course.{Course, after, start}
use Rattle.courses.specs.Heard.{closed_after, heard_after, refused_after, without_open}
use Rattle.courses.specs.QuerySet.{QuerySet}
use Rattle.courses.specs.Reports.{course_report, refused_in, report_of_closed}
use Rattle.courses.proofs.ClosedLemmas.{lines_on}
use Rattle.courses.proofs.HeardLemmas.{stays_heard, stays_refused}

and-false : (b : Bool) → (b && false) ≡ false
and-false true = refl
and-false false = refl

-- what stays of the course where the open epoch is left out
abbrev front_of : QuerySet → Course → Course
front_of set course = without_open (after (start set) course) course

-- what a refused line closes doesn't hang on the end of the text
closed_refused : (set : QuerySet) (found : List Line) (ended : Bool) (refusal : Refusal) → refused_after set [] found ≡ Some refusal → closed_after set [] found ended ≡ front_of set (heard_after set [] found)
closed_refused set found ended refusal e =
    let heard = heard_after set [] found in
    ap (λ o. cond (ended && is_none o) heard (front_of set heard)) e ∙ ap (λ b. cond b heard (front_of set heard)) (and-false ended)

-- more bytes leave a refused line and the report before it as they are
pub more_bytes : (set : QuerySet) (x y : List ℕ) (ended : Bool) (refusal : Refusal) → refused_in set x false ≡ Some refusal
    → (refused_in set (x ++ y) ended ≡ Some refusal) × (report_of_closed set x false ≡ report_of_closed set (x ++ y) ended)
more_bytes set x y ended refusal e =
    let on = lines_on x y ended in
    let first = lines x false in
    let later : refused_after set [] (first ++ on.0) ≡ Some refusal = stays_refused (start set) first on.0 refusal e in
    let same : closed_after set [] (first ++ on.0) ended ≡ closed_after set [] first false =
    closed_refused set (first ++ on.0) ended refusal later ∙ ap (front_of set) (stays_heard (start set) first on.0 refusal e) ∙ sym (closed_refused set first false refusal e) in
    (ap (refused_after set []) on.1 ∙ later, sym (ap (λ found. course_report set (closed_after set [] found ended)) on.1 ∙ ap (course_report set) same))

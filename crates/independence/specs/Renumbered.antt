-- Sets of queries that differ in the numbers of their streams alone.
use Rattle.std.specs.Prelude.{◌≡◌, ℕ, Bool, List, Option, None, Some, Contains, slice_get}
use Rattle.std.specs.List.{AllZip}
use Rattle.semantics.specs.Programs.{Query}
use Rattle.semantics.specs.Reading.{renumbered}
use Rattle.stream_schema.specs.Streams.{Entry, IsRetired}
use Rattle.event_csv.specs.Lines.{Line}
use Rattle.catalogue.specs.Adding.{AddedQuery, JudgesAdded, Taken}
use Rattle.catalogue.specs.Judgement.{Accepts, Judged}
use Rattle.courses.specs.ControlLines.{first_reader}
use Rattle.courses.specs.Course.{Course}
use Rattle.courses.specs.Heard.{closed_after, heard_after, refused_after}
use Rattle.courses.specs.QuerySet.{QuerySet, set_of, with_added, without}
use Rattle.courses.specs.Reports.{course_report}
use Rattle.courses.specs.Sound.{IsSoundCourse}
use Rattle.independence.specs.Courses.{AreOneEntry}

-- a set that is reached from an accepted text: that of the text, one to which a text added a query, or one from which a query left that none read
pub data IsReached : QuerySet → Type 0 where
  loaded : (text : List ℕ) (judged : Judged) → Accepts text judged → IsReached (set_of judged)
  added : (set : QuerySet) (text : List ℕ) (query : AddedQuery) (birth : Option ℕ) → IsReached set → JudgesAdded set.streams text (Taken query) → IsReached (with_added set query birth)
  dropped : (set : QuerySet) (query : Query) → IsReached set → Contains set.program.queries query → first_reader set query.stream ≡ None → IsReached (without set query)

-- each stream that is neither retired nor hidden stands under its new number among the others
abbrev pub StandAmong : (ℕ → ℕ) → List Entry → List Entry → Type 0
StandAmong number streams others = (n : ℕ) (stream : Entry) → slice_get streams n ≡ Some stream → (IsRetired streams n → ⊥) → slice_get others (number n) ≡ Some stream

-- one query, up to the numbers of the streams
pub record AreOneQuery (number : ℕ → ℕ) (query other : Query) : Type 0 where
  pub names_are : query.name ≡ other.name
  pub streams_are : number query.stream ≡ other.stream
  pub expressions_are : renumbered number query.expr ≡ other.expr
  pub births_are : query.birth ≡ other.birth

-- the other set has the same streams by their names, attributes and declarations, and the same queries in the same order, under new numbers
pub record HasAll (number : ℕ → ℕ) (set other : QuerySet) : Type 0 where
  pub streams_are : StandAmong number set.streams other.streams
  pub queries_are : AllZip (AreOneQuery number) set.program.queries other.program.queries

-- each has all of the other
pub record DifferInNumbersAlone (set other : QuerySet) : Type 0 where
  pub number : ℕ → ℕ
  pub number_back : ℕ → ℕ
  pub there : HasAll number set other
  pub back : HasAll number_back other set

-- behind two courses the same line is refused with the same fault, the same entries are heard and closed, and the report is the same
pub record ReportTheSame (set other : QuerySet) (past other_past : Course) (lines : List Line) (ended : Bool) : Type 0 where
  pub refused_is : refused_after set past lines ≡ refused_after other other_past lines
  pub heard_are : AllZip (AreOneEntry set.streams other.streams) (heard_after set past lines) (heard_after other other_past lines)
  pub closed_are : AllZip (AreOneEntry set.streams other.streams) (closed_after set past lines ended) (closed_after other other_past lines ended)
  pub report_is : course_report set (closed_after set past lines ended) ≡ course_report other (closed_after other other_past lines ended)

-- sets that differ in the numbers of their streams alone, those of retired and hidden streams included, report the same behind sound courses of the same entries, whatever event lines and control lines come
abbrev pub NumbersChangeNoReport : Type 0
NumbersChangeNoReport =
    (set other : QuerySet) (past other_past : Course) (lines : List Line) (ended : Bool) → IsReached set → IsReached other → DifferInNumbersAlone set other
    → IsSoundCourse set past → IsSoundCourse other other_past → AllZip (AreOneEntry set.streams other.streams) past other_past → ReportTheSame set other past other_past lines ended

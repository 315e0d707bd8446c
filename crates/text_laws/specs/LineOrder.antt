-- Event texts of the same lines in another order.
use Rattle.std.specs.Prelude.{◌≡◌, ℕ, List}
use Rattle.std.specs.List.Sorted.{IsPermutation}
use Rattle.courses.specs.QuerySet.{QuerySet}
use Rattle.text_laws.specs.Wholes.{IsHeardWhole, line_texts, report_of}

-- the same lines, of which neither text has one refused; so only lines of one detection time change places
pub record AreReorderedLines (set : QuerySet) (events others : List ℕ) : Type 0 where
  pub same_lines : IsPermutation (line_texts events) (line_texts others)
  pub none_refused : IsHeardWhole set events
  pub none_of_others_refused : IsHeardWhole set others

-- then the report is the same, byte by byte
abbrev pub LineOrderWithinEpochsChangesNoReport : Type 0
LineOrderWithinEpochsChangesNoReport = (set : QuerySet) (events others : List ℕ) → AreReorderedLines set events others → report_of set events ≡ report_of set others

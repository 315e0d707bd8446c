-- Laws of the first passes: what they tell of a text or of its statements is settled.
use Rattle.std.specs.Prelude.{◌≡◌, ℕ, List, length}
use Rattle.cel_grammar.specs.Trees.{Statement}
use Rattle.resubscribe.specs.Order.{IsOrder}
use Rattle.catalogue.specs.declared.fault.QueryFault.{QueryFault}
use Rattle.catalogue.specs.Arranging.{AreSound, FailInNames, HaveCycle}
use Rattle.catalogue.specs.Filing.{FailsAsFile, IsFileWithinLimit}
use Rattle.catalogue.specs.Reading.{reads_in}

-- one fault on one line
pub record SameFault (line other_line : ℕ) (why other : QueryFault) : Type 0 where
  pub lines : line ≡ other_line
  pub faults : why ≡ other

-- the same statements on the same lines
pub record SameFile (statements others : List Statement) (lines other_lines : List ℕ) : Type 0 where
  pub statements_are : statements ≡ others
  pub lines_are : lines ≡ other_lines

-- a text is at most one file
abbrev pub OneFile : Type 0
OneFile = (text : List ℕ) (ss others : List Statement) (lines other_lines : List ℕ) → IsFileWithinLimit text ss lines → IsFileWithinLimit text others other_lines → SameFile ss others lines other_lines

-- a text has at most one fault as a file
abbrev pub OneFileFault : Type 0
OneFileFault = (text : List ℕ) (line other_line : ℕ) (why other : QueryFault) → FailsAsFile text line why → FailsAsFile text other_line other → SameFault line other_line why other

-- a text that is a file has no fault as one
abbrev pub FileOrFault : Type 0
FileOrFault = (text : List ℕ) (ss : List Statement) (lines : List ℕ) (line : ℕ) (why : QueryFault) → IsFileWithinLimit text ss lines → FailsAsFile text line why → ⊥

-- the names of statements have at most one first fault
abbrev pub OneNameFault : Type 0
OneNameFault = (ss : List Statement) (lines : List ℕ) (line other_line : ℕ) (why other : QueryFault) → length lines ≡ length ss → FailInNames ss lines line why → FailInNames ss lines other_line other → SameFault line other_line why other

-- where the names of statements are sound, none has a fault
abbrev pub SoundOrFault : Type 0
SoundOrFault = (ss : List Statement) (lines : List ℕ) (line : ℕ) (why : QueryFault) → length lines ≡ length ss → AreSound ss → FailInNames ss lines line why → ⊥

-- queries have at most one cycle of names
abbrev pub OneCycleOfNames : Type 0
OneCycleOfNames = (ss : List Statement) (names others : List (List ℕ)) → HaveCycle ss names → HaveCycle ss others → names ≡ others

-- queries that have an order have no cycle
abbrev pub OrderOrCycle : Type 0
OrderOrCycle = (ss : List Statement) (order : List ℕ) (names : List (List ℕ)) → IsOrder (reads_in ss) order → HaveCycle ss names → ⊥

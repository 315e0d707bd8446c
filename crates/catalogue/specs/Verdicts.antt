-- Laws of the last pass, and of all passes: a text has exactly one verdict.
use Rattle.std.specs.Prelude.{◌≡◌, ℕ, List}
use Rattle.semantics.specs.Programs.{Query}
use Rattle.stream_schema.specs.Streams.{Entry}
use Rattle.cel_grammar.specs.Trees.{Statement}
use Rattle.cel_types.specs.declared.fault.TypeFault.{TypeFault}
use Rattle.catalogue.specs.Judgement.{Judges, Verdict}
use Rattle.catalogue.specs.Typing.{FileDeclares, FileFailsToDeclare, FailToPublish, Publish}

-- statements declare streams in one way at most
abbrev pub OneDeclaration : Type 0
OneDeclaration = (ss : List Statement) (streams others : List Entry) → FileDeclares ss streams → FileDeclares ss others → streams ≡ others

-- the declarations of statements have at most one first fault
abbrev pub OneDeclareFault : Type 0
OneDeclareFault = (ss : List Statement) (lines : List ℕ) (line other_line : ℕ) (f g : TypeFault) → FileFailsToDeclare ss lines line f → FileFailsToDeclare ss lines other_line g → (line ≡ other_line) × (f ≡ g)

-- statements that declare streams have no fault in their declarations
abbrev pub DeclaredOrFault : Type 0
DeclaredOrFault = (ss : List Statement) (streams : List Entry) (lines : List ℕ) (line : ℕ) (f : TypeFault) → FileDeclares ss streams → FileFailsToDeclare ss lines line f → ⊥

-- queries publish in one way at most
abbrev pub OnePublication : Type 0
OnePublication =
    (queries : List Statement) (streams : List Entry) (hidden : ℕ) (order : List ℕ) (all others : List Entry) (typed typed_so : List Query)
    → Publish queries streams hidden order all typed → Publish queries streams hidden order others typed_so → (all ≡ others) × (typed ≡ typed_so)

-- queries have at most one first fault
abbrev pub OnePublishFault : Type 0
OnePublishFault = (queries : List Statement) (lines : List ℕ) (streams : List Entry) (order : List ℕ) (line other_line : ℕ) (f g : TypeFault) → FailToPublish queries lines streams order line f → FailToPublish queries lines streams order other_line g → (line ≡ other_line) × (f ≡ g)

-- queries that publish have no fault
abbrev pub PublishedOrFault : Type 0
PublishedOrFault =
    (queries : List Statement) (lines : List ℕ) (streams : List Entry) (hidden : ℕ) (order : List ℕ) (all : List Entry) (typed : List Query) (line : ℕ) (f : TypeFault)
    → Publish queries streams hidden order all typed → FailToPublish queries lines streams order line f → ⊥

-- a text has at most one verdict
abbrev pub OneVerdict : Type 0
OneVerdict = (text : List ℕ) (verdict other : Verdict) → Judges text verdict → Judges text other → verdict ≡ other

-- each text has a verdict
abbrev pub SomeVerdict : Type 0
SomeVerdict = (text : List ℕ) → (verdict : Verdict) × Judges text verdict

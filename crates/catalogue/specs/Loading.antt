-- What is told of a file whatever text it is read from. No public clause cites this.
use Rattle.std.specs.Prelude.{ℕ, List, map}
use Rattle.cel_grammar.specs.Views.{statement_of}
use Rattle.cel_parser.specs.Filed.{Filed}
use Rattle.catalogue.specs.declared.fault.LoadFault.{LoadFault}
use Rattle.catalogue.specs.Filing.{IsFileWithinLimit}
use Rattle.catalogue.specs.Judgement.{Accepts, Circles, Judged, Refuses}
use Rattle.catalogue.specs.Telling.{Tells}

-- a text that is this file is accepted as this
abbrev pub AcceptsFile : Filed → Judged → Type 0
AcceptsFile file judged = (text : List ℕ) → IsFileWithinLimit text (map statement_of file.statements) file.lines → Accepts text judged

-- a text that is this file is refused so
abbrev pub RefusesFile : Filed → LoadFault → Type 0
RefusesFile file fault = (text : List ℕ) → IsFileWithinLimit text (map statement_of file.statements) file.lines → Tells (Refuses text) (Circles text) fault

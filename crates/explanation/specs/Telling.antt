-- That a result can be told. No public clause cites this module.
use Rattle.std.specs.Prelude.{◌<◌, List, length}
use Rattle.semantics.specs.Programs.{Program}
use Rattle.derivations.specs.Texts.{HasPlaces}
use Rattle.derivations.specs.declared.history.Heard.{Heard}
use Rattle.explanation.specs.declared.results.Explained.{Explained}

-- its query is there, and each event of its derivation has a line
pub record CanBeTold (program : Program) (lines : List Heard) (x : Explained) : Type 0 where
  pub query : x.query < length program.queries
  pub places : HasPlaces lines x.derived.by

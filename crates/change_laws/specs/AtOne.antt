-- When an engine is at one with a catalogue.
use Rattle.std.specs.Prelude.{◌≡◌, ℕ, List, [], ◌∷◌}
use Rattle.automaton.specs.NetworkLines.{Ending, HasEndings}
use Rattle.birth_laws.specs.BornChains.{born_lines}
use Rattle.catalogue.specs.Catalogued.{Catalogued, program_in}
use Rattle.epoch_engine.specs.EngineView.{EngineView}
use Rattle.epoch_laws.specs.BornLines.{BornLine}
use Rattle.prefix_merge.specs.Merging.{IsMerged}

-- the endings of lines with these births, each with the number at its place
abbrev pub ended_by : List BornLine → List ℕ → List Ending
ended_by [] numbers = []
ended_by (born ∷ lines) [] = []
ended_by (born ∷ lines) (number ∷ numbers) = record { line = born.line; number = number; birth = born.birth } ∷ ended_by lines numbers

-- the endings of a catalogue: those of its lines, each with the birth of its query and the number that the catalogue gave it
abbrev pub endings_in : Catalogued → List Ending
endings_in c = ended_by (born_lines (program_in c)) c.ends

-- the engine's network and layout are those of the catalogue's lines and layout: the network is merged, and each of its ends has its line's birth and the number that the catalogue gave that line
pub record AreAtOne (c : Catalogued) (engine : EngineView) : Type 0 where
  pub merged : IsMerged engine.network
  pub endings : HasEndings engine.network (endings_in c)
  pub layout : engine.layout ≡ c.layout

-- What a text was judged to be of which a catalogue was loaded, by the catalogue's parts.
use Rattle.std.specs.Prelude.{◌+◌, ℕ, List, length, map, take}
use Rattle.cel_grammar.specs.Views.{statement_of}
use Rattle.catalogue.specs.Catalogued.{Catalogued, work_in}
use Rattle.catalogue.specs.Judgement.{Accepts, Judged}
use Rattle.catalogue.specs.Loaded.{IsLoadedFrom}

-- the judged text that a catalogue holds, to which no query came and from which none left: the declared streams are the first ones, and those of the queries follow them
abbrev pub judged_in : Catalogued → Judged
judged_in c = record {
  statements = map statement_of c.file.statements;
  lines = c.file.lines;
  declared = take c.declared c.streams;
  streams = take (c.declared + length c.order) c.streams;
  order = c.order;
  published = work_in c;
}

-- the catalogue is as it was loaded from some text
pub record IsAsLoaded (c : Catalogued) : Type 0 where
  pub text : List ℕ
  pub loaded : IsLoadedFrom text c

-- a text from which a catalogue was loaded is accepted as what the catalogue holds
abbrev pub LoadedAreAccepted : Type 0
LoadedAreAccepted = (text : List ℕ) (c : Catalogued) → IsLoadedFrom text c → Accepts text (judged_in c)

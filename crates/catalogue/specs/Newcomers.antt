-- Laws of queries that come to a catalogue.
use Rattle.std.specs.Prelude.{◌≡◌, ℕ, false, IsTrue, Option, None, slice_get}
use Rattle.automaton.specs.Work.{is_in}
use Rattle.catalogue.specs.Adding.{AddedQuery}
use Rattle.catalogue.specs.Catalogued.{Catalogued}
use Rattle.catalogue.specs.Coming.{HasCome, IsLatest}
use Rattle.catalogue.specs.Loaded.{IsUnchanged}
use Rattle.catalogue.specs.Standing.{StandsInOrder}

-- of a catalogue as it is loaded no query was born later than any query without a birth
abbrev pub NoneIsLatest : Type 0
NoneIsLatest = (c : Catalogued) → IsUnchanged c → IsLatest None c

-- a stream that comes with a query into the layout's order of work had no kinds in the layout before
abbrev pub NewcomersAreUnknown : Type 0
NewcomersAreUnknown =
    (old new : Catalogued) (added : AddedQuery) (birth : Option ℕ) → StandsInOrder old → StandsInOrder new → HasCome old added birth new
    → (stream : ℕ) → IsTrue (is_in new.layout.order stream) → is_in old.layout.order stream ≡ false → slice_get old.layout.kinds stream ≡ None

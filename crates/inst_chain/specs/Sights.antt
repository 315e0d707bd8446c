-- Beads that are still to be read. No public clause names this.
use Rattle.std.specs.Prelude.{List}
use denote.RawPtr.{Ptr, null_ptr}
use Rattle.inst_chain.specs.Boxes.{IsStart}
use Rattle.inst_chain.specs.Linked.{Beaded, AreLinked}

-- the beads are linked, the first one at this place and the last one leading on to none
abbrev pub AreAhead : {T : Type 0} → Ptr → List (Beaded T) → Type 0
AreAhead at bs = IsStart at × (before : Ptr) × (last : Ptr) × AreLinked before at bs last null_ptr

-- How the beads of a chain are linked. No public clause names this.
use Rattle.std.specs.Prelude.{◌≡◌, List, [], ◌∷◌, map}
use Rattle.std.specs.declared.alloc.Global.{Global}
use denote.RawPtr.{Ptr, null_ptr}
use Rattle.inst_chain.specs.declared.node.Node.{Node}
use Rattle.inst_chain.specs.Boxes.{Lodged, IsStart}

-- the box of a bead, whose links are the places of its neighbours, and null where there is none
abbrev pub Beaded : Type 0 → Type 0
Beaded T = Lodged (Node Ptr T) Global

-- each bead starts a block, leads on to the next one, and the next one leads back to it; the first one is at `first`
-- and leads back to `before`, and the last one is at `last` and leads on to `after`
abbrev pub AreLinked : {T : Type 0} → Ptr → Ptr → List (Beaded T) → Ptr → Ptr → Type 0
AreLinked before first [] last after = (first ≡ after) × (last ≡ before)
AreLinked before first (b ∷ bs) last after = (first ≡ b.0) × IsStart b.0 × (b.2.prev ≡ before) × AreLinked b.0 b.2.next bs last after

-- no bead leads to another from this one
abbrev pub IsAlone : {T : Type 0} → Node Ptr T → Type 0
IsAlone n = (n.next ≡ null_ptr) × (n.prev ≡ null_ptr)

-- what is on the beads
abbrev pub values : {T : Type 0} → List (Beaded T) → List T
values = map (λ b. b.2.value)

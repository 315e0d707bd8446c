-- Where a box is made to lead. No public clause names this.
use Rattle.std.specs.Prelude.{◌≡◌, List, [], ◌∷◌, ◌++◌}
use denote.RawPtr.{Ptr}
use Rattle.inst_chain.specs.declared.node.Node.{Node}
use Rattle.inst_chain.specs.Boxes.{Lodged}

-- cs are bs and then ds, where the last box of bs, which lies at p, leads on to m
abbrev pub LeadsOn : {L V Z : Type 0} → List (Lodged (Node L V) Z) → Ptr → L → List (Lodged (Node L V) Z) → List (Lodged (Node L V) Z) → Type 0
LeadsOn {L} {V} {Z} bs p m ds cs = (front : List (Lodged (Node L V) Z)) × (z : Z) × (n : Node L V)
    × (bs ≡ front ++ (p, z, n) ∷ []) × (cs ≡ front ++ (p, z, record { next = m; prev = n.prev; value = n.value }) ∷ ds)

-- cs are bs, where the first box, which lies at p, leads back to m
abbrev pub LeadsBack : {L V Z : Type 0} → List (Lodged (Node L V) Z) → Ptr → L → List (Lodged (Node L V) Z) → Type 0
LeadsBack {L} {V} {Z} bs p m cs = (z : Z) × (n : Node L V) × (rest : List (Lodged (Node L V) Z))
    × (bs ≡ (p, z, n) ∷ rest) × (cs ≡ (p, z, record { next = n.next; prev = m; value = n.value }) ∷ rest)

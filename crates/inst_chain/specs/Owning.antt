-- What the owner of boxes has, and who reads them. No public clause names this.
use Rattle.std.specs.Prelude.{List, [], ◌∷◌}
use base.Fml.{Lft, Fml, ftrue, fsep}
use denote.Sharing.{nothing, beside}
use denote.Struct.Lending.{lent_at}
use mir.Syntax.{Ty}
use denote.RattleType.{RattleType}
use denote.RawPtr.{Ptr}
use Rattle.std_alloc.specs.Box.Ownership.{box_owns}
use Rattle.inst_chain.specs.Boxes.{Lodged}

module _ (R Z : RattleType) (holds : Z.Denot → Ty → Ptr → Fml) where
  -- the memory of the box, what is in it, and the right to free it
  abbrev pub one_owns : Lodged R.Denot Z.Denot → Fml
  one_owns b = box_owns (holds b.1) R b.0 b.2

  -- these of each box
  abbrev pub boxes_own : List (Lodged R.Denot Z.Denot) → Fml
  boxes_own [] = ftrue
  boxes_own (b ∷ bs) = fsep (one_owns b) (boxes_own bs)

-- a `&` to what is in each box
abbrev pub boxes_lent : (R : RattleType) {Z : Type 0} → List (Lodged R.Denot Z) → Lft → Fml
boxes_lent R [] = nothing
boxes_lent R (b ∷ bs) = beside (lent_at R b.0 b.2) (boxes_lent R bs)

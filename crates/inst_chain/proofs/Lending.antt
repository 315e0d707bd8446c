-- A `&` to the owner is made where one to each box's value is. Assumes `Logic`.
use mathlib.Core.List.{List, [], ◌∷◌}
use seplogic.Ra.Ura.{Ura}
use mir.Syntax.{Ty}
use mir.Raw.{raw}
use base.Fml.{Lft, Fml, ftrue, Incl}
use base.Fraction.{full_share}
use types.Logic.{Logic}
use denote.RattleType.{RattleType, RowLaws}
use denote.Memory.{lone}
use denote.Param.Laws.{Laws}
use denote.RawPtr.{Ptr, lies_at}
use denote.Sharing.{ShrLaws}
use denote.SharingLaws.{beside_shr_laws, nothing_shr_laws}
use denote.Shares.{Shares-less}
use denote.Struct.Lending.{lent_at, lent_at_shr_laws, Lends-lies, Lends-first, Lends, Lends-both, Lends-nothing}
use Rattle.inst_chain.specs.Boxes.{Lodged}
use Rattle.inst_chain.specs.Owning.{one_owns, boxes_own, boxes_lent}

-- what is lent can be copied, and used for a shorter time
pub boxes_lent_laws : (R : RattleType) (L : RowLaws R) {Z : Type 0} (bs : List (Lodged R.Denot Z)) → ShrLaws (boxes_lent R bs)
boxes_lent_laws R L [] = nothing_shr_laws
boxes_lent_laws R L (b ∷ bs) = beside_shr_laws _ _ (lent_at_shr_laws R L b.0 b.2) (boxes_lent_laws R L bs)

module _ {M : Type 1} {𝓤 : Ura M} (𝓛 : Logic 𝓤) (l : Lft) (R Z : RattleType) (holds : Z.Denot → Ty → Ptr → Fml) (L : Laws R) (inc : Incl l R.lives) where
  -- what the owner of boxes has lends each box's value
  pub Lends-boxes : (bs : List (Lodged R.Denot Z.Denot)) → Lends 𝓛 (boxes_own R Z holds bs) (boxes_lent R bs) l
  Lends-boxes [] = Lends-nothing 𝓛 ftrue l
  Lends-boxes (b ∷ bs) = Lends-both 𝓛 (one_owns R Z holds b) (boxes_own R Z holds bs) (lent_at R b.0 b.2) (boxes_lent R bs) l
      (Lends-first 𝓛 (lies_at R full_share b.0 b.2) (holds b.1 (raw (lone R.mir)) b.0) (lent_at R b.0 b.2) l (Lends-lies 𝓛 R l b.0 b.2 (Shares-less 𝓛 R R.lives l inc (L.shares 𝓛) b.2)))
      (Lends-boxes bs)

-- A `&` to the owner reaches each box's value. Assumes `Logic`.
use mathlib.Core.List.{[], ◌++◌}
use base.Fml.{Incl-trans}
use contract.BorrowLft.{meet_⊑_left}
use denote.RattleType.{RattleType}
use denote.RawPtr.{RawPtr}
use denote.Param.Laws.{Laws}
use denote.Param.Shared.{copy_shared}
use denote.Struct.Laws.{field_copy}
use denote.Struct.Lending.{of_Lends}
use Rattle.core.specs.contracts.marker.PhantomData as marker
use Rattle.std.specs.declared.alloc.Allocator.{Ghosts}
use Rattle.inst_chain.specs.contracts.boxes.Held as C
use Rattle.inst_chain.proofs.boxes.Held.TheLaw.Statement.{statement}
use Rattle.inst_chain.proofs.Lending.{boxes_lent_laws, Lends-boxes}

pub shares : (N Z : RattleType) (g : Ghosts Z.Denot) (L : Laws N) (K : Laws Z) → statement N Z g L K
shares N Z g L K = of_Lends (C.struct N Z g) (C.the_codes N.Denot Z.Denot N.coded Z.coded (marker.the_row RawPtr).coded) (C.the_heap N Z g) (C.the_lent N Z g)
    (λ d p. boxes_lent_laws N L.shr_laws d.boxes) (copy_shared (marker.the_field RawPtr) (field_copy (marker.the_type RawPtr) tt), tt)
    (λ M 𝓤 𝓛 d p. Lends-boxes 𝓛 (C.the_row N Z g).lives N Z g.dealloc_token L (Incl-trans (meet_⊑_left (N.lives ++ (Z.lives ++ [])) _) (meet_⊑_left N.lives (Z.lives ++ []))) d.boxes)

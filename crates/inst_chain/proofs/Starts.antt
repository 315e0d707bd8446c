-- A box of the heap is the start of its block. Assumes `Logic`.
use Rattle.std.proofs.Common.{◌≡◌, ap}
use seplogic.Ra.Ura.{Ura}
use mir.Raw.{raw}
use base.Logic.{SProp, ent, guard, via, fst∗, snd∗, never, never_e, guard_i}
use base.Fraction.{full_share}
use contract.Monad.{fact, fact_mono, fact_use}
use types.Logic.{Logic, sem}
use denote.Memory.{lone}
use denote.RattleType.{RattleType}
use denote.RawPtr.{Ptr, block_ptr, null_ptr, lies_at}
use Rattle.std.proofs.GlobalToken.{dealloc_token_start}
use Rattle.std.specs.declared.alloc.Global.{Global}
use Rattle.std.specs.contracts.impls.GlobalAllocator.TheImpl.{ghosts}
use Rattle.std_alloc.specs.Box.Ownership.{box_owns}
use Rattle.inst_chain.specs.Boxes.{IsStart}

module _ {M : Type 1} {𝓤 : Ura M} (𝓛 : Logic 𝓤) (R : RattleType) (heap : Global) where
  -- what the owner of a box has
  abbrev Owned : Ptr → R.Denot → SProp 𝓤
  Owned p x = sem 𝓛 (box_owns (ghosts.dealloc_token heap) R p x)

  -- the right to free the box says where it lies
  pub starts : (p : Ptr) (x : R.Denot) → ent 𝓤 (Owned p x) (guard 𝓤 (IsStart p) (Owned p x))
  starts (block_ptr b o) x =
      let p : Ptr = block_ptr b o in let token = ghosts.dealloc_token heap (raw (lone R.mir)) p in
      fact_use 𝓤 (IsStart p)
      (via 𝓤 _ (snd∗ 𝓤 (sem 𝓛 (lies_at R full_share p x)) (sem 𝓛 token))
      (via 𝓤 (fact 𝓤 (o ≡ 0)) (dealloc_token_start 𝓛 heap (raw (lone R.mir)) p) (fact_mono 𝓤 (o ≡ 0) (IsStart p) (λ at. (b, ap (block_ptr b) at)))))
      (guard_i 𝓤 (IsStart p) (Owned p x))
  starts null_ptr x = via 𝓤 (never 𝓤) (fst∗ 𝓤 (never 𝓤) (sem 𝓛 (ghosts.dealloc_token heap (raw (lone R.mir)) null_ptr))) (never_e 𝓤 _)

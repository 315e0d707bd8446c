-- Work that wasn't begun.
use Rattle.std.proofs.Common.{◌≡◌, refl, ℕ, false}
use Rattle.cay_host.specs.declared.side.Side.{Side}
use Rattle.cay_host.specs.declared.side.Side.TheVariants.{Queries, Events}
use Rattle.cay_host.specs.Told.{IsFree, Told}
use Rattle.cayuga_run.specs.declared.status.Status.TheVariants.{Memory}
use Rattle.cayuga_run.specs.Outcome.{Outcome}
use Rattle.cayuga_run.specs.Works.{Work, Nothing, Reports, Writes, Loads, Explains}
use Rattle.cayuga_run.proofs.RunLemmas.{memory_silent}

-- without memory nothing was done, whatever is asked for
pub not_begun : (work : Work) (limit : ℕ) (told : Told) → Outcome work limit told told Memory
not_begun Nothing limit told = refl
not_begun (Reports run) limit told = memory_silent run limit told told (record { written = refl; lines = refl })
not_begun (Writes writing) limit told = record { written = refl; lines = refl }
not_begun (Loads load) limit told = (tt, record { written = refl; lines = refl })
not_begun (Explains explaining) limit told = record { written = refl; lines = refl }

-- a free host has no side attached
pub none_attached : (told : Told) → IsFree told → (side : Side) → told.attached side ≡ false
none_attached told free Queries = free.queries
none_attached told free Events = free.events

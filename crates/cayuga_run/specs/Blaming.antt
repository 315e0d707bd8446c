-- That a fault of the host is the answer.
use Rattle.std.specs.Prelude.{◌≡◌, ◌≢◌, Option, Some, None}
use Rattle.cay_host.specs.declared.call.Call.{Call}
use Rattle.cay_host.specs.declared.call.Call.TheVariants.{Attach, Read, Write}
use Rattle.cay_host.specs.declared.side.Side.{Side}
use Rattle.cay_host.specs.Calls.{FailedLast}
use Rattle.cay_host.specs.Told.{Told}
use Rattle.cayuga_run.specs.declared.status.Status.{Status}
use Rattle.cayuga_run.specs.declared.status.Status.TheVariants.{AttachFault, ReadFault, WriteFault}

-- the call of the host that an answer tells as failed
abbrev pub failed_call : Status → Option Call
failed_call (AttachFault side) = Some (Attach side)
failed_call (ReadFault side) = Some (Read side)
failed_call WriteFault = Some Write
failed_call other = None

-- each count of faults is the same, unless the answer is such a fault; and the host's last call failed just where the answer tells it, and was that very call
pub record BlamesHost (old new : Told) (status : Status) : Type 0 where
  pub attach : ((side : Side) → status ≢ AttachFault side) → new.attach_faults ≡ old.attach_faults
  pub read : ((side : Side) → status ≢ ReadFault side) → new.read_faults ≡ old.read_faults
  pub write : status ≢ WriteFault → new.write_faults ≡ old.write_faults
  pub last : FailedLast (failed_call status) old new

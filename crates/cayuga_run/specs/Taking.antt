-- How the reading of a side ended. No public clause cites this module.
use Rattle.std.specs.Prelude.{◌≡◌, ⊤, ℕ, ◌+◌, ◌≤◌, List, [], length, Option, Some, None, IfSome}
use Rattle.cay_host.specs.declared.call.Call.{Call}
use Rattle.cay_host.specs.declared.call.Call.TheVariants.{Read}
use Rattle.cay_host.specs.declared.side.Side.{Side}
use Rattle.cay_host.specs.Faults.{Rose}
use Rattle.cay_host.specs.Told.{Told}
use Rattle.cayuga_run.specs.declared.sides.ReadEnd.{ReadEnd}
use Rattle.cayuga_run.specs.declared.sides.ReadEnd.TheVariants.{Whole, More, Failed}

-- the bytes are all, or one more than the limit, or those before a failed read
abbrev pub EndsAs : ReadEnd → ℕ → List ℕ → Side → Told → Told → Type 0
EndsAs Whole limit bytes side old new = (length bytes ≤ limit) × IfSome (new.left side) (λ rest. rest ≡ [])
EndsAs More limit bytes side old new = length bytes ≡ limit + 1
EndsAs Failed limit bytes side old new = (length bytes ≤ limit) × Rose old.read_faults new.read_faults

-- the call of the host that an end of the reading tells as failed
abbrev pub failed_read : ReadEnd → Side → Option Call
failed_read Failed side = Some (Read side)
failed_read other side = None

-- the count of read faults is the same, unless a read failed
abbrev pub BlamesReading : ReadEnd → Told → Told → Type 0
BlamesReading Failed old new = ⊤
BlamesReading other old new = new.read_faults ≡ old.read_faults

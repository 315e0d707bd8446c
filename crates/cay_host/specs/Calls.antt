-- How the last call of a host came out.
use Rattle.std.specs.Prelude.{◌≡◌, Option, Some, None}
use Rattle.cay_host.specs.declared.call.Call.{Call}
use Rattle.cay_host.specs.Told.{Told}

-- the last call is this one, and it failed; or where none is given, the last call didn't fail, if none had failed last before
abbrev pub FailedLast : Option Call → Told → Told → Type 0
FailedLast None old new = old.failed ≡ None → new.failed ≡ None
FailedLast (Some call) old new = new.failed ≡ Some call

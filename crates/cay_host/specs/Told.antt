-- What a host tells of itself.
use Rattle.std.specs.Prelude.{◌≡◌, ◌≤◌, ◌-◌, ◌^◌, ℕ, List, Bool, false, Option}
use Rattle.cay_host.specs.declared.call.Call.{Call}
use Rattle.cay_host.specs.declared.side.Side.{Side}
use Rattle.cay_host.specs.declared.side.Side.TheVariants.{Queries, Events}
use Rattle.cay_host.specs.Files.{Files}

-- its counts of faults, how its last call came out, its sides, and what it tells of its content
pub record Told : Type 0 where
  -- how often each call has failed; each count stays at 2^64-1 once it is there
  pub attach_faults : ℕ
  pub read_faults : ℕ
  pub write_faults : ℕ
  -- the last call, where it failed
  pub failed : Option Call
  -- whether a side is attached
  pub attached : Side → Bool
  -- the files by name, where they are told
  pub files : Option Files
  -- the bytes that an attached side has left, where they are told
  pub left : Side → Option (List ℕ)
  -- the bytes written, where they are told
  pub written : Option (List ℕ)
  -- the number of LF bytes written, where it is told; it stays at 2^64-1 once it is there
  pub lines : Option ℕ

-- each count of faults is at most 2^64-1
pub record IsBounded (told : Told) : Type 0 where
  pub attach_faults : told.attach_faults ≤ 2 ^ 64 - 1
  pub read_faults : told.read_faults ≤ 2 ^ 64 - 1
  pub write_faults : told.write_faults ≤ 2 ^ 64 - 1

-- no side is attached
pub record IsFree (told : Told) : Type 0 where
  pub queries : told.attached Queries ≡ false
  pub events : told.attached Events ≡ false

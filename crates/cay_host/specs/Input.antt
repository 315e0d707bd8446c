-- What reading a side changes of what a host tells.
use Rattle.std.specs.Prelude.{◌≡◌, ◌≤◌, ℕ, List, [], length, take, Option, IfSome}
use Rattle.std.specs.Io.KnownBytes.{prepend_known}
use Rattle.cay_host.specs.declared.side.Side.{Side}
use Rattle.cay_host.specs.Sides.{with_side}
use Rattle.cay_host.specs.Told.{Told}

-- the next n bytes were taken from those left and stand at the front of the buffer; none only at the end
pub record Took (n : ℕ) (buf : List ℕ) (old new : Option (List ℕ)) : Type 0 where
  pub front : old ≡ prepend_known (take n buf) new
  pub fits : n ≤ length buf
  pub end : n ≡ 0 → IfSome new (λ rest. rest ≡ [])

-- all but what this side has left and the count of read faults is the same, and that count doesn't fall
pub record SameButRead (side : Side) (old new : Told) : Type 0 where
  pub later : old.read_faults ≤ new.read_faults
  pub attach_faults : new.attach_faults ≡ old.attach_faults
  pub write_faults : new.write_faults ≡ old.write_faults
  pub attached : new.attached ≡ old.attached
  pub files : new.files ≡ old.files
  pub others : new.left ≡ with_side side (new.left side) old.left
  pub written : new.written ≡ old.written
  pub lines : new.lines ≡ old.lines

-- What attaching a side changes of what a host tells.
use Rattle.std.specs.Prelude.{◌≡◌, ◌≤◌, ℕ, List, true, false}
use Rattle.cay_host.specs.declared.side.Side.{Side}
use Rattle.cay_host.specs.Faults.{Rose}
use Rattle.cay_host.specs.Files.{file_of, lacks}
use Rattle.cay_host.specs.Sides.{with_side}
use Rattle.cay_host.specs.Told.{Told}

-- the side is attached, and has all bytes of the file of this name left
pub record Attaches (side : Side) (name : List ℕ) (old new : Told) : Type 0 where
  pub there : lacks name old.files ≡ false
  pub attached : new.attached ≡ with_side side true old.attached
  pub left : new.left ≡ with_side side (file_of name old.files) old.left

-- the sides stay as they were: the count of faults rose, or the host tells that it has no such file
pub record AttachFails (name : List ℕ) (old new : Told) : Type 0 where
  pub cause : lacks name old.files ≡ false → Rose old.attach_faults new.attach_faults
  pub absent : lacks name old.files ≡ true → new.attach_faults ≡ old.attach_faults
  pub attached : new.attached ≡ old.attached
  pub left : new.left ≡ old.left

-- all but the sides and the count of attach faults is the same, and that count doesn't fall
pub record SameButSides (old new : Told) : Type 0 where
  pub later : old.attach_faults ≤ new.attach_faults
  pub read_faults : new.read_faults ≡ old.read_faults
  pub write_faults : new.write_faults ≡ old.write_faults
  pub files : new.files ≡ old.files
  pub written : new.written ≡ old.written
  pub lines : new.lines ≡ old.lines

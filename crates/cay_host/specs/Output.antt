-- What writing changes of what a host tells.
use Rattle.std.specs.Prelude.{◌≡◌, ◌<◌, ◌≤◌, ◌==◌, ℕ, List, length, take, count_by, Option}
use Rattle.std.specs.Io.KnownBytes.{append_known}
use Rattle.std.specs.Option.{option_map}
use Rattle.cay_host.specs.Faults.{saturating_add}
use Rattle.cay_host.specs.Told.{Told}

-- the number of LF bytes
abbrev pub count_lf : List ℕ → ℕ
count_lf bs = count_by (λ b. b == 10) bs

-- a number of LF bytes, where it is told, with those of more bytes
abbrev pub add_lines : Option ℕ → List ℕ → Option ℕ
add_lines known bs = option_map (λ n. saturating_add n (count_lf bs)) known

-- these bytes were appended to the output
pub record Wrote (bs : List ℕ) (old new : Told) : Type 0 where
  pub written : new.written ≡ append_known old.written bs
  pub lines : new.lines ≡ add_lines old.lines bs

-- the first n of these bytes were appended, at least one
pub record WroteSome (n : ℕ) (bs : List ℕ) (old new : Told) : Type 0 where
  pub some : 0 < n
  pub within : n ≤ length bs
  pub wrote : Wrote (take n bs) old new

-- a proper prefix of these bytes was appended
abbrev pub WrotePart : List ℕ → Told → Told → Type 0
WrotePart bs old new = (k : ℕ) × (k < length bs) × Wrote (take k bs) old new

-- nothing was appended
pub record KeepsOutput (old new : Told) : Type 0 where
  pub written : new.written ≡ old.written
  pub lines : new.lines ≡ old.lines

-- all but the output and the count of write faults is the same, and that count doesn't fall
pub record SameButOutput (old new : Told) : Type 0 where
  pub later : old.write_faults ≤ new.write_faults
  pub attach_faults : new.attach_faults ≡ old.attach_faults
  pub read_faults : new.read_faults ≡ old.read_faults
  pub attached : new.attached ≡ old.attached
  pub files : new.files ≡ old.files
  pub left : new.left ≡ old.left

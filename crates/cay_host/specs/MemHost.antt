-- What contracts see of a host in memory.
use Rattle.std.specs.Prelude.{ℕ, ◌-◌, ◌==◌, zero, suc, List, [], ◌∷◌, Bool, false, Some, None, map, drop, length, min, is_some, unwrap_or, if◌then◌else◌}
use Rattle.std.specs.List.{list_any}
use Rattle.std.specs.Option.{option_map}
use Rattle.cay_host.specs.declared.files.File.{File}
use Rattle.cay_host.specs.declared.files.Place.{Place}
use Rattle.cay_host.specs.declared.mem_host.MemHost.{MemHost}
use Rattle.cay_host.specs.Faults.{raised}
use Rattle.cay_host.specs.Files.{Files}
use Rattle.cay_host.specs.Output.{count_lf}
use Rattle.cay_host.specs.Sides.{of_side}
use Rattle.cay_host.specs.Told.{Told}

-- how a host in memory was set up, and how many calls it has had
pub record Setting : Type 0 where
  -- the most bytes that can be written
  pub room : ℕ
  -- the greatest piece of a read and of a write
  pub read_piece : ℕ
  pub write_piece : ℕ
  -- the numbers of the calls that fail; attach, read and write are counted together from 1
  pub failing : List ℕ
  -- the calls so far, which stay at 2^64-1 once they are there
  pub calls : ℕ

-- the number of the next call
abbrev pub next_call : Setting → ℕ
next_call s = raised s.calls

-- the next call is one of those that fail
abbrev pub is_listed : Setting → Bool
is_listed s = list_any (λ n. n == next_call s) s.failing

-- the setting after one more call
abbrev pub after_call : Setting → Setting
after_call s = record s { calls = next_call s }

-- a count of faults after a call that raises it or doesn't
abbrev pub raised_if : Bool → ℕ → ℕ
raised_if rises n = if rises then raised n else n

-- how many bytes can still be written
abbrev pub room_left : Setting → Told → ℕ
room_left s told = s.room - length (unwrap_or told.written [])

-- how many bytes a read into so many gives of those left
abbrev pub read_size : Setting → ℕ → List ℕ → ℕ
read_size s size rest = min (min (length rest) s.read_piece) size

-- how many of so many bytes a write takes
abbrev pub write_size : Setting → Told → ℕ → ℕ
write_size s told size = min (min s.write_piece (room_left s told)) size

-- the files as names and bytes
abbrev pub entries : List File → Files
entries files = map (λ f. (f.name.items, f.bytes.items)) files

-- the bytes of the file at an index, or none
abbrev pub bytes_at : List File → ℕ → List ℕ
bytes_at [] i = []
bytes_at (f ∷ files) zero = f.bytes.items
bytes_at (f ∷ files) (suc i) = bytes_at files i

-- what is left at a place
abbrev pub rest_at : List File → Place → List ℕ
rest_at files place = drop place.at (bytes_at files place.file)

-- what the host tells: all of it
unfoldable pub mem_told : MemHost → Told
mem_told h = record {
  attach_faults = h.attach_faults;
  read_faults = h.read_faults;
  write_faults = h.write_faults;
  failed = h.failed;
  attached = λ s. is_some (of_side h.queries h.events s);
  files = Some (entries h.files.items);
  left = λ s. option_map (rest_at h.files.items) (of_side h.queries h.events s);
  written = Some h.written.items;
  lines = Some (count_lf h.written.items);
}

-- the setting of the host
unfoldable pub mem_setting : MemHost → Setting
mem_setting h = record {
  room = h.room;
  read_piece = h.read_piece;
  write_piece = h.write_piece;
  failing = h.failing.items;
  calls = h.calls;
}

-- what a new host tells
abbrev pub blank_told : Told
blank_told = record {
  attach_faults = 0;
  read_faults = 0;
  write_faults = 0;
  failed = None;
  attached = λ _. false;
  files = Some [];
  left = λ _. None;
  written = Some [];
  lines = Some 0;
}

-- the setting of a new host with that room: no piece is bounded, and no call fails
abbrev pub blank_setting : ℕ → Setting
blank_setting room = record {
  room = room;
  read_piece = 18446744073709551615;
  write_piece = 18446744073709551615;
  failing = [];
  calls = 0;
}

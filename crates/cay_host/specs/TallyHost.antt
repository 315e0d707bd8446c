-- What contracts see of a host that counts lines.
use Rattle.std.specs.Prelude.{ℕ, false, Option, Some, None}
use Rattle.cay_host.specs.declared.call.Call.{Call}
use Rattle.cay_host.specs.declared.tally_host.TallyHost.{TallyHost}
use Rattle.cay_host.specs.Told.{Told}

-- what a host that has no file and keeps no bytes tells after so many attach faults, read faults and lines written, and a last call that failed or not
abbrev pub counting : ℕ → ℕ → Option Call → ℕ → Told
counting attach_faults read_faults failed lines = record {
  attach_faults = attach_faults;
  read_faults = read_faults;
  write_faults = 0;
  failed = failed;
  attached = λ _. false;
  files = None;
  left = λ _. None;
  written = None;
  lines = Some lines;
}

-- what the host tells
unfoldable pub tally_told : TallyHost → Told
tally_told h = counting h.attach_faults h.read_faults h.failed h.lines

-- what a new host tells: no fault and no line
abbrev pub silent_told : Told
silent_told = counting 0 0 None 0

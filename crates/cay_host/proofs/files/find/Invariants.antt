use Rattle.std.proofs.Common.{◌≡◌, drop}
use Rattle.cay_host.specs.Files.{find_file}
use Rattle.cay_host.specs.MemHost.{entries}
use Rattle.cay_host.proofs.files.find.Given as goal

abbrev pub invariant-loop-index : goal.invariant-loop-index
invariant-loop-index l = find_file l.name (entries (drop l.index l.files)) ≡ find_file l.name (entries l.files)

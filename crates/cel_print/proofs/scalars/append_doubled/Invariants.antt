use Rattle.std.proofs.Common.{◌≡◌, ◌++◌, take}
use Rattle.cel_print.specs.Spelled.{doubled}
use Rattle.cel_print.proofs.scalars.append_doubled.Given as goal

-- the bytes so far were put behind the text
abbrev pub invariant-loop-byte : goal.invariant-loop-byte
invariant-loop-byte l = l.text.items ≡ l.initial.text.items ++ doubled (take l.byte-index l.bytes)

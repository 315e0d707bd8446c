-- The number of each status.
use Rattle.std.specs.Prelude.{ℕ}
use Rattle.cayuga_run.specs.declared.status.Status.{Status}
use Rattle.cayuga_run.specs.declared.status.Status.TheVariants.{Done, Usage, BadQuery, Cycle, BadEvent, OutOfOrder, AttachFault, ReadFault, WriteFault, TooMuch, Memory, BadControl}

-- the number that the program ends with
abbrev pub number_of : Status → ℕ
number_of Done = 0
number_of Usage = 1
number_of (BadQuery line why) = 2
number_of (Cycle names) = 3
number_of (BadEvent line why) = 4
number_of (OutOfOrder line at seen) = 5
number_of (AttachFault side) = 6
number_of (ReadFault side) = 7
number_of WriteFault = 8
number_of (TooMuch limit) = 9
number_of Memory = 10
number_of (BadControl line why) = 11

-- What a reader of bytes answers: what a definition gives, or nothing for want of memory.
use Rattle.std.specs.Prelude.{◌≡◌, ⊤, Result, Ok, Err}
use Rattle.snap_codec.specs.declared.fault.SnapFault.{SnapFault}
use Rattle.snap_codec.specs.declared.fault.SnapFault.TheVariants.{Memory}

-- the fault is the one of the definition; want of memory tells nothing
abbrev pub Fails : {Y : Type 0} → SnapFault → Result Y SnapFault → Type 0
Fails Memory read = ⊤
Fails fault read = read ≡ Err fault

-- what was answered, seen by a view, is what the definition gives; want of memory tells nothing
abbrev pub Gives : {X Y : Type 0} → (X → Y) → Result X SnapFault → Result Y SnapFault → Type 0
Gives view (Ok x) read = read ≡ Ok (view x)
Gives view (Err fault) read = Fails fault read

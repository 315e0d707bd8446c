-- What a refusal of a wider schema tells.
use Rattle.std.specs.Prelude.{◌≡◌, ℕ}
use Rattle.stream_schema.specs.declared.fault.SchemaFault.{SchemaFault}
use Rattle.stream_schema.specs.declared.fault.SchemaFault.TheVariants.{TooWide, Memory}

-- the count is the number of attributes that there would be; want of memory tells nothing
abbrev pub Tells : ℕ → SchemaFault → Type 0
Tells wanted (TooWide count) = count ≡ wanted
Tells wanted Memory = Unit {0}

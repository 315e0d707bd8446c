use Rattle.std.proofs.Common.{◌≡◌, take}
use Rattle.stream_schema.specs.Schema.{kinds_of}
use Rattle.stream_schema.proofs.schema.Schema.kinds.Given as goal

abbrev pub invariant-loop-attribute : goal.invariant-loop-attribute
invariant-loop-attribute l = l.kinds ≡ kinds_of (take l.attribute-index l.attribute-items)

use Rattle.std.proofs.Common.{◌≡◌, take}
use Rattle.cel_types.proofs.attributes.schema_of.Given as goal

abbrev pub invariant-loop-attribute : goal.invariant-loop-attribute
invariant-loop-attribute l = l.schema ≡ take l.attribute-index l.attributes

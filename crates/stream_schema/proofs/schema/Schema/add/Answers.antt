use Rattle.std.proofs.Common.{◌≡◌, ◌<◌, length, ap, arith}
use Rattle.std.specs.Prelude.{None}
use Rattle.stream_schema.specs.Schema.{place_of}
use Rattle.stream_schema.proofs.SchemaLemmas.{IsSchema-append}
use Rattle.stream_schema.proofs.schema.Schema.add.Goals as goal

pub invariant_of-self-2 : goal.invariant_of-self-2
invariant_of-self-2 c =
    let absent : place_of c.in_ok-attribute.attribute.name c.self.inside.attributes ≡ None = rw (c.in_ok-attribute.ensures, c.self.view_is) c.requires in
    let few : length c.self.inside.attributes < 256 = omega (arith, ap length c.self.view_is) in
    rw c.in_ok-add.ensures.ok (IsSchema-append c.self.inside.attributes _ c.self.invariant few absent)

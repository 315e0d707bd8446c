use Rattle.std.proofs.Common.{◌≡◌, [], length, take, refl}
use Rattle.std.specs.Prelude.{None, Some, slice_get}
use Rattle.std.proofs.lemmas.Option.{slice_get_read}
use Rattle.stream_schema.specs.Schema.{place_of}
use Rattle.cel_types.proofs.NewLemmas.{new-at}
use Rattle.cel_types.proofs.attributes.schema_of.Goals as goal

pub put-requires-clause-new : goal.put-requires-clause-new
put-requires-clause-new c =
    let attrs = c.args.attributes.now in
    let i = c.loop-attribute.attribute-index in
    let a = c.attribute-item.result in
    let at : slice_get attrs i ≡ Some a = slice_get_read attrs (length attrs) i a refl c.loop-attribute-test.true c.attribute-item.is in
    let new : place_of a.name (take i attrs) ≡ None = new-at [] attrs i a c.requires at in
    let name : c.name.result.now ≡ a.name = c.name.ensures in
    rw (name, c.loop-attribute.invariant) new

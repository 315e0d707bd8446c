use Rattle.std.proofs.Common.{add-one, arith, map}
use Rattle.std.proofs.lemmas.Grind.{common_steps}
use Rattle.stream_schema.specs.Schema.{Attr}
use Rattle.plan_text.specs.Texts.{attribute_text}
use Rattle.plan_text.proofs.ListedLemmas.{attribute-at, listed-take}
use Rattle.plan_text.proofs.lines.append_schema.Goals as goal

-- one more attribute was put behind its gap
pub loop-place-preserved : goal.loop-place-preserved
loop-place-preserved c =
    let attribute : Attr = record { name = c.name.result.now; kind = c.kind.result } in
    let there = attribute-at c.args.schema.now c.loop-place.place c.name.result.now c.kind.result c.name.ensures c.kind.ensures in
    let more = listed-take (map attribute_text c.args.schema.now) c.loop-place.place (attribute_text attribute) there in
    rw add-one (grind (arith, common_steps, more))

use Rattle.std.proofs.Common.{add-one, arith}
use Rattle.std.proofs.lemmas.Grind.{common_steps}
use Rattle.plan_text.proofs.ListedLemmas.{listed-take}
use Rattle.plan_text.proofs.lines.append_names.Goals as goal

-- one more name was put behind its gap
pub loop-place-preserved : goal.loop-place-preserved
loop-place-preserved c =
    let more = listed-take c.args.names.now c.loop-place.place c.get.result.now c.get.ensures in
    rw add-one (grind (arith, common_steps, more))

use Rattle.std.proofs.Common.{◌<◌, ◌≤◌, ℕ, List, length, subst, arith}
use Rattle.std.proofs.lemmas.List.Elements.{All-get_or}
use Rattle.epoch_draft.specs.Marks.{AreLowered}
use Rattle.epoch_draft.proofs.Lists.{taken_all}
use Rattle.epoch_draft.proofs.MarkLemmas.{lower_more, lower_none}
use Rattle.epoch_draft.proofs.marks.lower.Goals as goal

pub loop-number-init : goal.loop-number-init
loop-number-init c = lower_none c.args.flags.now

-- one flag more is down
pub loop-number-preserved : goal.loop-number-preserved
loop-number-preserved c =
    let ns = c.args.numbers.now in
    let i = c.loop-number.number-index in
    let lt : i < length ns = omega arith in
    lower_more ns i c.args.flags.now c.loop-number.flags lt (All-get_or (λ n. n < length c.args.flags.now) ns i 0 lt c.requires) c.loop-number.invariant

-- all are
pub returns : goal.returns
returns c =
    let ns = c.args.numbers.now in
    let past : length ns ≤ c.loop-number.number-index = omega arith in
    subst (λ (xs : List ℕ). AreLowered xs c.args.flags.now c.loop-number.flags) (taken_all ns c.loop-number.number-index past) c.loop-number.invariant

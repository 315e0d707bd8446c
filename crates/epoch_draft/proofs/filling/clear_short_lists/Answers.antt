use Rattle.std.proofs.Common.{◌<◌, ◌≤◌, ℕ, List, length, subst, arith}
use Rattle.std.proofs.lemmas.List.Elements.{All-get_or}
use Rattle.epoch_draft.proofs.ClearLemmas.{Cleared, clear_all, clear_more, clear_none}
use Rattle.epoch_draft.proofs.Lists.{taken_all}
use Rattle.epoch_draft.proofs.filling.clear_short_lists.Goals as goal

pub loop-number-init : goal.loop-number-init
loop-number-init c = clear_none c.args.lists.now

-- one list more is empty
pub loop-number-preserved : goal.loop-number-preserved
loop-number-preserved c =
    let ns = c.args.numbers.now in
    let i = c.loop-number.number-index in
    let lt : i < length ns = omega arith in
    clear_more ns i c.args.lists.now c.loop-number.lists c.clear.new.self lt (All-get_or (λ n. n < length c.args.lists.now) ns i 0 lt c.requires.numbers) c.clear.ensures c.loop-number.invariant

-- all are
pub returns-clause-empty : goal.returns-clause-empty
returns-clause-empty c =
    let ns = c.args.numbers.now in
    let past : length ns ≤ c.loop-number.number-index = omega arith in
    clear_all ns c.args.lists.now c.loop-number.lists c.requires.others
    (subst (λ (xs : List ℕ). Cleared xs c.args.lists.now c.loop-number.lists) (taken_all ns c.loop-number.number-index past) c.loop-number.invariant)

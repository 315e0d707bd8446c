use Rattle.std.proofs.Common.{◌≡◌, ◌∙◌, ◌-◌, List, ℕ, length, map, ap, arith}
use Rattle.std.specs.Prelude.{◌==◌}
use Rattle.std.specs.List.{position_or_len, remove}
use Rattle.std.proofs.lemmas.Option.{get_or_from_slice_get, slice_get_within}
use Rattle.work_order.specs.Numbers.{moved_down}
use Rattle.work_order.proofs.NumbersLemmas.{last_left}
use Rattle.work_order.proofs.order.WorkOrder.pop.Goals as goal

pub returns : goal.returns
returns c =
    let order : List ℕ = c.args.self.now in
    let last : ℕ = length order - 1 in
    let within = slice_get_within order last last c.requires in
    let same : c.len-last.result - 1 ≡ last = ap (λ n. n - 1) c.len-last.ensures.value in
    c.leave.ensures ∙ ap (λ n. map (moved_down n) (remove order (position_or_len (λ other. n == other) order))) same
    ∙ last_left order c.len-last.ensures.numbers last (omega (arith, within)) (get_or_from_slice_get order last last 0 c.requires)

use Rattle.std.proofs.Common.{◌≡◌, ℕ, get_or, arith}
use Rattle.std.proofs.lemmas.List.Sums.{sum_by_more, sum_by_more_le}
use Rattle.std.proofs.lemmas.Option.{get_or_from_slice_get}
use Rattle.catalogue.proofs.sharing.span_at.Goals as goal

-- those before and its own are within all
pub overflow_add-result : goal.overflow_add-result
overflow_add-result c =
    let own : get_or c.args.numbers.now c.args.place 0 ≡ c.get.result = get_or_from_slice_get c.args.numbers.now c.args.place c.get.result 0 c.get.ensures in
    let most = sum_by_more_le (λ (n : ℕ). n) c.args.numbers.now c.args.place 0 c.requires in
    omega (arith, most, own, c.before-first.ensures.value, c.before-first.ensures.whole)

pub returns-clause-end : goal.returns-clause-end
returns-clause-end c =
    let own : get_or c.args.numbers.now c.args.place 0 ≡ c.get.result = get_or_from_slice_get c.args.numbers.now c.args.place c.get.result 0 c.get.ensures in
    let more = sum_by_more (λ (n : ℕ). n) c.args.numbers.now c.args.place 0 c.requires in
    omega (arith, more, own, c.before-first.ensures.value)

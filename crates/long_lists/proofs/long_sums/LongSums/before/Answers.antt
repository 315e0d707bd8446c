use Rattle.std.proofs.Common.{◌-◌, ◌<◌, ◌≤◌, List, ℕ, length, take, sym, ap, subst, arith}
use Rattle.std.specs.List.{sum}
use Rattle.long_lists.proofs.SumsLemmas.{early_within, first_fits, first_sum, first_within, late_fits, late_sum, late_within, read_fits}
use Rattle.long_lists.proofs.long_sums.LongSums.before.Goals as goal

pub spot-spot-requires : goal.spot-spot-requires
spot-spot-requires c = early_within c.self.inside.numbers c.args.place (subst (λ n. c.args.place < n) c.closed_len-closed.ensures c.if-place-closed.true)

pub sum_of_first-first-requires-clause-within : goal.sum_of_first-first-requires-clause-within
sum_of_first-first-requires-clause-within c = first_within c.self.inside.numbers c.self.inside.sums c.self.invariant c.spot-spot.result.block c.block.result.now c.block.ensures c.args.place c.spot-spot.result.offset c.spot-spot.ensures

pub sum_of_first-first-requires-clause-fits : goal.sum_of_first-first-requires-clause-fits
sum_of_first-first-requires-clause-fits c = read_fits c.self.inside.numbers c.self.inside.sums c.self.invariant c.spot-spot.result.block c.block.result.now c.block.ensures

pub overflow_add-result : goal.overflow_add-result
overflow_add-result c =
    let fits = first_fits c.self.inside.numbers c.self.inside.sums c.self.invariant c.spot-spot.result.block c.block.result.now c.block.ensures c.args.place c.spot-spot.result.offset c.spot-spot.ensures in
    omega (arith, fits, c.before-then-place-closed.ensures, c.sum_of_first-first.ensures)

pub returns-then-place-closed-clause-value : goal.returns-then-place-closed-clause-value
returns-then-place-closed-clause-value c =
    let is = first_sum c.self.inside.numbers c.self.inside.sums c.self.invariant c.spot-spot.result.block c.block.result.now c.block.ensures c.args.place c.spot-spot.result.offset c.spot-spot.ensures in
    let same = ap (λ (numbers : List ℕ). sum (take c.args.place numbers)) c.self.view_is in
    omega (arith, is, same, c.before-then-place-closed.ensures, c.sum_of_first-first.ensures)

pub sum_of_first-requires-clause-within : goal.sum_of_first-requires-clause-within
sum_of_first-requires-clause-within c =
    let late = subst (λ n. n ≤ c.args.place) c.closed_len-closed.ensures c.if-place-closed.false in
    let in_list = subst (λ (numbers : List ℕ). c.args.place ≤ length numbers) (sym c.self.view_is) c.requires in
    let within = late_within c.self.inside.numbers c.self.inside.sums c.self.invariant c.closed.result c.block-last.result.now c.block-last.ensures c.closed.ensures c.args.place late in_list in
    omega (arith, within, c.closed_len-closed.ensures)

pub sum_of_first-requires-clause-fits : goal.sum_of_first-requires-clause-fits
sum_of_first-requires-clause-fits c = read_fits c.self.inside.numbers c.self.inside.sums c.self.invariant c.closed.result c.block-last.result.now c.block-last.ensures

pub overflow_add-result-2 : goal.overflow_add-result-2
overflow_add-result-2 c =
    let late = subst (λ n. n ≤ c.args.place) c.closed_len-closed.ensures c.if-place-closed.false in
    let in_list = subst (λ (numbers : List ℕ). c.args.place ≤ length numbers) (sym c.self.view_is) c.requires in
    let fits = late_fits c.self.inside.numbers c.self.inside.sums c.self.invariant c.closed.result c.block-last.result.now c.block-last.ensures c.closed.ensures c.args.place late in_list in
    let first = ap (λ n. sum (take (c.args.place - n) c.block-last.result.now)) c.closed_len-closed.ensures in
    omega (arith, fits, first, c.sum.ensures, c.sum_of_first.ensures)

pub returns-clause-value : goal.returns-clause-value
returns-clause-value c =
    let late = subst (λ n. n ≤ c.args.place) c.closed_len-closed.ensures c.if-place-closed.false in
    let in_list = subst (λ (numbers : List ℕ). c.args.place ≤ length numbers) (sym c.self.view_is) c.requires in
    let is = late_sum c.self.inside.numbers c.self.inside.sums c.self.invariant c.closed.result c.block-last.result.now c.block-last.ensures c.closed.ensures c.args.place late in_list in
    let first = ap (λ n. sum (take (c.args.place - n) c.block-last.result.now)) c.closed_len-closed.ensures in
    let same = ap (λ (numbers : List ℕ). sum (take c.args.place numbers)) c.self.view_is in
    omega (arith, is, first, same, c.sum.ensures, c.sum_of_first.ensures)

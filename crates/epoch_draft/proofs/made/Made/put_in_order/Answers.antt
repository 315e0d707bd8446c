use Rattle.std.proofs.Common.{◌+◌, ◌<◌, ◌≤◌, sym, refl, ℕ, List, [], get_or, length, subst, take, arith}
use Rattle.std.proofs.lemmas.List.Elements.{All-get_or}
use Rattle.event_types.specs.Order.{sorted}
use Rattle.event_types.specs.Tuple.{TupleView}
use Rattle.epoch_draft.proofs.Lists.{taken_all}
use Rattle.epoch_draft.proofs.OrderLemmas.{OrderedSoFar, ordered_all, ordered_more, ordered_none}
use Rattle.epoch_draft.proofs.made.Made.put_in_order.Goals as goal

pub loop-stream-init : goal.loop-stream-init
loop-stream-init c = ordered_none c.args.self.now

-- one list more is in order
pub loop-stream-preserved : goal.loop-stream-preserved
loop-stream-preserved c =
    let ns = c.args.streams.now in
    let i = c.loop-stream.stream-index in
    let old = c.loop-stream.self in
    let lt : i < length ns = omega arith in
    subst (λ (xss : List (List TupleView)). OrderedSoFar (take (i + 1) ns) c.args.self.now xss) (sym c.in_ok-put_one_in_order.ensures)
    (ordered_more ns i c.args.self.now old (sorted (get_or old (get_or ns i 0) [])) lt (All-get_or (λ n. n < length c.args.self.now) ns i 0 lt c.requires.streams) refl c.loop-stream.invariant)

-- all are
pub returns-clause-ordered : goal.returns-clause-ordered
returns-clause-ordered c =
    let ns = c.args.streams.now in
    let past : length ns ≤ c.loop-stream.stream-index = omega arith in
    ordered_all ns c.args.self.now c.loop-stream.self c.requires.others
    (subst (λ (xs : List ℕ). OrderedSoFar xs c.args.self.now c.loop-stream.self) (taken_all ns c.loop-stream.stream-index past) c.loop-stream.invariant)

use Rattle.std.proofs.Common.{◌∙◌, ◌++◌, ap, sym, List, ℕ, append-nil}
use Rattle.static_index.specs.Buckets.{ids_if_met, ordered, seen_bound}
use Rattle.static_index.proofs.RangeLemmas.{none_between}
use Rattle.static_index.proofs.ordered.collect_met.Goals as goal

-- there is no bucket
pub returns-then-is_empty : goal.returns-then-is_empty
returns-then-is_empty c =
    let none = none_between ordered (seen_bound c.args.low) (seen_bound c.args.high) (ids_if_met c.args.cmp c.args.value.now) c.args.buckets.now.entries (c.is_empty.ensures.0 c.if-is_empty.true) in
    sym (ap (λ (ids : List ℕ). c.args.found.now ++ ids) none ∙ append-nil c.args.found.now)

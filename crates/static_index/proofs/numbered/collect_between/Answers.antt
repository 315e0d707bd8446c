use Rattle.std.proofs.Common.{◌∙◌, ◌++◌, ap, sym, List, ℕ, append-nil}
use Rattle.std.specs.Ordering.{int_cmp}
use Rattle.static_index.specs.Buckets.{seen_bound}
use Rattle.static_index.proofs.RangeLemmas.{none_between}
use Rattle.static_index.proofs.numbered.collect_between.Goals as goal

-- there is no bucket
pub returns-then-is_empty : goal.returns-then-is_empty
returns-then-is_empty c =
    let none = none_between int_cmp (seen_bound c.args.low) (seen_bound c.args.high) (λ e. e.1) c.args.buckets.now.entries (c.is_empty.ensures.0 c.if-is_empty.true) in
    sym (ap (λ (ids : List ℕ). c.args.found.now ++ ids) none ∙ append-nil c.args.found.now)

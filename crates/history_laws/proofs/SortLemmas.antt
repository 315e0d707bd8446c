-- What a filter keeps of sorted tuples is sorted.
use Rattle.std.proofs.Common.{◌≡◌, Bool, List}
use Rattle.std.specs.List.{filter}
use Rattle.std.specs.Ordering.{is_lt}
use Rattle.std.proofs.lemmas.List.Sorted.{IsPermutation-sym, ranks_by}
use Rattle.std.proofs.lemmas.List.Kept.{IsSortedBy-filter}
use Rattle.event_types.specs.Order.{sorted, tuple_cmp}
use Rattle.event_types.specs.OrderLaws.{tuple_exact, tuple_total}
use Rattle.event_types.specs.Tuple.{TupleView}
use Rattle.event_types.proofs.SortLemmas.{sort_permutes, sorted_is}
use Rattle.scalar_expr.proofs.Bags.{filter_permuted}
use Rattle.scalar_expr.proofs.SortedLemmas.{sort_sorted}

-- what is kept of the tuples in their order is those that are kept, in their order
pub filter_sorted : (test : TupleView → Bool) (tuples : List TupleView) → filter test (sorted tuples) ≡ sorted (filter test tuples)
filter_sorted test tuples =
    sorted_is tuple_cmp tuple_total tuple_exact (filter test tuples) (filter test (sorted tuples))
    (filter_permuted test tuples (sorted tuples) (IsPermutation-sym (sorted tuples) tuples (sort_permutes tuple_cmp tuple_total tuples)))
    (IsSortedBy-filter (λ s t. is_lt (tuple_cmp s t)) (ranks_by tuple_total (λ t. t)) test (sorted tuples) (sort_sorted tuple_cmp tuple_total tuples))

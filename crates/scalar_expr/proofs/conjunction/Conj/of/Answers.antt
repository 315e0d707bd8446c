use Rattle.std.proofs.Common.{◌≡◌, ◌∙◌, sym, ap, map, subst}
use Rattle.std.specs.List.{dedup}
use Rattle.std.specs.Ordering.{eq_by_cmp}
use Rattle.std.proofs.lemmas.List.Filters.{dedup_is}
use Rattle.std.proofs.lemmas.List.Sorted.{IsPermutation-map}
use Rattle.event_types.proofs.SortLemmas.{sorted_is}
use Rattle.scalar_expr.specs.Canonical.{AreCanonical, distinct_parts}
use Rattle.scalar_expr.specs.TermOrder.{pr_cmp, pred_cmp}
use Rattle.scalar_expr.specs.TermOrderLaws.{pr_total}
use Rattle.scalar_expr.proofs.TermOrderLemmas.{pr_exact}
use Rattle.scalar_expr.specs.Views.{pr_of}
use Rattle.scalar_expr.proofs.CanonicalLemmas.{map-dedup_all, IsSorted-map}
use Rattle.scalar_expr.proofs.OneForm.{distinct_parts-canonical}
use Rattle.scalar_expr.proofs.conjunction.Conj.of.Goals as goal

-- the predicates, sorted and each once, are seen in their canonical order, each once
in_form : (c : goal.After-dedup) → map pr_of c.dedup.new.self.items ≡ distinct_parts (map pr_of c.args.parts.items)
in_form c =
    let sorted = c.sort_unstable.new.self.items in
    let in_order = sorted_is pr_cmp pr_total pr_exact _ _ (IsPermutation-map pr_of _ _ c.sort_unstable.ensures.permutation) (IsSorted-map pr_of pr_cmp sorted c.sort_unstable.ensures.sorted) in
    ap (map pr_of) (dedup_is (eq_by_cmp pred_cmp) _ _ c.dedup.ensures.filtered) ∙ map-dedup_all pr_of (eq_by_cmp pr_cmp) sorted ∙ ap (dedup (eq_by_cmp pr_cmp)) in_order

pub in_order-requires : goal.in_order-requires
in_order-requires c = subst AreCanonical (sym (in_form c)) (distinct_parts-canonical (map pr_of c.args.parts.items))

pub returns : goal.returns
returns c = c.in_order.ensures ∙ in_form c.before

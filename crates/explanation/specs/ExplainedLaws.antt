-- The order of results is total. No contract cites this; the impls of the order do.
use Rattle.std.specs.Ordering.{on}
use Rattle.std.specs.Cmp.{IsTotalOrder}
use Rattle.std.proofs.lemmas.Cmp.{nat_cmp_total, on_total, then_total}
use Rattle.derivations.specs.DerivationOrderLaws.{derived_total}
use Rattle.explanation.specs.Explained.{explained_cmp}

pub explained_total : IsTotalOrder explained_cmp
explained_total = then_total (then_total (on_total (λ x. x.derived.tuple.at) nat_cmp_total) (on_total (λ x. x.query) nat_cmp_total)) (on_total (λ x. x.derived) derived_total)

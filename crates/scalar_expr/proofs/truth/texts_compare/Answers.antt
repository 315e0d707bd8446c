use Rattle.std.proofs.Common.{◌∙◌, sym, ap}
use Rattle.std.specs.Cmp.Lexicographic.{slice_cmp, texts_ties}
use Rattle.std.specs.Ordering.{nat_cmp}
use Rattle.event_types.specs.declared.comparison.Cmp.{Cmp}
use Rattle.semantics.specs.Truth.{is_accepted}
use Rattle.scalar_expr.proofs.truth.texts_compare.Goals as goal

-- texts are equal where their order is that of equals
pub returns-in-Eq : goal.returns-in-Eq
returns-in-Eq c = c.eq.ensures ∙ texts_ties c.args.x.now c.args.y.now ∙ ap (λ (k : Cmp). is_accepted k (slice_cmp nat_cmp c.args.x.now c.args.y.now)) (sym c.in-Eq.is)

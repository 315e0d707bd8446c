use Rattle.std.proofs.Common.{◌≡◌, ◌∙◌, sym, ap}
use Rattle.semantics.specs.Scalars.{Projection}
use Rattle.scalar_expr.specs.TermOrder.{sc_cmp}
use Rattle.scalar_expr.specs.TermOrderLaws.{sc_total}
use Rattle.scalar_expr.specs.Views.{sc_of}
use Rattle.scalar_expr.proofs.EqualityLemmas.{lists_decide}
use Rattle.scalar_expr.proofs.TermOrderLemmas.{sc_exact}
use Rattle.scalar_expr.proofs.projection.Map.is_same.Goals as goal

-- the scalars are one where their terms tie
pub returns-then-self-other : goal.returns-then-self-other
returns-then-self-other c =
    let mine = c.scalars.ensures in
    let theirs = c.scalars-then-self-other.ensures in
    let widths : c.args.self.now.width ≡ c.args.other.now.width =
    sym (ap (λ (m : Projection). m.width) c.self.view_is) ∙ c.if-self-other.true ∙ ap (λ (m : Projection). m.width) c.other.view_is in
    let decides = lists_decide sc_cmp sc_total sc_exact sc_of c.scalars.result.now c.scalars-then-self-other.result.now c.eq.result c.eq.ensures in (
      λ same i. record { width = widths i; parts = (sym mine ∙ decides.0 same ∙ theirs) i },
      λ is. decides.1 (mine ∙ ap (λ (m : Projection). m.parts) is ∙ sym theirs),
    )

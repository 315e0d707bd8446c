use Rattle.std.proofs.Common.{◌∙◌, sym}
use Rattle.scalar_expr.specs.TermOrder.{pr_cmp}
use Rattle.scalar_expr.specs.TermOrderLaws.{pr_total}
use Rattle.scalar_expr.specs.Views.{pr_of}
use Rattle.scalar_expr.proofs.EqualityLemmas.{lists_decide}
use Rattle.scalar_expr.proofs.TermOrderLemmas.{pr_exact}
use Rattle.scalar_expr.proofs.conjunction.Conj.is_same.Goals as goal

-- the parts are one where their terms tie
pub returns : goal.returns
returns c =
    let decides = lists_decide pr_cmp pr_total pr_exact pr_of c.parts.result.now c.parts-2.result.now c.eq.result c.eq.ensures in
    (λ same. sym c.parts.ensures ∙ decides.0 same ∙ c.parts-2.ensures, λ is. decides.1 (c.parts.ensures ∙ is ∙ sym c.parts-2.ensures))

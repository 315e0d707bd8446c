use Rattle.std.proofs.Common.{◌∙◌}
use Rattle.scalar_expr.proofs.projection.apply.Goals as goal

pub returns : goal.returns
returns c = c.spanning.ensures ∙ (λ i. record { vals = c.in_ok-vals.ensures i; from = c.args.from; at = c.args.at })

use Rattle.std.proofs.Common.{◌∙◌, sym, ap}
use Rattle.std.specs.List.{list_all}
use Rattle.std.proofs.lemmas.List.Folds.{list_all-map}
use Rattle.scalar_expr.specs.Classes.{is_fixed}
use Rattle.scalar_expr.specs.Views.{pr_of}
use Rattle.scalar_expr.specs.declared.predicate.Pred.{Pred}
use Rattle.scalar_expr.proofs.conjunction.Conj.in_order.Goals as goal

pub invariant_of-result : goal.invariant_of-result
invariant_of-result c =
    (c.requires, c.all_fixed-fixed.ensures ∙ ap (list_all (λ (p : Pred). is_fixed (pr_of p))) c.deref.ensures.value ∙ sym (list_all-map is_fixed pr_of c.args.parts.items))

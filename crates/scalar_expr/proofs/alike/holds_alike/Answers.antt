use Rattle.std.proofs.Common.{◌∙◌, sym, ap}
use Rattle.std.proofs.lemmas.List.Folds.{list_all-map}
use Rattle.std.specs.List.{list_all}
use Rattle.std.specs.Prelude.{Some}
use Rattle.scalar_expr.specs.Fits.{PredFits}
use Rattle.semantics.specs.Truth.{truth}
use Rattle.semantics.specs.Scalars.{Pr}
use Rattle.scalar_expr.specs.Views.{pr_of}
use Rattle.scalar_expr.proofs.SeenLemmas.{All-seen}
use Rattle.scalar_expr.proofs.alike.holds_alike.Goals as goal

pub all_hold_alike-requires-clause-fits : goal.all_hold_alike-requires-clause-fits
all_hold_alike-requires-clause-fits g c = All-seen (λ q. PredFits q c.args.event.now (Some c.args.binding.now)) pr_of _ _ c.parts.ensures c.requires.fits

pub returns-clause-value : goal.returns-clause-value
returns-clause-value g c =
    let test = λ (q : Pr). truth q c.args.event.now (Some c.args.binding.now) in
    c.all_hold_alike.ensures ∙ sym (list_all-map test pr_of c.parts.result.now) ∙ ap (list_all test) c.parts.ensures

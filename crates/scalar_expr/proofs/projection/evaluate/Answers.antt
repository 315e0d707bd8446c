use Rattle.std.proofs.Common.{◌∙◌, ap, map}
use Rattle.std.specs.Option.{option_copied}
use Rattle.semantics.specs.Scalars.{Sc}
use Rattle.semantics.specs.Values.{val}
use Rattle.scalar_expr.specs.Fits.{Fits}
use Rattle.scalar_expr.specs.Views.{sc_of}
use Rattle.scalar_expr.proofs.SeenLemmas.{All-seen, map-seen}
use Rattle.scalar_expr.proofs.projection.evaluate.Goals as goal

pub values_of-requires-clause-fits : goal.values_of-requires-clause-fits
values_of-requires-clause-fits c = All-seen (λ s. Fits s c.args.event.now (option_copied c.args.binding)) sc_of _ _ c.scalars.ensures c.requires.fits

pub returns : goal.returns
returns c =
    let value = λ (s : Sc). val s c.args.event.now (option_copied c.args.binding) in
    c.in_ok-vals.ensures ∙ map-seen value sc_of c.scalars.result.now ∙ ap (map value) c.scalars.ensures

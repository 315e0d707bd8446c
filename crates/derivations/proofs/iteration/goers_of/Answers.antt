use Rattle.std.proofs.Common.{◌∙◌}
use Rattle.std.specs.Prelude.{Some}
use Rattle.std.proofs.lemmas.List.Elements.{All-same}
use Rattle.scalar_expr.specs.Fits.{AllFit}
use Rattle.derivations.specs.DerivedTuples.{DerivedTuple}
use Rattle.derivations.proofs.LaterLemmas.{derived_nexts_keep}
use Rattle.derivations.proofs.iteration.goers_of.Goals as goal

-- what fits each tuple fits each of the nexts
pub passing-requires : goal.passing-requires
passing-requires g c =
    let P = λ (x : DerivedTuple). AllFit c.args.fold.now.on.now x.tuple (Some c.args.binding.now) in
    All-same P _ _ (c.as_slice.ensures ∙ c.in_ok-nexts.ensures) (derived_nexts_keep P c.args.fold.now.choose.now c.args.binding.now c.args.fold.now.found c.requires.on)

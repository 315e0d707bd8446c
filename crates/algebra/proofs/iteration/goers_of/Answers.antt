use Rattle.std.proofs.Common.{◌∙◌}
use Rattle.std.specs.Prelude.{Some}
use Rattle.std.proofs.lemmas.List.Elements.{All-same}
use Rattle.event_types.specs.Tuple.{TupleView}
use Rattle.scalar_expr.specs.Fits.{AllFit}
use Rattle.scalar_expr.proofs.NextsLemmas.{nexts_keep}
use Rattle.algebra.proofs.iteration.goers_of.Goals as goal

-- what fits each tuple fits each of the nexts
pub passing-requires : goal.passing-requires
passing-requires g c =
    let P = λ (r : TupleView). AllFit c.args.fold.now.on.now r (Some c.args.binding.now) in
    All-same P _ _ (c.as_slice.ensures ∙ c.in_ok-found.ensures) (nexts_keep P c.args.fold.now.choose.now c.args.binding.now c.args.fold.now.tuples.now c.requires.on)

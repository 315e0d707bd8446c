use Rattle.std.proofs.Common.{◌∙◌, ◌<◌}
use Rattle.std.proofs.lemmas.List.Elements.{All-same}
use Rattle.event_types.specs.Tuple.{TupleView}
use Rattle.scalar_expr.proofs.NextsLemmas.{nexts_start_later}
use Rattle.algebra.proofs.matching.add_matches.Goals as goal

-- each of the nexts starts after the binding was detected
pub add_joined-requires : goal.add_joined-requires
add_joined-requires g c =
    All-same (λ (r : TupleView). c.args.binding.now.at < r.from) _ _ (c.as_slice.ensures ∙ c.in_ok-found.ensures) (nexts_start_later c.args.condition.now c.args.binding.now c.args.tuples.now)

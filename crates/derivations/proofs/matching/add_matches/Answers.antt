use Rattle.std.proofs.Common.{◌∙◌, ◌<◌, subst}
use Rattle.std.specs.List.{All}
use Rattle.std.proofs.lemmas.List.Elements.{All-same}
use Rattle.derivations.specs.DerivedTuples.{DerivedTuple}
use Rattle.derivations.proofs.LaterLemmas.{derived_nexts_start_later}
use Rattle.derivations.proofs.matching.add_matches.Goals as goal

-- each of the nexts starts after the binding was detected
pub add_joined-requires : goal.add_joined-requires
add_joined-requires g c =
    subst (λ (b : DerivedTuple). All (λ (x : DerivedTuple). b.tuple.at < x.tuple.from) c.as_slice.result.now) c.binding.view_is
    (All-same (λ (x : DerivedTuple). c.binding.inside.tuple.at < x.tuple.from) _ _ (c.as_slice.ensures ∙ c.in_ok-nexts.ensures) (derived_nexts_start_later c.args.condition.now c.binding.inside.tuple c.args.found.now))

use Rattle.std.proofs.Common.{[], ◌∷◌, rules}
use Rattle.event_types.specs.declared.kind.Kind.TheVariants as kind
use Rattle.public_calls.proofs.tests.offering.offer.Goals as goal

pub offer-requires-clause-heard : goal.offer-requires-clause-heard
offer-requires-clause-heard g c = record {
  kinds = kind.Int ∷ [];
  known = search rules;
  declared = search rules;
  of_kinds = c.in_ok-tuple.ensures.kinds;
}

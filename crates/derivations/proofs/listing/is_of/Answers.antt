use Rattle.std.proofs.Common.{◌≡◌, ◌↔◌, subst}
use Rattle.std.specs.Prelude.{IsTrue}
use Rattle.derivations.specs.DerivedTuples.{DerivedTuple}
use Rattle.derivations.specs.Views.{derivation_of}
use Rattle.derivations.proofs.EqualLemmas.{by_decides, tuple_decides}
use Rattle.derivations.proofs.listing.is_of.Goals as goal

-- where the tuples are equal, the derivations decide
pub returns-then-eq : goal.returns-then-eq
returns-then-eq c =
    subst (λ (x : DerivedTuple). IsTrue c.eq-then-eq.result ↔ (x ≡ record { tuple = c.args.tuple.now; by = derivation_of c.args.deriv.now })) c.one.view_is
    (by_decides (record { tuple = c.one.inside.tuple; by = derivation_of c.one.inside.deriv }) c.args.tuple.now (derivation_of c.args.deriv.now) c.eq.result c.eq.ensures c.eq-then-eq.result c.eq-then-eq.ensures c.if-eq.true)

-- where they aren't, it is another
pub returns-else-eq : goal.returns-else-eq
returns-else-eq c =
    subst (λ (x : DerivedTuple). IsTrue c.eq.result ↔ (x ≡ record { tuple = c.args.tuple.now; by = derivation_of c.args.deriv.now })) c.one.view_is
    (tuple_decides (record { tuple = c.one.inside.tuple; by = derivation_of c.one.inside.deriv }) c.args.tuple.now (derivation_of c.args.deriv.now) c.eq.result c.eq.ensures c.if-eq.false)

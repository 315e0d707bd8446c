use Rattle.std.proofs.Common.{◌≡◌, ◌∙◌, ap, sym, ℕ, arith}
use Rattle.std.specs.Prelude.{Some}
use Rattle.std.specs.List.{filter}
use Rattle.std.proofs.lemmas.List.Elements.{All-filter, All-same}
use Rattle.scalar_expr.specs.Fits.{AllFit}
use Rattle.derivations.specs.DerivedTuples.{DerivedTuple, derived_eligible}
use Rattle.derivations.specs.Parted.{has_key_at}
use Rattle.derivations.proofs.PartedLemmas.{eligible_parted}
use Rattle.derivations.proofs.sides.Sides.side_for.Goals as goal

-- what fits all fits those with the key
pub returns-in-Some-key_place-clause-fits : goal.returns-in-Some-key_place-clause-fits
returns-in-Some-key_place-clause-fits c =
    let P = λ (x : DerivedTuple). AllFit c.args.condition.now x.tuple (Some c.args.binding.now) in
    let test = has_key_at c.self.inside.event c.self.inside.keys.keys c.in-Some-key_place.place in
    All-same P _ _ (c.self.invariant.1 c.in-Some-key_place.place c.get.result.now c.get.ensures ∙ ap (filter test) c.self.view_is) (All-filter test P c.args.self.now c.requires)

-- and those that are eligible have it
pub returns-in-Some-key_place-clause-eligible : goal.returns-in-Some-key_place-clause-eligible
returns-in-Some-key_place-clause-eligible c =
    let same : c.in-Some.key.event ≡ c.self.inside.event = omega (arith, c.if-key-self.false) in
    ap (derived_eligible c.args.condition.now c.args.binding.now)
    (c.self.invariant.1 c.in-Some-key_place.place c.get.result.now c.get.ensures ∙ ap (filter (has_key_at c.self.inside.event c.self.inside.keys.keys c.in-Some-key_place.place)) c.self.view_is
    ∙ ap (λ (n : ℕ). filter (has_key_at n c.self.inside.keys.keys c.in-Some-key_place.place) c.args.self.now) (sym same))
    ∙ eligible_parted c.args.condition.now c.in-Some.key c.self.inside.keys.keys c.args.binding.now c.in-Some-key_place.place c.args.self.now c.in-Some.ensures (sym c.key_place.ensures.value ∙ c.in-Some-key_place.is)

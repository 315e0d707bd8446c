use Rattle.std.proofs.Common.{◌∙◌, ap, sym}
use Rattle.semantics.specs.Values.{value_at}
use Rattle.indexmap.proofs.MapLemmas.{OnOk-map}
use Rattle.derivations.specs.DerivedTuples.{DerivedTuple}
use Rattle.derivations.specs.Parted.{place_of}
use Rattle.derivations.proofs.PartedLemmas.{parted_put}
use Rattle.derivations.proofs.sides.put_by_key.Goals as goal

-- the tuple is put under its key
pub returns-in-Some-clause-parted : goal.returns-in-Some-clause-parted
returns-in-Some-clause-parted c = OnOk-map c.add.result _ _ (λ added found are.
    parted_put c.args.event c.args.keys.now.keys c.args.sides.now found c.args.one.now are c.in-Some.place c.get_mut.result.now c.add.new.self
    (ap (λ (x : DerivedTuple). place_of c.args.keys.now.keys (value_at x.tuple c.args.event)) (sym c.one.view_is) ∙ sym c.key_place.ensures.value ∙ c.in-Some.is) c.get_mut.ensures.value added) c.add.ensures

use Rattle.std.proofs.Common.{◌∙◌, ◌++◌, ◌∷◌, [], ap, subst, sym, List}
use Rattle.scalar_expr.proofs.Bags.{permuted_from, permuted_to}
use Rattle.static_index.specs.Conditions.{Condition}
use Rattle.static_index.specs.FixedParts.{fixed_parts}
use Rattle.stream_readers.specs.Filing.{AreAtPlaces, Filed, filed_in}
use Rattle.stream_readers.proofs.PlaceLemmas.{may_had}
use Rattle.stream_readers.proofs.SlotLemmas.{added_is, added_places, cleared_same, free_absent, has_not, same_filed, same_places}
use Rattle.stream_readers.proofs.target_index.TargetIndex.add.Goals as goal

pub add-requires : goal.add-requires
add-requires c = let place = c.free_place-place.result in has_not place c.self.inside.conditions (free_absent c.self.inside.slots c.self.inside.conditions place c.self.invariant.0 c.free_place-place.ensures.free)

-- the condition came
pub invariant_of-self-in-Ok : goal.invariant_of-self-in-Ok
invariant_of-self-in-Ok c =
    let one : Condition = record { id = c.free_place-place.result; parts = fixed_parts c.args.condition.now } in (
      subst (AreAtPlaces c.put_slot.new.slots) (sym c.in-Ok.ensures.ok)
          (added_places c.self.inside.slots c.put_slot.new.slots one c.self.inside.conditions c.args.target c.self.invariant.0 c.free_place-place.ensures.free c.in_ok-put_slot.ensures.here c.in_ok-put_slot.ensures.others),
      c.in_ok-self-inside.ensures.came c.put_slot.new.slots (record { here = c.in_ok-put_slot.ensures.here; others = c.in_ok-put_slot.ensures.others }),
    )

-- it found no room
pub invariant_of-self-in-Err : goal.invariant_of-self-in-Err
invariant_of-self-in-Err c =
    let same = cleared_same c.self.inside.slots c.put_slot.new.slots c.clear_slot.new.slots c.free_place-place.result c.free_place-place.ensures.free c.in_ok-put_slot.ensures.others c.clear_slot.ensures.here c.clear_slot.ensures.others in (
      subst (AreAtPlaces c.clear_slot.new.slots) (sym c.in-Err.ensures.kept) (same_places c.self.inside.slots c.clear_slot.new.slots c.self.inside.conditions same c.self.invariant.0),
      may_had _ c.self.inside.slots c.clear_slot.new.slots (λ k. same k) c.in_ok-self-inside.ensures.kept,
    )

pub returns-in-Ok-clause-added : goal.returns-in-Ok-clause-added
returns-in-Ok-clause-added c =
    let parts = fixed_parts c.args.condition.now in
    let one : Filed = record { target = c.args.target; parts = parts } in
    permuted_from (ap (filed_in c.put_slot.new.slots) c.in-Ok.ensures.ok)
    (permuted_to
    (added_is c.self.inside.slots c.put_slot.new.slots (record { id = c.free_place-place.result; parts = parts }) c.self.inside.conditions c.args.target c.self.invariant.0 c.free_place-place.ensures.free c.in_ok-put_slot.ensures.here c.in_ok-put_slot.ensures.others)
    (ap (λ (fs : List Filed). fs ++ one ∷ []) c.self.view_is))

pub returns-in-Err-clause-kept : goal.returns-in-Err-clause-kept
returns-in-Err-clause-kept c =
    ap (filed_in c.clear_slot.new.slots) c.in-Err.ensures.kept
    ∙ same_filed c.self.inside.slots c.clear_slot.new.slots
    (cleared_same c.self.inside.slots c.put_slot.new.slots c.clear_slot.new.slots c.free_place-place.result c.free_place-place.ensures.free c.in_ok-put_slot.ensures.others c.clear_slot.ensures.here c.clear_slot.ensures.others) c.self.inside.conditions
    ∙ c.self.view_is

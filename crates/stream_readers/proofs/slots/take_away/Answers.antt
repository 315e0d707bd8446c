use Rattle.std.proofs.Common.{◌≡◌, ◌∙◌, ◌<◌, ap, arith, length, subst, sym, true, ◌&&◌, not}
use Rattle.std.specs.Prelude.{None, is_some}
use Rattle.stream_readers.specs.Filing.{AreAtPlaces, filed_in}
use Rattle.stream_readers.specs.Leaving.{moved_in}
use Rattle.stream_readers.proofs.KeyTableLemmas.{ChangedBelow, changed_none, changed_more}
use Rattle.stream_readers.proofs.SlotLemmas.{and_left, at_got}
use Rattle.stream_readers.proofs.TakenLemmas.{all_named, is_taken, left_filed, left_places, moves, named_left, named_on, still_has}
use Rattle.stream_readers.proofs.slots.take_away.Goals as goal
use Rattle.stream_readers.proofs.slots.take_away.Goals.{then-leaves, else-leaves}

pub loop-place-init : goal.loop-place-init
loop-place-init c = record { changed = changed_none (moves c.args.gone) None c.args.slots.now; named = all_named c.args.slots.now c.args.conditions.now c.requires }

pub get_mut-requires : goal.get_mut-requires
get_mut-requires c = omega (arith, c.loop-place-test.true, c.len-place-end.ensures, c.loop-place.invariant.changed.as_many)

-- the target that leaves stood there
pub remove-requires : goal.remove-requires
remove-requires c =
    let slots = c.loop-place.slots in
    let i = c.loop-place.place in
    let here = at_got slots i None c.get_mut.result.now c.get_mut.ensures.value in
    let taken : is_taken slots i ≡ true = ap is_some here ∙ and_left (is_some c.get_mut.result.now) (not (is_some c.leaves.new.slot)) (sym c.leaves.ensures.left ∙ c.if-leaves.true) in
    still_has c.args.gone c.args.slots.now slots c.args.conditions.now c.requires i (subst (λ n. i < n) c.len-place-end.ensures c.loop-place-test.true) c.loop-place.invariant.changed c.loop-place.conditions c.loop-place.invariant.named taken

-- one place more
pub loop-place-preserved : goal.loop-place-preserved
loop-place-preserved c =
    let gone = c.args.gone in
    let old = c.args.slots.now in
    let mid = c.loop-place.slots in
    let i = c.loop-place.place in
    let x = c.leaves.new.slot in
    let lt : i < length old = subst (λ n. i < n) c.len-place-end.ensures c.loop-place-test.true in
    let was = c.loop-place.invariant.changed in
    let here = at_got mid i None c.get_mut.result.now c.get_mut.ensures.value in
    let is : x ≡ moved_in gone _ = c.leaves.ensures.slot ∙ ap (moved_in gone) (sym here) in
    let left = c.leaves.ensures.left ∙ ap (λ o. is_some o && not (is_some x)) (sym here) in
    record {
      changed = changed_more (moves gone) None i old mid x lt was is;
      named = elim c.if-leaves.branch [
        | then-leaves w ↦ w.conditions-is ∙ w.remove.ensures ∙ named_left gone old mid c.args.conditions.now c.requires i lt was x c.leaves.result is left c.loop-place.conditions c.loop-place.invariant.named w.if-leaves.true
        | else-leaves w ↦ w.conditions-is ∙ named_on gone old mid c.args.conditions.now c.requires i lt was x c.leaves.result is left c.loop-place.conditions c.loop-place.invariant.named w.if-leaves.false
      ];
    }

pub returns-clause-places : goal.returns-clause-places
returns-clause-places c =
    let slots = c.loop-place.slots in
    subst (AreAtPlaces slots) (sym c.loop-place.invariant.named)
    (left_places c.args.gone c.args.slots.now slots c.args.conditions.now c.requires
    (subst (λ n. ChangedBelow (moves c.args.gone) None n c.args.slots.now slots) (omega (arith, c.loop-place-test.false, c.loop-place.auto.place-end, c.len-place-end.ensures)) c.loop-place.invariant.changed))

pub returns-clause-left : goal.returns-clause-left
returns-clause-left c =
    let slots = c.loop-place.slots in
    ap (filed_in slots) c.loop-place.invariant.named
    ∙ left_filed c.args.gone c.args.slots.now slots c.args.conditions.now c.requires
    (subst (λ n. ChangedBelow (moves c.args.gone) None n c.args.slots.now slots) (omega (arith, c.loop-place-test.false, c.loop-place.auto.place-end, c.len-place-end.ensures)) c.loop-place.invariant.changed) c.args.conditions.now

use Rattle.std.proofs.Common.{◌∙◌, ◌<◌, ◌++◌, ap, append-nil, length, sym, ℕ}
use Rattle.std.specs.Prelude.{Option, option_to_list}
use Rattle.std.proofs.lemmas.List.Elements.{All-get_or}
use Rattle.stream_readers.specs.declared.target.Target.{Target}
use Rattle.stream_readers.proofs.SlotLemmas.{places_more}
use Rattle.stream_readers.proofs.slots.gather.Goals as goal
use Rattle.stream_readers.proofs.slots.gather.Goals.{in-Some+in_ok-add, in_default}

pub get-requires : goal.get-requires
get-requires c = All-get_or (λ (place : ℕ). place < length c.args.slots.now) c.args.places.now c.loop-place.place-index 0 c.loop-place-test.true c.requires

-- one place more
pub loop-place-preserved : goal.loop-place-preserved
loop-place-preserved c =
    let more = places_more c.args.slots.now c.args.places.now c.loop-place.place-index c.get.result.now c.loop-place.found c.match-get.found c.loop-place-test.true c.get.ensures c.loop-place.invariant in
    elim c.match-get.branch [
      | in-Some+in_ok-add w ↦ more (w.found-is ∙ w.in_ok-add.ensures.ok ∙ ap (λ (o : Option Target). c.loop-place.found ++ option_to_list o) (sym w.in-Some.is))
      | in_default w ↦ more (w.found-is ∙ sym (append-nil c.loop-place.found) ∙ ap (λ (o : Option Target). c.loop-place.found ++ option_to_list o) (sym w.in_default.is))
    ]

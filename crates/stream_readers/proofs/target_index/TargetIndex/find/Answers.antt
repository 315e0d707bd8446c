use Rattle.std.proofs.Common.{◌∙◌, ap, subst, sym, ℕ, ◌<◌, length}
use Rattle.std.specs.List.{All}
use Rattle.std.proofs.lemmas.Result.{on_ok_weaker}
use Rattle.stream_readers.specs.Filing.{at_places, targets_met}
use Rattle.stream_readers.proofs.SlotLemmas.{places_met, targets_found}
use Rattle.stream_readers.proofs.target_index.TargetIndex.find.Goals as goal

pub gather-requires : goal.gather-requires
gather-requires c =
    let slots = c.self.inside.slots in
    subst (All (λ (place : ℕ). place < length slots)) (sym (c.as_slice.ensures ∙ c.in_ok-matching.ensures.value)) (places_met c.args.tuple.now slots c.self.inside.conditions c.self.invariant.0)

pub returns : goal.returns
returns c =
    let slots = c.self.inside.slots in
    let t = c.args.tuple.now in
    on_ok_weaker c.gather.result
    (λ found. found ∙ ap (at_places slots) (c.as_slice.ensures ∙ c.in_ok-matching.ensures.value) ∙ targets_found t slots c.self.inside.conditions ∙ ap (targets_met t) c.self.view_is) c.gather.ensures

use Rattle.std.proofs.Common.{◌∙◌, ◌<◌, ap, sym, subst, ℕ, get_or, length, arith}
use Rattle.std.proofs.lemmas.List.{length-set}
use Rattle.std.proofs.lemmas.List.Elements.{All-get_or}
use Rattle.std.proofs.lemmas.Option.{get_or_from_slice_get}
use Rattle.epoch_draft.specs.Turns.{GivesTurn}
use Rattle.epoch_draft.proofs.TurnLemmas.{turns_more}
use Rattle.epoch_draft.proofs.turns.Turns.arrange.Goals as goal

-- one stream more has its turn
pub loop-place-preserved : goal.loop-place-preserved
loop-place-preserved c =
    let order = c.args.order.now in
    let place = c.loop-place.place in
    let old = c.loop-place.self in
    let new = c.give.new.self in
    let was = c.loop-place.invariant in
    let many = was.as_many in
    let same = ap length c.start-start.ensures.given in
    let end = c.len-end.ensures in
    let here : place < length order = omega (arith, end) in
    let below = All-get_or (λ s. s < length c.args.self.now.given) order place 0 here c.requires.below in
    let gives = subst (λ (s : ℕ). GivesTurn s old new) (sym (get_or_from_slice_get order place c.get.result.now 0 c.get.ensures)) c.give.ensures in
    record {
      in_turn = turns_more order place old new here (omega (arith, below, many, same)) (c.requires.once place here) gives was.in_turn;
      left = (let next = gives.last in let few = was.left in omega (arith, next, few));
      as_many = ap length gives.given ∙ length-set old.given (get_or order place 0) new.last ∙ many;
    }

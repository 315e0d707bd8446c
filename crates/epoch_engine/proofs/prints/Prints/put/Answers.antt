use Rattle.std.proofs.Common.{◌<◌, length, sym, subst, ℕ, take, arith}
use Rattle.std.specs.Prelude.{Contains}
use Rattle.std.proofs.lemmas.Option.{get_or_from_slice_get}
use Rattle.std.proofs.lemmas.List.Elements.{All-get_or}
use Rattle.epoch_draft.specs.Turns.{GivesTurn}
use Rattle.epoch_draft.proofs.TurnLemmas.{turns_more}
use Rattle.epoch_engine.proofs.PrintedLemmas.{has_one, others_give, others_more}
use Rattle.epoch_engine.proofs.prints.Prints.put.Goals as goal

-- one stream more has its turn
pub returns-clause-after : goal.returns-clause-after
returns-clause-after c = λ once.
    (let outs = c.args.outs.now in
    let turns = c.args.self.now.turns in
    let stream = sym (get_or_from_slice_get outs c.args.place c.get-stream.result.now 0 c.get-stream.ensures) in
    turns_more outs c.args.place turns c.give.new.self c.requires.place (All-get_or (λ s. s < length turns.given) outs c.args.place 0 c.requires.place c.requires.below)
    (λ here.
    let some = has_one (take c.args.place outs) turns c.get-stream.result.now (c.requires.before once) (subst (Contains (take c.args.place outs)) (sym stream) here) in
    let none = c.if-turn-gt0.false in
    let turn = c.turn.ensures in omega (arith, some, none, turn))
    (subst (λ (s : ℕ). GivesTurn s turns c.give.new.self) stream c.give.ensures) (c.requires.before once))

-- and the others that have none still have none
pub returns-clause-others : goal.returns-clause-others
returns-clause-others c =
    let outs = c.args.outs.now in
    let turns = c.args.self.now.turns in
    let stream = sym (get_or_from_slice_get outs c.args.place c.get-stream.result.now 0 c.get-stream.ensures) in
    others_give outs turns c.give.new.self c.args.place c.requires.place (subst (λ (s : ℕ). GivesTurn s turns c.give.new.self) stream c.give.ensures) c.requires.others

pub returns-then-turn-gt0-clause-others : goal.returns-then-turn-gt0-clause-others
returns-then-turn-gt0-clause-others c = others_more c.args.outs.now c.args.self.now.turns c.args.place c.requires.place c.requires.others

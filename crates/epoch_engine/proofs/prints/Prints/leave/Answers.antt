use Rattle.std.proofs.Common.{refl, set}
use Rattle.epoch_engine.proofs.PrintedLemmas.{turns_without}
use Rattle.epoch_engine.proofs.prints.Prints.leave.Goals as goal

-- the others have their turns
pub returns-else-not-self-clause-told : goal.returns-else-not-self-clause-told
returns-else-not-self-clause-told c = λ once.
    (let turns = c.args.self.now.turns in
    turns_without c.args.outs.now turns (record turns { given = set turns.given c.args.stream 0 }) c.args.stream refl refl (c.requires.left.gone once) (c.requires.left.in_turn once))

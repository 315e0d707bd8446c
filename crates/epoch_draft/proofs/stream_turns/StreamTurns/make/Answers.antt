use Rattle.std.proofs.Common.{◌≤◌, sym, subst, length, arith}
use Rattle.epoch_draft.specs.Turns.{HaveTurns}
use Rattle.epoch_draft.specs.declared.turns.Turns.{Turns}
use Rattle.epoch_draft.proofs.AgendaLemmas.{below_more}
use Rattle.epoch_draft.proofs.ToldLemmas.{read_all, read_more}
use Rattle.epoch_draft.proofs.TurnLemmas.{turns_none}
use Rattle.epoch_draft.proofs.stream_turns.StreamTurns.make.Goals as goal

-- there is room for the streams of the order
pub arrange-requires-clause-below : goal.arrange-requires-clause-below
arrange-requires-clause-below c = below_more c.args.streams (length c.grow.new.self.turns.given) c.args.order.now c.in_ok-grow.ensures.many_turns c.requires.below

-- none of them has its turn yet
pub arrange-requires-clause-before : goal.arrange-requires-clause-before
arrange-requires-clause-before c = turns_none c.grow.new.self.turns

-- those of one state more are told
pub loop-state-preserved : goal.loop-state-preserved
loop-state-preserved c =
    let was = c.loop-state.invariant in
    let same = c.tell_of.ensures.turns in record {
      many_turns = subst (λ (ts : Turns). c.args.streams ≤ length ts.given) (sym same) was.many_turns;
      many_read = (let many = was.many_read in let stay = c.tell_of.ensures.stay.as_many in omega (arith, many, stay));
      in_turn = subst (HaveTurns c.args.order.now) (sym same) was.in_turn;
      read = read_more c.args.network.now c.loop-state.state c.loop-state.turns.read c.tell_of.new.self.read c.tell_of.ensures.told c.tell_of.ensures.stay was.read;
    }

-- those of all states are
pub returns : goal.returns
returns c =
    let was = c.loop-state.invariant in
    let past : length c.args.network.now ≤ c.loop-state.state = omega arith in record {
      many_turns = was.many_turns;
      many_read = was.many_read;
      in_turn = was.in_turn;
      unread = λ s lt. read_all c.args.network.now c.loop-state.state c.loop-state.turns.read past was.read s (let many = was.many_read in omega (arith, lt, many));
    }

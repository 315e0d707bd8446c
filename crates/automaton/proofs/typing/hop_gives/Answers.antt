use Rattle.std.proofs.lemmas.Result.{IfOk-weaker}
use Rattle.automaton.proofs.TypingLemmas.{hop_given, turn_typed}
use Rattle.automaton.proofs.typing.hop_gives.Goals as goal

-- the rebind edge is typed over what the step gives
pub turn_gives-requires : goal.turn_gives-requires
turn_gives-requires c = turn_typed c.args.streams.now c.args.hop.now c.args.kinds c.in_ok-binding.binding c.get.result.now c.requires c.in_ok-binding.ensures c.get.ensures

-- and gives what the hop gives
pub returns : goal.returns
returns c =
    IfOk-weaker c.turn_gives.result _ _
    (hop_given c.args.streams.now c.args.hop.now c.args.kinds c.in_ok-binding.binding c.get.result.now c.requires c.in_ok-binding.ensures c.get.ensures) c.turn_gives.ensures

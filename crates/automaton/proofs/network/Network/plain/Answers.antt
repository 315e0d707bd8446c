use Rattle.std.proofs.Common.{[], subst, sym}
use Rattle.automaton.specs.States.{Net}
use Rattle.automaton.specs.Growing.{IsWhole}
use Rattle.automaton.proofs.GrowingLemmas.{whole_more}
use Rattle.automaton.proofs.RootLemmas.{whole_none}
use Rattle.automaton.proofs.network.Network.plain.Goals as goal

-- at first there are no lines and no states
pub loop-number-init : goal.loop-number-init
loop-number-init c = subst (λ (net : Net). IsWhole [] net) (sym c.new-slots.ensures.items) whole_none

-- and one more line is added
pub loop-number-preserved : goal.loop-number-preserved
loop-number-preserved c =
    whole_more c.args.lines.now c.loop-number.number c.get.result.now c.loop-number.slots.items c.add_line.new.slots.items c.get.ensures c.loop-number.invariant c.in_ok-add_line.ensures

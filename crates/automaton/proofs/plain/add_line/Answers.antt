use Rattle.std.proofs.lemmas.Result.{on_ok_weaker}
use Rattle.automaton.specs.Growing.{IsWhole}
use Rattle.automaton.specs.Prefixes.{Root}
use Rattle.automaton.proofs.GrowingLemmas.{last_state, next_state}
use Rattle.automaton.proofs.RootLemmas.{first_state}
use Rattle.automaton.proofs.plain.add_line.Goals as goal

-- the line begins at the root state of its stream
pub loop-hop-init : goal.loop-hop-init
loop-hop-init c = first_state c.args.line.now.root c.args.slots.now.items c.root_state.new.slots.items c.in_ok-tip.tip c.in_ok-tip.ensures.value c.in_ok-tip.ensures.rooted

-- a hop leads to a state of its own
pub loop-hop-preserved : goal.loop-hop-preserved
loop-hop-preserved c =
    next_state (λ lines. IsWhole lines c.args.slots.now.items) (Root c.args.line.now.root) c.as_slice-hop-items.result.now c.loop-hop.hop-index c.hop-item.result c.loop-hop.slots.items c.add_hop.new.slots.items c.loop-hop.tip c.in_ok-tip-2.tip
    c.loop-hop-test.true c.hop-item.is c.in_ok-tip-2.ensures.value c.in_ok-tip-2.ensures.hopped c.loop-hop.invariant

-- and the end stands at the last of them
pub returns : goal.returns
returns c =
    on_ok_weaker c.put_end.result
    (λ put. last_state (λ lines. IsWhole lines c.args.slots.now.items) c.args.line.now c.as_slice-hop-items.result.now c.loop-hop.hop-index c.loop-hop.slots.items c.loop-hop.tip c.args.number c.in_ok-step.step c.index_mut.result.now c.put_end.new.slot
    c.loop-hop-test.false c.as_slice-hop-items.ensures c.in_ok-step.ensures c.index_mut.ensures.value put c.loop-hop.invariant)
    c.put_end.ensures.end

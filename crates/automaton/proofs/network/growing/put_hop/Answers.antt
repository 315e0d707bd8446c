use Rattle.std.proofs.Common.{◌∙◌, sym}
use Rattle.automaton.proofs.PlacedLemmas.{edge_cut}
use Rattle.automaton.proofs.network.growing.put_hop.Goals as goal
use Rattle.event_types.proofs.ResultLemmas.{when_err}

-- the edge is taken away again
pub returns-then-is_err-clause-kept : goal.returns-then-is_err-clause-kept
returns-then-is_err-clause-kept c =
    edge_cut c.args.slots.now.items c.put_slot.new.slots.items c.args.before c.args.number c.index_mut.result.now c.put_edge.new.slot c.index_mut-then-is_err.result.now c.cut_edge.new.slot c.requires.before c.index_mut.ensures.value
    c.in_ok-put_edge.ensures.edge (when_err c.put_slot.result (sym c.is_err.ensures.value ∙ c.if-is_err.true) c.put_slot.ensures.kept) c.index_mut-then-is_err.ensures.value c.cut_edge.ensures

use denote.RawPtr.{null_ptr}
use Rattle.inst_chain.proofs.Links.{is_there, has_first, has_last, joined}
use Rattle.inst_chain.proofs.run.join.Goals as goal

pub lead_back-more-requires : goal.lead_back-more-requires
lead_back-more-requires g c = has_first null_ptr _ _ _ c.back.invariant.1 (is_there _ c.back.invariant.0)

pub lead_on-held-requires : goal.lead_on-held-requires
lead_on-held-requires g c = has_last null_ptr _ _ _ c.front.invariant.1 (is_there _ c.front.invariant.0)

pub invariant_of-result : goal.invariant_of-result
invariant_of-result g c = (c.front.invariant.0, joined c.front.inside.first.at c.front.inside.last.at c.back.inside.first.at _ _ _ _ c.back.inside.last.at c.front.invariant.1 c.back.invariant.1 c.lead_back-more.ensures c.lead_on-held.ensures)

use Rattle.std.proofs.Common.{ap, sym, subst, ◌∙◌}
use denote.RawPtr.{null_ptr, InBlock}
use Rattle.inst_chain.specs.Linked.{values}
use Rattle.inst_chain.proofs.Links.{is_there, first_of, has_first, may_test, none_left, only_one, behind}
use Rattle.inst_chain.proofs.run.pop.Goals as goal

pub unlodge-node-requires : goal.unlodge-node-requires
unlodge-node-requires g c = first_of null_ptr _ _ _ _ c.run.invariant.1 (is_there _ c.run.invariant.0)

pub new-requires : goal.new-requires
new-requires g c = may_test _ _ _ _ (behind null_ptr _ _ _ _ _ _ c.unlodge-node.ensures (ap (λ n. n.next) c.deref.ensures) c.run.invariant.1)

pub end-requires : goal.end-requires
end-requires g c = none_left _ _ _ _ c.in-None.ensures.null (behind null_ptr _ _ _ _ _ _ c.unlodge-node.ensures (ap (λ n. n.next) c.deref.ensures) c.run.invariant.1)

pub lead_back-held-requires : goal.lead_back-held-requires
lead_back-held-requires g c = has_first _ _ _ _
    (behind null_ptr _ _ _ _ _ _ c.unlodge-node.ensures (c.as_ptr-at.ensures ∙ c.in-Some.ensures.value ∙ ap (λ n. n.next) c.deref.ensures) c.run.invariant.1)
    (subst InBlock (sym c.as_ptr-at.ensures) c.in-Some.ensures.non_null)

pub returns-in-None-clause-items : goal.returns-in-None-clause-items
returns-in-None-clause-items g c = sym c.run.view_is ∙ ap values (only_one null_ptr _ _ _ _ _ _ c.unlodge-node.ensures (ap (λ n. n.next) c.deref.ensures) c.in-None.ensures.null c.run.invariant.1)

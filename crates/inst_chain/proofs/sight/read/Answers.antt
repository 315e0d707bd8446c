use Rattle.std.proofs.Common.{ap, refl, sym, subst, ◌∙◌}
use denote.RawPtr.{InBlock}
use Rattle.inst_chain.specs.Linked.{values}
use Rattle.inst_chain.proofs.Links.{is_there, has_first, may_test, starts_there, only_one, behind}
use Rattle.inst_chain.proofs.sight.read.Goals as goal

pub first-seen-requires : goal.first-seen-requires
first-seen-requires g c = has_first _ _ _ _ c.sight.invariant.3 (is_there _ c.sight.invariant.0)

pub new-requires : goal.new-requires
new-requires g c = may_test _ _ _ _ (behind _ _ _ _ _ _ _ c.first-seen.ensures.1 refl c.sight.invariant.3)

pub invariant_of-result : goal.invariant_of-result
invariant_of-result g c =
    let ahead = behind _ _ _ _ _ _ c.as_ptr.result c.first-seen.ensures.1 (c.as_ptr.ensures ∙ c.in-Some.ensures.value) c.sight.invariant.3 in
    (starts_there _ _ _ _ ahead (subst InBlock (sym c.as_ptr.ensures) c.in-Some.ensures.non_null), _, _, ahead)

pub returns-in-None : goal.returns-in-None
returns-in-None g c = sym c.sight.view_is ∙ ap values (only_one _ _ _ _ _ _ _ c.first-seen.ensures.1 refl c.in-None.ensures.null c.sight.invariant.3)

use Rattle.std.proofs.Common.{◌≡◌, ◌∙◌, ◌<◌, ◌∷◌, [], ap, arith, length, subst, sym, List, ℕ}
use Rattle.std.specs.Prelude.{Some, slice_get}
use Rattle.std.specs.List.{All}
use Rattle.std.proofs.lemmas.List.Elements.{All-append, All-cons, All-nil}
use Rattle.derivations.specs.declared.publishing.Query.{Query}
use Rattle.lineage.proofs.AskedLemmas.{work_step, work_whole}
use Rattle.lineage.proofs.asking.in_order_of_work.Goals as goal

-- one more query, which has the number at this place
pub loop-place-preserved : goal.loop-place-preserved
loop-place-preserved c =
    let P = λ (query : Query). query.stream < length c.args.catalogue.now.streams in
    let less : c.loop-place.place < length c.args.catalogue.now.order = (let same = ap length c.order-order.ensures.value in omega (arith, same)) in
    let at : slice_get c.args.catalogue.now.order c.loop-place.place ≡ Some c.get.result = ap (λ (ns : List ℕ). slice_get ns c.loop-place.place) (sym c.order-order.ensures.value) ∙ c.get.ensures.value in
    let longer = c.in_ok-add.ensures.ok in (
      work_step c.args.catalogue.now c.order-order.ensures.stands c.loop-place.place c.get.result c.loop-place.queries c.add.new.self c.asked.result less at c.asked.ensures.work c.loop-place.invariant.0 longer,
      subst (All P) (sym longer) (All-append P c.loop-place.queries (c.asked.result ∷ []) c.loop-place.invariant.1 (All-cons P c.asked.result [] c.asked.ensures.within (All-nil P))),
    )

-- at the end these are all
pub returns-clause-work : goal.returns-clause-work
returns-clause-work c = work_whole c.args.catalogue.now c.order-order.ensures.stands c.loop-place.queries c.loop-place.place (let same = ap length c.order-order.ensures.value in omega (arith, same)) c.loop-place.invariant.0

use Rattle.std.proofs.Common.{◌≡◌, ◌∙◌, ◌<◌, get_or, subst, arith}
use Rattle.std.proofs.lemmas.List.Elements.{All-get_or}
use Rattle.std.proofs.lemmas.Option.{get_or_from_slice_get}
use Rattle.catalogue.specs.declared.numbering.Published.{Published}
use Rattle.catalogue.specs.Sharing.{with_share}
use Rattle.catalogue.proofs.CountedLemmas.{lines_within}
use Rattle.catalogue.proofs.LeftStreamsLemmas.{numbered_here}
use Rattle.catalogue.proofs.ShareLemmas.{shares_all, shares_more}
use Rattle.catalogue.proofs.sharing.share_all.Goals as goal

-- its hidden streams stand behind its own
pub share_one-share-requires-clause-ahead : goal.share_one-share-requires-clause-ahead
share_one-share-requires-clause-ahead c =
    let published = c.args.published.now in
    let place = c.loop-place.place in
    let here : get_or published place c.get.result.now ≡ c.get.result.now = get_or_from_slice_get published place c.get.result.now c.get.result.now c.get.ensures in
    subst (λ (p : Published). p.stream < p.hidden) here (All-get_or (λ (p : Published). p.stream < p.hidden) published place c.get.result.now (omega (arith, c.loop-place-test.true, c.len-place-end.ensures)) c.requires.ahead)

-- numbers are left for its hidden streams
pub share_one-share-requires-clause-numbers : goal.share_one-share-requires-clause-numbers
share_one-share-requires-clause-numbers c =
    numbered_here c.args.published.now c.args.expressions.now c.requires.typed c.loop-place.place (omega (arith, c.loop-place-test.true, c.len-place-end.ensures)) c.get.result.now c.get-in-loop-place.result.now c.get.ensures c.get-in-loop-place.ensures
    c.requires.numbers

-- its lines are few
pub share_one-share-requires-clause-few : goal.share_one-share-requires-clause-few
share_one-share-requires-clause-few c =
    omega (arith, lines_within c.args.expressions.now c.loop-place.place c.get-in-loop-place.result.now (omega (arith, c.loop-place-test.true, c.len-place-end.ensures, c.requires.typed)) c.get-in-loop-place.ensures, c.requires.few)

-- the share of one query more
pub loop-place-preserved : goal.loop-place-preserved
loop-place-preserved c =
    c.in_ok-add.ensures.ok ∙ (λ t. with_share (c.loop-place.invariant t) (c.share_one-share.ensures t))
    ∙ shares_more c.args.published.now c.args.expressions.now c.loop-place.place c.requires.typed c.get.result.now c.get-in-loop-place.result.now (omega (arith, c.loop-place-test.true, c.len-place-end.ensures)) c.get.ensures c.get-in-loop-place.ensures

pub returns : goal.returns
returns c = c.loop-place.invariant ∙ shares_all c.args.published.now c.args.expressions.now c.loop-place.place c.requires.typed (omega (arith, c.loop-place-test.false, c.len-place-end.ensures))

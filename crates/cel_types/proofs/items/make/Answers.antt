use Rattle.std.proofs.Common.{◌≡◌, length, map, drop, refl, ◌+◌}
use Rattle.std.specs.Prelude.{Some, slice_get}
use Rattle.std.proofs.lemmas.Option.{slice_get_read}
use Rattle.std.proofs.lemmas.Result.{err_from_is_err_and}
use Rattle.cel_grammar.specs.Views.{item_of}
use Rattle.cel_types.specs.Items.{none}
use Rattle.cel_types.proofs.MakeLemmas.{fail-append, fail-more, make-more}
use Rattle.cel_types.proofs.SplitLemmas.{map-at, map-split}
use Rattle.cel_types.proofs.items.make.Goals as goal

pub loop-item-init : goal.loop-item-init
loop-item-init c = rw (c.new.ensures, c.new-2.ensures) none

pub returns-in_err-add_item-clause-err : goal.returns-in_err-add_item-clause-err
returns-in_err-add_item-clause-err c =
    let items = c.args.items.now in
    let i = c.loop-item.item-index in
    let item = c.item-item.result in
    let at : slice_get items i ≡ Some item = slice_get_read items (length items) i item refl c.loop-item-test.true c.item-item.is in
    let p = err_from_is_err_and c.from_residual.result c.from_residual.ensures.1 in
    rw (p.1, p.2) (λ known.
    rw (← map-split item_of items i item at)
    (fail-more (map item_of (drop (i + 1) items)) (fail-append c.loop-item.invariant (c.in_err-add_item.ensures.err known))))

pub loop-item-preserved : goal.loop-item-preserved
loop-item-preserved c =
    let items = c.args.items.now in
    let i = c.loop-item.item-index in
    let item = c.item-item.result in
    let at : slice_get items i ≡ Some item = slice_get_read items (length items) i item refl c.loop-item-test.true c.item-item.is in
    rw (map-at item_of items i item at) (make-more c.loop-item.invariant c.in_ok-add_item.ensures.ok)

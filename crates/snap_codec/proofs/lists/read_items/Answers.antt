use Rattle.std.proofs.lemmas.Result.{err_from_is_err_and}
use Rattle.snap_codec.specs.Reading.{items_at}
use Rattle.snap_codec.proofs.ListLemmas.{ends, goes_on, is_done}
use Rattle.snap_codec.proofs.lists.read_items.Goals as goal

pub returns-in_err-item : goal.returns-in_err-item
returns-in_err-item g c =
    let p = err_from_is_err_and c.from_residual.result c.from_residual.ensures.1 in
    rw (p.1, p.2) (ends (g.T.Stored.read_at c.args.total) c.items.items c.args.count c.items.counter c.items.rest.now (items_at (g.T.Stored.read_at c.args.total) c.args.count c.args.bytes.now) c.in_err-item.field-0.0 c.items-test.true c.in_err-item.ensures c.items.invariant)

pub items-preserved : goal.items-preserved
items-preserved g c =
    rw (c.in_ok-add.ensures.ok) (goes_on (g.T.Stored.read_at c.args.total) c.items.items c.args.count c.items.counter c.items.rest.now (items_at (g.T.Stored.read_at c.args.total) c.args.count c.args.bytes.now) c.in_ok-item.item c.in_ok-item.after.now c.items-test.true c.in_ok-item.ensures c.items.invariant)

pub returns : goal.returns
returns g c = is_done (g.T.Stored.read_at c.args.total) c.items.items c.args.count c.items.counter c.items.rest.now (items_at (g.T.Stored.read_at c.args.total) c.args.count c.args.bytes.now) c.items-test.false c.items.invariant
